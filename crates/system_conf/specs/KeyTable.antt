-- The groups and keys of a configuration.
use Rattle.std.specs.Prelude.{List, [], ◌∷◌, codes}
use Rattle.keyfile.specs.Groups.{Text}
use Rattle.conf_forms.specs.Tables.{GroupRule, unknown, left_out, unread, keyed, Table}
use Rattle.conf_forms.specs.declared.form.Form.{Form}
use Rattle.conf_forms.specs.declared.form.Form.TheVariants as form
use Rattle.system_conf.specs.declared.key_table.GroupKind.{GroupKind}
use Rattle.system_conf.specs.declared.key_table.GroupKind.TheVariants as kind

-- the keys of `[system]`
abbrev pub system_keys : List (Text × Form)
system_keys =
    (codes "compatible", form.Compatible) ∷ (codes "bootloader", form.Loader)
    ∷ (codes "mountprefix", form.Directory) ∷ (codes "statusfile", form.StatusFile) ∷ (codes "data-directory", form.Directory)
    ∷ (codes "grubenv", form.Path) ∷ (codes "barebox-statename", form.Free)
    ∷ (codes "boot-attempts", form.Attempts) ∷ (codes "boot-attempts-primary", form.Attempts)
    ∷ (codes "efi-use-bootnext", form.Flag) ∷ (codes "activate-installed", form.Activation)
    ∷ (codes "bundle-formats", form.Free) ∷ (codes "max-bundle-download-size", form.Free) ∷ (codes "max-bundle-signature-size", form.Free)
    ∷ (codes "variant-name", form.LeftOut) ∷ (codes "variant-file", form.LeftOut) ∷ (codes "variant-dtb", form.LeftOut)
    ∷ (codes "prevent-late-fallback", form.LeftOut) ∷ (codes "min-bundle-version", form.LeftOut) ∷ (codes "barebox-dtbpath", form.LeftOut) ∷ []

-- the keys of a slot
abbrev pub slot_keys : List (Text × Form)
slot_keys =
    (codes "device", form.Path) ∷ (codes "type", form.SlotType) ∷ (codes "bootname", form.BootName) ∷ (codes "parent", form.Free)
    ∷ (codes "allow-mounted", form.Flag) ∷ (codes "readonly", form.Flag) ∷ (codes "install-same", form.Flag)
    ∷ (codes "extra-mount-opts", form.Free) ∷ (codes "extra-mkfs-opts", form.Free)
    ∷ (codes "region-start", form.LeftOut) ∷ (codes "region-size", form.LeftOut) ∷ (codes "resize", form.LeftOut) ∷ []

-- the keys of `[handlers]`
abbrev pub handler_keys : List (Text × Form)
handler_keys =
    (codes "pre-install", form.Path) ∷ (codes "post-install", form.Path) ∷ (codes "bootloader-custom-backend", form.Path)
    ∷ (codes "system-info", form.LeftOut) ∷ []

-- the keys of `[x-helpers]`
abbrev pub helper_keys : List (Text × Form)
helper_keys = (codes "bundle-check", form.Path) ∷ (codes "bundle-mount", form.Path) ∷ (codes "bundle-umount", form.Path) ∷ []

-- the groups, with their keys
abbrev pub system_table : Table
system_table = record {
  named =
      (codes "system", keyed system_keys) ∷ (codes "handlers", keyed handler_keys) ∷ (codes "x-helpers", keyed helper_keys)
      ∷ (codes "keyring", unread) ∷ (codes "streaming", unread) ∷ (codes "encryption", unread) ∷ (codes "casync", unread)
      ∷ (codes "polling", left_out) ∷ (codes "autoinstall", left_out) ∷ [];
  families = (codes "slot.", λ name. keyed slot_keys) ∷ (codes "log.", λ name. unread) ∷ (codes "artifacts.", λ name. left_out) ∷ [];
}

-- what the table says of groups of a kind, by the code's word for it
abbrev pub kind_rule : GroupKind → GroupRule
kind_rule kind.System = keyed system_keys
kind_rule kind.Slot = keyed slot_keys
kind_rule kind.Handlers = keyed handler_keys
kind_rule kind.Helpers = keyed helper_keys
kind_rule kind.Unread = unread
kind_rule kind.LeftOut = left_out
kind_rule kind.Unknown = unknown
