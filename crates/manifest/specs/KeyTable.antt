-- The groups and keys of a manifest.
use Rattle.std.specs.Prelude.{◌==◌, List, [], ◌∷◌, codes, if◌then◌else◌}
use Rattle.std.specs.List.{before_first}
use Rattle.keyfile.specs.Groups.{Text}
use Rattle.conf_forms.specs.Classes.{is_class}
use Rattle.conf_forms.specs.Tables.{GroupRule, unknown, left_out, unread, keyed, Table}
use Rattle.conf_forms.specs.declared.form.Form.{Form}
use Rattle.conf_forms.specs.declared.form.Form.TheVariants as form
use Rattle.manifest.specs.declared.key_table.GroupKind.{GroupKind}
use Rattle.manifest.specs.declared.key_table.GroupKind.TheVariants as kind

-- the keys of `[update]`
abbrev pub update_keys : List (Text × Form)
update_keys =
    (codes "compatible", form.Text) ∷ (codes "version", form.Text) ∷ (codes "description", form.Text) ∷ (codes "build", form.Text) ∷ []

-- the keys of `[hooks]`
abbrev pub hook_keys : List (Text × Form)
hook_keys = (codes "filename", form.Free) ∷ (codes "hooks", form.BundleHooks) ∷ []

-- the keys of an image
abbrev pub image_keys : List (Text × Form)
image_keys =
    (codes "filename", form.Free) ∷ (codes "size", form.Number) ∷ (codes "sha256", form.Free)
    ∷ (codes "hooks", form.ImageHooks) ∷ (codes "adaptive", form.Free)
    ∷ (codes "type", form.LeftOut) ∷ (codes "convert", form.LeftOut) ∷ (codes "converted", form.LeftOut) ∷ []

-- what a group is whose name is `image.` and this: the image of a class; that of a variant, which is left out; or none
abbrev pub image_rule : Text → GroupRule
image_rule name =
    if is_class name then keyed image_keys
    else (if is_class (before_first (λ b. b == 46) name) then left_out else unknown)

-- the groups, with their keys
abbrev pub manifest_table : Table
manifest_table = record {
  named =
      (codes "update", keyed update_keys) ∷ (codes "hooks", keyed hook_keys)
      ∷ (codes "bundle", unread) ∷ (codes "handler", left_out) ∷ [];
  families = (codes "image.", image_rule) ∷ (codes "meta.", λ label. unread) ∷ [];
}

-- what the table says of groups of a kind, by the code's word for it
abbrev pub kind_rule : GroupKind → GroupRule
kind_rule kind.Update = keyed update_keys
kind_rule kind.Hooks = keyed hook_keys
kind_rule kind.Image = keyed image_keys
kind_rule kind.Unread = unread
kind_rule kind.LeftOut = left_out
kind_rule kind.Unknown = unknown
