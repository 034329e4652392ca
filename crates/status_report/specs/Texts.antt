-- What there is to tell of the slots, as text.
use Rattle.std.specs.Prelude.{ℕ, ◌+◌, Bool, [], ◌++◌, codes, decimal, length, option_map, unwrap_or}
use Rattle.std.specs.List.{enumerate_from, flat_map}
use Rattle.std.specs.Option.{option_map_or}
use Rattle.hex.specs.Hex.{encode_lower}
use Rattle.keyfile.specs.Groups.{Text}
use Rattle.report_lines.specs.Lines.{line, line_if_any, numbered, setting, text_if}
use Rattle.slot_status.specs.Records.{RecordContent, record_at}
use Rattle.system_conf.specs.Slots.{name_at, parent_name, word_of}
use Rattle.system_conf.specs.declared.slot.Slot.{Slot}
use Rattle.system_conf.specs.Configuration.{Configuration}
use Rattle.updater_text.specs.declared.form.Form.{Form}
use Rattle.updater_text.specs.declared.form.Form.TheVariants as form
use Rattle.status_report.specs.Words.{boot_status_at, booted_word, numbers, shown_at, state_at, time_word}
use Rattle.status_report.specs.declared.view.StatusView.{StatusView}

-- ---- for a reader

-- of which image a slot was installed, as the status file has it
unfoldable pub image_lines : RecordContent → Text
image_lines r =
    line_if_any (codes "  status: ") r.status
    ++ (line_if_any (codes "  sha256: ") (option_map (λ d. encode_lower d.0) r.digest)
    ++ line_if_any (codes "  size: ") (option_map decimal r.size))

-- when and how often it was installed and activated
unfoldable pub time_lines : RecordContent → Text
time_lines r =
    line_if_any (codes "  installed: ") (option_map (time_word r.installed_count) r.installed_time)
    ++ line_if_any (codes "  activated: ") (option_map (time_word r.activated_count) r.activated_time)

unfoldable pub record_lines : RecordContent → Text
record_lines r = image_lines r ++ time_lines r

-- what the configuration has of a slot
unfoldable pub device_lines : Slot → Text
device_lines s =
    line (codes "slot ") s.name ++ (line (codes "  device: ") s.device ++ line (codes "  type: ") (word_of s.kind))

-- whether it runs and may be booted, and the slot that it belongs to
unfoldable pub state_lines : Configuration → StatusView → ℕ × Slot → Text
state_lines s v p =
    line (codes "  state: ") (state_at v p.0)
    ++ (line_if_any (codes "  bootname: ") p.1.bootname
    ++ (line_if_any (codes "  boot status: ") (boot_status_at v p.0)
    ++ line_if_any (codes "  parent: ") (parent_name s.slots p.1)))

-- a slot, by its place
unfoldable pub slot_lines : Configuration → StatusView → Bool → ℕ × Slot → Text
slot_lines s v detailed p =
    device_lines p.1 ++ (state_lines s v p ++ text_if detailed (record_lines (record_at v.book p.0)))

unfoldable pub system_lines : Configuration → StatusView → Text
system_lines s v =
    line (codes "compatible: ") s.compatible
    ++ (line (codes "booted: ") (booted_word (shown_at s.slots) v.booted)
    ++ line (codes "primary: ") (option_map_or (shown_at s.slots) v.primary (codes "none")))

unfoldable pub readable : Configuration → StatusView → Bool → Text
readable s v detailed = system_lines s v ++ flat_map (slot_lines s v detailed) (enumerate_from 0 s.slots)

-- ---- for a shell; what is not there is empty

-- a slot by its number, and its state
unfoldable pub device_settings : StatusView → ℕ → ℕ × Slot → Text
device_settings v number p =
    numbered (codes "RAUC_SLOT_NAME_") number p.1.name
    ++ (numbered (codes "RAUC_SLOT_STATE_") number (state_at v p.0)
    ++ numbered (codes "RAUC_SLOT_DEVICE_") number p.1.device)

unfoldable pub boot_settings : Configuration → StatusView → ℕ → ℕ × Slot → Text
boot_settings s v number p =
    numbered (codes "RAUC_SLOT_BOOTNAME_") number (unwrap_or p.1.bootname [])
    ++ (numbered (codes "RAUC_SLOT_PARENT_") number (unwrap_or (parent_name s.slots p.1) [])
    ++ numbered (codes "RAUC_SLOT_BOOT_STATUS_") number (unwrap_or (boot_status_at v p.0) []))

-- a slot, by its place; its number is one higher
unfoldable pub slot_settings : Configuration → StatusView → ℕ × Slot → Text
slot_settings s v p = device_settings v (p.0 + 1) p ++ boot_settings s v (p.0 + 1) p

unfoldable pub system_settings : Configuration → StatusView → Text
system_settings s v =
    setting (codes "RAUC_SYSTEM_COMPATIBLE") s.compatible
    ++ (setting (codes "RAUC_SYSTEM_BOOTED_SLOT") (booted_word (name_at s.slots) v.booted)
    ++ setting (codes "RAUC_BOOT_PRIMARY") (option_map_or (name_at s.slots) v.primary []))

unfoldable pub shell : Configuration → StatusView → Text
shell s v =
    system_settings s v
    ++ (setting (codes "RAUC_SYSTEM_SLOTS") (numbers (length s.slots)) ++ flat_map (slot_settings s v) (enumerate_from 0 s.slots))

-- ---- either

abbrev pub status_text : Configuration → StatusView → Form → Bool → Text
status_text s v form.Readable detailed = readable s v detailed
status_text s v form.Shell detailed = shell s v
