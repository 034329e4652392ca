-- The text of a status file, as RAUC's manual describes it.
use Rattle.std.specs.Prelude.{ℕ, Bool, ◌==◌, ◌&&◌, not, nat_lt, List, [], ◌∷◌, ◌++◌, codes, decimal, filter, filter_map, length, map, Option, Some, None, option_map, option_and_then, if◌then◌else◌}
use Rattle.std.specs.List.{list_all, zip}
use Rattle.conf_forms.specs.SlotNames.{is_slot_name}
use Rattle.hex.specs.Hex.{encode_lower}
use Rattle.updater_text.specs.declared.digest.Digest.{Digest}
use Rattle.keyfile.specs.Canonical.{canonical}
use Rattle.keyfile.specs.Groups.{Text, Entry, Group, all_distinct}
use Rattle.manifest.specs.Contents.{BundleContent}
use Rattle.slot_status.specs.Records.{RecordContent, slot_group}

-- a key, with its value where there is one
abbrev pub Row : Type 0
Row = Text × Option Text

-- the keys of what a bundle said of itself
abbrev pub bundle_rows : Option BundleContent → List Row
bundle_rows bundle =
    (codes "bundle.compatible", option_map (λ b. b.compatible) bundle)
    ∷ (codes "bundle.version", option_and_then (λ b. b.version) bundle)
    ∷ (codes "bundle.description", option_and_then (λ b. b.description) bundle)
    ∷ (codes "bundle.build", option_and_then (λ b. b.build) bundle) ∷ []

-- a count is written where it is above 0
abbrev pub count_text : ℕ → Option Text
count_text count = if nat_lt 0 count then Some (decimal count) else None

-- a digest is written in lower case
abbrev pub digest_text : Option Digest → Option Text
digest_text digest = option_map (λ d. encode_lower d.0) digest

-- the keys of the state of the slot, and of the image that it was installed from
abbrev pub state_rows : RecordContent → List Row
state_rows r =
    (codes "status", r.status)
    ∷ (codes "sha256", digest_text r.digest)
    ∷ (codes "size", option_map decimal r.size) ∷ []

-- the keys of when and how often
abbrev pub time_rows : RecordContent → List Row
time_rows r =
    (codes "installed.timestamp", r.installed_time)
    ∷ (codes "installed.count", count_text r.installed_count)
    ∷ (codes "activated.timestamp", r.activated_time)
    ∷ (codes "activated.count", count_text r.activated_count) ∷ []

-- all keys of a record, in written order
abbrev pub rows : RecordContent → List Row
rows r = bundle_rows r.bundle ++ state_rows r ++ time_rows r

-- the keys that have a value
abbrev pub entries_of : List Row → List Entry
entries_of given = filter_map (λ row. option_map (λ value. (row.0, value)) row.1) given

-- the group of a slot
abbrev pub group_of : Text × RecordContent → Group
group_of p = (slot_group p.0, entries_of (rows p.1))

-- the group has a key
abbrev pub has_entry : Group → Bool
has_entry g = not (length g.1 == 0)

-- the groups of the slots of which anything is known
abbrev pub book_groups : List Text → List RecordContent → List Group
book_groups names book = filter has_entry (map group_of (zip names book))

-- the text of a book of the slots of these names
abbrev pub book_text : List Text → List RecordContent → Text
book_text names book = canonical (book_groups names book)

-- the names of slots
abbrev pub are_slot_names : List Text → Bool
are_slot_names names = list_all is_slot_name names && all_distinct names
