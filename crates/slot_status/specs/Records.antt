-- The records of the slots, and what a status file says of them, as RAUC's manual describes that file.
use Rattle.std.specs.Prelude.{ℕ, ◌^◌, nat_lt, Bool, ◌||◌, List, ◌++◌, codes, map, Option, None, is_some, option_map, option_and_then, unwrap_or, slice_index_or, Result, Ok, Err}
use Rattle.updater_text.specs.Digests.{digest_of}
use Rattle.updater_text.specs.Numbers.{number_of}
use Rattle.updater_text.specs.declared.digest.Digest.{Digest}
use Rattle.keyfile.specs.Groups.{Text, Group, get_in}
use Rattle.keyfile.specs.Reading.{read_of}
use Rattle.keyfile.specs.declared.fault.KeyFault.{KeyFault}
use Rattle.conf_forms.specs.Forms.{is_text}
use Rattle.conf_forms.specs.Lists.{keep_if}
use Rattle.manifest.specs.Contents.{BundleContent}

-- the record of a slot, as clauses see it
pub record RecordContent : Type 0 where
  pub bundle : Option BundleContent
  pub status : Option Text
  pub digest : Option Digest
  pub size : Option ℕ
  pub installed_time : Option Text
  pub installed_count : ℕ
  pub activated_time : Option Text
  pub activated_count : ℕ

-- that of a slot of which nothing is known
abbrev pub no_record : RecordContent
no_record = record { bundle = None; status = None; digest = None; size = None; installed_time = None; installed_count = 0; activated_time = None; activated_count = 0 }

-- anything is known of the slot: its record has a value, or a count above 0
abbrev pub is_known : RecordContent → Bool
is_known r =
    (is_some r.bundle || (is_some r.status || (is_some r.digest || is_some r.size)))
    || ((is_some r.installed_time || nat_lt 0 r.installed_count) || (is_some r.activated_time || nat_lt 0 r.activated_count))

-- the record at a place
abbrev pub record_at : List RecordContent → ℕ → RecordContent
record_at book slot = slice_index_or book slot no_record

-- the group of a slot in a status file
abbrev pub slot_group : Text → Text
slot_group name = codes "slot." ++ name

-- a value that is a text of at most 1,024 bytes
abbrev pub text_of : Option Text → Option Text
text_of value = keep_if is_text value

-- a value that is a count below 2^32; where there is none, the count is 0
abbrev pub count_of : Option Text → ℕ
count_of value = unwrap_or (keep_if (λ n. nat_lt n (2 ^ 32)) (option_and_then number_of value)) 0

-- what a bundle said of itself, where `bundle.compatible` is there
abbrev pub bundle_by : (Text → Option Text) → Option BundleContent
bundle_by value = option_map (λ compatible. record {
  compatible = compatible;
  version = text_of (value (codes "bundle.version"));
  description = text_of (value (codes "bundle.description"));
  build = text_of (value (codes "bundle.build"));
}) (text_of (value (codes "bundle.compatible")))

-- the record by the values of a group's keys; what cannot be read is not there
unfoldable pub record_by : (Text → Option Text) → RecordContent
record_by value = record {
  bundle = bundle_by value;
  status = text_of (value (codes "status"));
  digest = option_and_then digest_of (value (codes "sha256"));
  size = option_and_then number_of (value (codes "size"));
  installed_time = text_of (value (codes "installed.timestamp"));
  installed_count = count_of (value (codes "installed.count"));
  activated_time = text_of (value (codes "activated.timestamp"));
  activated_count = count_of (value (codes "activated.count"));
}

-- the record of the slot of this name
abbrev pub record_of : List Group → Text → RecordContent
record_of groups name = record_by (λ key. get_in groups (slot_group name) key)

-- one record for each slot, or why the text is no key file
abbrev pub records_in : List Text → Result (List Group) KeyFault → Result (List RecordContent) KeyFault
records_in names (Ok groups) = Ok (map (record_of groups) names)
records_in names (Err fault) = Err fault

-- the book that a status file holds of the slots of these names
abbrev pub book_of : List Text → Text → Result (List RecordContent) KeyFault
book_of names bytes = records_in names (read_of bytes)
