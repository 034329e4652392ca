-- How the record of a slot changes.
use Rattle.std.specs.Prelude.{ℕ, zero, suc, ◌+◌, ℤ, unsigned_abs, List, [], ◌∷◌, codes, Option, Some, option_map}
use Rattle.keyfile.specs.Groups.{Text}
use Rattle.manifest.specs.Contents.{BundleContent}
use Rattle.manifest.specs.declared.image.ImageFile.{ImageFile}
use Rattle.slot_status.specs.Records.{RecordContent}
use Rattle.slot_status.specs.Times.{time_text}

-- a list with one item changed
abbrev pub changed_at : {A : Type 0} → ℕ → (A → A) → List A → List A
changed_at at change [] = []
changed_at zero change (x ∷ more) = change x ∷ more
changed_at (suc at) change (x ∷ more) = x ∷ changed_at at change more

-- an update of the slot has begun
abbrev pub begin_record : RecordContent → RecordContent
begin_record r = record r { status = Some (codes "update") }

-- the slot was installed at this time: from the file of an image of this bundle, or by a hook
abbrev pub finish_record : BundleContent → Option ImageFile → Text → RecordContent → RecordContent
finish_record bundle file time r = record r {
  bundle = Some bundle;
  status = Some (codes "ok");
  digest = option_map (λ f. f.digest) file;
  size = option_map (λ f. f.size) file;
  installed_time = Some time;
  installed_count = r.installed_count + 1;
}

-- the slot was made the one to boot from at this time
abbrev pub activate_record : Text → RecordContent → RecordContent
activate_record time r = record r { activated_time = Some time; activated_count = r.activated_count + 1 }

-- the book after each of the three, the time being so many seconds after 1970 began
abbrev pub begun : ℕ → List RecordContent → List RecordContent
begun slot book = changed_at slot begin_record book

abbrev pub finished : ℕ → BundleContent → Option ImageFile → ℤ → List RecordContent → List RecordContent
finished slot bundle file seconds book = changed_at slot (finish_record bundle file (time_text (unsigned_abs seconds))) book

abbrev pub activated : ℕ → ℤ → List RecordContent → List RecordContent
activated slot seconds book = changed_at slot (activate_record (time_text (unsigned_abs seconds))) book
