-- How an image is put on the device of its slot, and how that is made to last.
use Rattle.std.specs.Prelude.{◌≡◌, ◌≢◌, ◌⊎◌, ℕ, Bool, IsTrue, [], slice_get, Result, Ok, Err, OnOk, ⊤}
use Rattle.std.specs.Option.{option_map_or}
use Rattle.keyfile.specs.Groups.{Text}
use Rattle.machine.specs.Past.{Always, Fails, Past, world_now}
use Rattle.machine.specs.Stops.{stop_fault}
use Rattle.machine.specs.World.{with_sync}
use Rattle.machine.specs.declared.stops.Stop.{Stop}
use Rattle.machine.specs.declared.stops.Stop.TheVariants.{Refused, Outside, NoMemory}
use Rattle.machine.specs.declared.world.World.{World}
use Rattle.raw_writer.specs.Putting.{IsPutWhole, written_whole}
use Rattle.raw_writer.specs.Whole.{IsWritten}
use Rattle.raw_writer.specs.declared.check.PutRefusal.{PutRefusal}
use Rattle.raw_writer.specs.declared.check.PutRefusal.TheVariants.{ImageDigest}
use Rattle.raw_writer.specs.declared.put.PutJob.{PutJob}
use Rattle.raw_writer.specs.declared.put.Written.{Written}
use Rattle.updater_text.specs.declared.digest.Digest.{Digest}
use Rattle.install_facts.specs.Facts.{FactsContent}
use Rattle.install_facts.specs.declared.refusal.InstallRefusal.{InstallRefusal}
use Rattle.install_facts.specs.declared.refusal.InstallRefusal.TheVariants.{Image}
use Rattle.install_steps.specs.Steps.{EitherOf, PutPart, file_of, piece}

-- the file's name and the image's place, of a job
abbrev pub name_of : FactsContent → ℕ → Text
name_of f job = option_map_or (λ file. file.name) (file_of f job) []

abbrev pub image_place : FactsContent → ℕ → ℕ
image_place f job = option_map_or (λ j. j.image) (slice_get f.jobs job) 0

-- the refusal names the image, unless memory is out for that
abbrev pub IsImageStop : FactsContent → ℕ → PutRefusal → Stop InstallRefusal → Type 0
IsImageStop f job cause stop = (stop ≡ Refused (Image (image_place f job) (name_of f job) cause)) ⊎ (stop ≡ NoMemory)

-- all of the image was written, and its SHA-256 is another one than the manifest's
pub record OtherDigest (f : FactsContent) (job : ℕ) (put : PutJob) (w v : World) (why : InstallRefusal) : Type 0 where
  pub found : Digest
  pub written : IsWritten put.image put.device piece put.size found w v
  pub other : put.digest ≢ found
  pub is : why ≡ Image (image_place f job) (name_of f job) (ImageDigest put.digest found)

-- what a put of a job's image leaves, and why it is refused
abbrev pub JobPut : FactsContent → ℕ → PutJob → World → World → Result Written (Stop InstallRefusal) → Type 0
JobPut f job put w v (Ok written) = (written ≡ written_whole put.digest) × IsPutWhole put piece w v
JobPut f job put w v (Err (Refused why)) = OtherDigest f job put w v why
JobPut f job put w v (Err (Outside kind)) = Unit {0}
JobPut f job put w v (Err NoMemory) = Unit {0}

-- where told: at each moment the first of the pieces were written, in order, and nothing beside them; and so it ends
pub record PutsJob (tells : Bool) (f : FactsContent) (job : ℕ) (put : PutJob) (old new : Past) (result : Result Written (Stop InstallRefusal)) : Type 0 where
  pub moments : IsTrue tells → Always old new (PutPart put (world_now old))
  pub ends : IsTrue tells → JobPut f job put (world_now old) (world_now new) result
  pub fails : Fails tells old new (stop_fault result)

-- where told: nothing was changed but what is pending on the device, of which there is nothing at the end
pub record SettlesSlot (tells : Bool) (device : Text) (old new : Past) (result : Result ⊤ (Stop InstallRefusal)) : Type 0 where
  pub moments : IsTrue tells → Always old new (EitherOf (world_now old) (with_sync (world_now old) device))
  pub after : IsTrue tells → OnOk result (world_now new ≡ with_sync (world_now old) device)
  pub fails : Fails tells old new (stop_fault result)
