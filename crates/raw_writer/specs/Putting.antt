-- What it means that an image was put on the device of a slot, and why it was not.
use Rattle.std.specs.Prelude.{◌≡◌, ◌≢◌, ◌≤◌, ◌<◌, ℕ, Bool, true, IsTrue, IsSomeAnd, List, length, Result, Ok, Err}
use Rattle.updater_text.specs.Counts.{CountRose}
use Rattle.updater_text.specs.declared.digest.Digest.{Digest}
use Rattle.machine.specs.declared.stops.Stop.{Stop}
use Rattle.machine.specs.declared.stops.Stop.TheVariants.{Refused, Outside, NoMemory}
use Rattle.machine.specs.declared.world.World.{World}
use Rattle.machine.specs.Past.{Past, world_now}
use Rattle.machine.specs.World.{disk, readable}
use Rattle.raw_writer.specs.declared.check.PutRefusal.{PutRefusal}
use Rattle.raw_writer.specs.declared.check.PutRefusal.TheVariants.{ImageSize, ImageDigest}
use Rattle.raw_writer.specs.declared.put.PutJob.{PutJob}
use Rattle.raw_writer.specs.declared.put.Written.{Written}
use Rattle.raw_writer.specs.Whole.{IsWhole, IsWritten}

-- where told, the image has this length
pub record HasLength (tells : Bool) (past : Past) (image : List ℕ) (size : ℕ) : Type 0 where
  pub is : IsTrue tells → length (readable (world_now past) image) ≡ size

-- one whole write was made, of an image of this digest, and no pass over blocks
abbrev pub written_whole : Digest → Written
written_whole digest = record { digest = digest; kept = 0; borrowed = 0; fetched = 0; whole = true }

-- told or not: a put that is done has the digest that is stated, and a refusal its cause
abbrev pub PutAnswers : PutJob → Result Written (Stop PutRefusal) → Type 0
PutAnswers job (Ok written) = written ≡ written_whole job.digest
PutAnswers job (Err (Refused (ImageSize stated found))) = (stated ≡ job.size) × (found < stated)
PutAnswers job (Err (Refused (ImageDigest stated found))) = (stated ≡ job.digest) × (stated ≢ found)
PutAnswers job (Err (Refused refusal)) = ⊥
PutAnswers job (Err (Outside kind)) = Unit {0}
PutAnswers job (Err NoMemory) = Unit {0}

-- the image was written whole, in pieces of this length, and with it the device begins with what the job states
pub record IsPutWhole (job : PutJob) (piece : ℕ) (old w : World) : Type 0 where
  pub written : IsWritten job.image job.device piece job.size job.digest old w
  pub whole : IsSomeAnd (disk w job.device) (λ bytes. IsWhole bytes job.size job.digest)

-- what a put leaves: an image of another digest stands on the device all the same, and none is short;
-- where a call failed or wanted memory, no more than what holds at each moment
abbrev pub PutEnds : PutJob → ℕ → World → World → Result Written (Stop PutRefusal) → Type 0
PutEnds job piece old w (Ok written) = IsPutWhole job piece old w
PutEnds job piece old w (Err (Refused (ImageDigest stated found))) = IsWritten job.image job.device piece job.size found old w
PutEnds job piece old w (Err (Refused refusal)) = ⊥
PutEnds job piece old w (Err (Outside kind)) = Unit {0}
PutEnds job piece old w (Err NoMemory) = Unit {0}

-- counts never fall; a fault is answered only where that of faults rose, and out of memory only where that of wants rose
abbrev pub PutCounted : ℕ → ℕ → ℕ → ℕ → Result Written (Stop PutRefusal) → Type 0
PutCounted faults faults' wants wants' (Ok written) = (faults ≤ faults') × (wants ≤ wants')
PutCounted faults faults' wants wants' (Err (Refused refusal)) = (faults ≤ faults') × (wants ≤ wants')
PutCounted faults faults' wants wants' (Err (Outside kind)) = CountRose faults faults' × (wants ≤ wants')
PutCounted faults faults' wants wants' (Err NoMemory) = (faults ≤ faults') × CountRose wants wants'
