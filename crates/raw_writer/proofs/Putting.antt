-- An image that was put on a device.
use Rattle.std.proofs.Common.{◌≡◌, ◌≤◌, ℕ, List, length, take, drop, length-append, Option, Some, sym, ◌∙◌, ap, subst, arith}
use Rattle.std.specs.Prelude.{IsSomeAnd}
use Rattle.std.specs.Option.{option_map}
use Rattle.std.proofs.lemmas.List.{length-take-le, take_at}
use Rattle.sha2.specs.Sha256.{sha256}
use Rattle.updater_text.specs.declared.digest.Digest.{Digest}
use Rattle.machine.specs.declared.world.World.{World}
use Rattle.machine.specs.World.{disk, readable, HoldsUpTo}
use Rattle.machine.proofs.Only.{bytes_of}
use Rattle.raw_writer.specs.declared.put.PutJob.{PutJob}
use Rattle.raw_writer.specs.Putting.{IsPutWhole}
use Rattle.raw_writer.specs.Whole.{IsWhole, IsWritten, with_image_front}

-- bytes whose front is the image's
front_whole : (image old : List ℕ) (size : ℕ) (digest : Digest) → size ≤ length image → digest.0 ≡ sha256 (take size image) → IsWhole (with_image_front size image old) size digest
front_whole image old size digest enough hashed =
    let front : length (take size image) ≡ size = length-take-le size image enough in
    record {
      enough = omega (arith, front, length-append (take size image) (drop size old));
      hashed = hashed ∙ ap sha256 (sym (take_at (take size image) (drop size old) size front));
    }

pub is_put : (job : PutJob) (piece : ℕ) (found : Digest) (old w : World) → found ≡ job.digest → HoldsUpTo old job.device job.size → IsWritten job.image job.device piece job.size found old w → IsPutWhole job piece old w
is_put job piece found old w same holds is =
    let written = subst (λ (d : Digest). IsWritten job.image job.device piece job.size d old w) same is in
    let was = bytes_of (disk old job.device) holds.0 holds.1 in
    let there : disk w job.device ≡ Some (with_image_front job.size (readable old job.image) was.0) = written.front ∙ ap (λ (o : Option (List ℕ)). option_map (with_image_front job.size (readable old job.image)) o) was.1 in
    record {
      written = written;
      whole = subst (λ (o : Option (List ℕ)). IsSomeAnd o (λ bytes. IsWhole bytes job.size job.digest)) (sym there) (front_whole (readable old job.image) was.0 job.size job.digest written.enough written.hashed);
    }
