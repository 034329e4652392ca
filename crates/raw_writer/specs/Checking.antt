-- Whether an image may be put on a device, and how a refusal reads.
use Rattle.std.specs.Prelude.{◌≡◌, ◌==◌, ◌&&◌, ◌++◌, ℕ, Bool, true, false, IsTrue, not, List, [], Option, Some, Result, Ok, Err, codes, decimal, is_some, nat_lt, unwrap_or, if◌then◌else◌}
use Rattle.std.specs.List.{list_all}
use Rattle.std.specs.Option.{is_none}
use Rattle.hex.specs.Hex.{encode_lower}
use Rattle.machine.specs.declared.stops.Stop.{Stop}
use Rattle.machine.specs.declared.stops.Stop.TheVariants.{Refused}
use Rattle.machine.specs.declared.world.World.{World}
use Rattle.machine.specs.World.{length_under, disk_length}
use Rattle.machine.specs.Past.{Call, Grows, Past, Size, moments_since}
use Rattle.machine.specs.Stops.{Settles}
use Rattle.raw_writer.specs.declared.check.PutRefusal.{PutRefusal}
use Rattle.raw_writer.specs.declared.check.PutRefusal.TheVariants.{NoImage, ImageSize, NoDevice, ImageTooLarge, ImageDigest}

-- the image's length, or the first refusal: no image, another length than stated, no device, too large
-- for it; where no length is stated it is the image's own, and where no device is named none is missing
abbrev pub check_of : World → List ℕ → Option ℕ → Option (List ℕ) → Result ℕ PutRefusal
check_of w image stated device =
    let size = unwrap_or (length_under w image false) 0 in
    let path = unwrap_or device [] in
    let room = unwrap_or (disk_length w path) 0 in
    if is_none (length_under w image false) then Err (NoImage image)
    else if not (unwrap_or stated size == size) then Err (ImageSize (unwrap_or stated size) size)
    else if is_some device && is_none (disk_length w path) then Err (NoDevice path)
    else if is_some device && nat_lt room size then Err (ImageTooLarge size room)
    else Ok size

-- the answer is that of the check, for any image of this length
pub record SettlesLength (w : World) (size : ℕ) (stated : Option ℕ) (device : Option (List ℕ)) (result : Result ℕ (Stop PutRefusal)) : Type 0 where
  pub each : (image : List ℕ) → length_under w image false ≡ Some size → Settles result (check_of w image stated device)

-- the call asks for a length
abbrev pub asks_length : Call → Bool
asks_length (Size path) = true
asks_length call = false

-- where told: each call since asked for a length
pub record AsksLengths (tells : Bool) (old new : Past) : Type 0 where
  pub grows : IsTrue tells → Grows old new
  pub all : IsTrue tells → list_all (λ m. asks_length m.call) (moments_since old new) ≡ true

-- told or not: no digest is refused
abbrev pub NoDigestRefused : {T : Type 0} → Result T (Stop PutRefusal) → Type 0
NoDigestRefused (Err (Refused (ImageDigest stated found))) = ⊥
NoDigestRefused result = Unit {0}

-- a refusal in words
abbrev pub put_cause : (image : List ℕ) → PutRefusal → List ℕ
put_cause image (NoImage path) = codes "no image " ++ path
put_cause image (NoDevice path) = codes "no device " ++ path
put_cause image (ImageSize stated found) = codes "image " ++ (image ++ (codes ": " ++ (decimal found ++ (codes " bytes, manifest says " ++ decimal stated))))
put_cause image (ImageTooLarge size device) = codes "image " ++ (image ++ (codes ": " ++ (decimal size ++ (codes " bytes do not fit device of " ++ decimal device))))
put_cause image (ImageDigest stated found) = codes "image " ++ (image ++ (codes ": sha256 " ++ (encode_lower found.0 ++ (codes ", manifest says " ++ encode_lower stated.0))))
