-- What the table of refusals says, row by row, and what an accepted image says.
use Rattle.std.proofs.Common.{◌≡◌, ◌≤◌, ◌<◌, ◌⊎◌, ⊎_elim, ℕ, Bool, IsTrue, true, false, List, [], Option, Some, None, Result, Ok, Err, length, refl, sym, ◌∙◌, ap, subst, arith, is_some, unwrap_or, if◌then◌else◌}
use Rattle.std.specs.Prelude.{◌==◌, nat_lt}
use Rattle.std.specs.Option.{option_map}
use Rattle.std.proofs.lemmas.Bool.Decides.{nat_tests}
use Rattle.machine.specs.declared.world.World.{World}
use Rattle.machine.specs.World.{length_under, disk_length, disk, file, readable, HoldsUpTo}
use Rattle.machine.specs.Stops.{Settles}
use Rattle.machine.specs.declared.stops.Stop.{Stop}
use Rattle.machine.specs.Calls.{WriteFits}
use Rattle.machine.specs.Frames.{Unchanged}
use Rattle.machine.specs.Past.{Past, world_now}
use Rattle.machine.proofs.Joins.{now_unchanged}
use Rattle.raw_writer.specs.declared.check.PutRefusal.{PutRefusal}
use Rattle.raw_writer.specs.declared.check.PutRefusal.TheVariants.{NoImage, NoDevice, ImageTooLarge}
use Rattle.raw_writer.specs.Checking.{check_of, SettlesLength}
use Rattle.raw_writer.specs.Putting.{HasLength}

same_size : (n : ℕ) → (n == n) ≡ true
same_size n = grind (arith, nat_tests)

small_size : (n m : ℕ) → n ≤ m → nat_lt m n ≡ false
small_size n m le = grind (arith, nat_tests)

large_size : (n m : ℕ) → m < n → nat_lt m n ≡ true
large_size n m lt = grind (arith, nat_tests)

module _ (w : World) (image : List ℕ) where
  no_image : (stated : Option ℕ) (device : Option (List ℕ)) → length_under w image false ≡ None → check_of w image stated device ≡ Err (NoImage image)
  no_image stated device is = rw is refl

  module _ (size : ℕ) (is : length_under w image false ≡ Some size) where
    module _ (device : List ℕ) where
      no_device : disk_length w device ≡ None → check_of w image None (Some device) ≡ Err (NoDevice device)
      no_device none = rw (is, same_size size, none) refl

      has_room : (room : ℕ) → disk_length w device ≡ Some room → size ≤ room → check_of w image None (Some device) ≡ Ok size
      has_room room there le = rw (is, same_size size, there, small_size size room le) refl

      too_large : (room : ℕ) → disk_length w device ≡ Some room → room < size → check_of w image None (Some device) ≡ Err (ImageTooLarge size room)
      too_large room there lt = rw (is, same_size size, there, large_size size room lt) refl

-- the same where nothing changed on the way
pub image_settled : (w v : World) (image : List ℕ) (stated : Option ℕ) (device : Option (List ℕ)) (size : ℕ) (result : Result ℕ (Stop PutRefusal)) → v ≡ w → length_under w image false ≡ Some size → SettlesLength v size stated device result → Settles result (check_of w image stated device)
image_settled w v image stated device size result same is settles =
    (subst (λ (x : World). SettlesLength x size stated device result) same settles).each image is

err_ok : (r : PutRefusal) (y : ℕ) (p : Result ℕ PutRefusal) → p ≡ Err r → p ≡ Ok y → ⊥
err_ok r y p h e = cc

ok_same : (x y : ℕ) (p : Result ℕ PutRefusal) → p ≡ Ok x → p ≡ Ok y → x ≡ y
ok_same x y p h e = cc

le_or_lt : (x y : ℕ) → (x ≤ y) ⊎ (y < x)
le_or_lt x y = grind (arith, nat_tests)

readable_long : (d f : Option (List ℕ)) (n : ℕ) → option_map length (if is_some d then d else f) ≡ Some n → length (unwrap_or d (unwrap_or f [])) ≡ n
readable_long (Some x) f n e = cc
readable_long None (Some y) n e = cc
readable_long None None n e = let bad : ⊥ = cc in absurd bad

-- an image that is accepted for a device fits it, and has that length
module _ (w : World) (image device : List ℕ) (size : ℕ) (e : check_of w image None (Some device) ≡ Ok size) where
  abbrev Accepted : Type 0
  Accepted = (length_under w image false ≡ Some size) × HoldsUpTo w device size

  with_room : (n : ℕ) → length_under w image false ≡ Some n → (o : Option ℕ) → disk_length w device ≡ o → Accepted
  with_room n is None there = absurd (err_ok (NoDevice device) size (check_of w image None (Some device)) (no_device w image n is device there) e)
  with_room n is (Some room) there =
      ⊎_elim
      (λ le.
      let same : n ≡ size = ok_same n size (check_of w image None (Some device)) (has_room w image n is device room there le) e in
      (is ∙ ap (λ (k : ℕ). Some k) same, (room, there, subst (λ (k : ℕ). k ≤ room) same le)))
      (λ lt. absurd (err_ok (ImageTooLarge n room) size (check_of w image None (Some device)) (too_large w image n is device room there lt) e))
      (le_or_lt n room)

  with_length : (o : Option ℕ) → length_under w image false ≡ o → Accepted
  with_length None is = absurd (err_ok (NoImage image) size (check_of w image None (Some device)) (no_image w image None (Some device) is) e)
  with_length (Some n) is = with_room n is (disk_length w device) refl

  accepted : Accepted
  accepted = with_length (length_under w image false) refl

pub check_room : (w : World) (image device : List ℕ) (size : ℕ) → check_of w image None (Some device) ≡ Ok size → HoldsUpTo w device size
check_room w image device size e = (accepted w image device size e).1

pub check_length : (w : World) (image device : List ℕ) (size : ℕ) → check_of w image None (Some device) ≡ Ok size → length (readable w image) ≡ size
unfolding readable
check_length w image device size e = readable_long (disk w image) (file w image) size (accepted w image device size e).0

-- so it does later on, where nothing changed
module _ (t : Bool) (image device : List ℕ) (size : ℕ) (a b : Past) (unchanged : Unchanged t a b) (checked : IsTrue t → check_of (world_now a) image None (Some device) ≡ Ok size) where
  pub checked_later : IsTrue t → check_of (world_now b) image None (Some device) ≡ Ok size
  checked_later told = subst (λ (w : World). check_of w image None (Some device) ≡ Ok size) (sym (now_unchanged t a b unchanged told)) (checked told)

  pub room_checked : WriteFits t b device size
  room_checked = record { room = λ told. check_room (world_now b) image device size (checked_later told) }

  pub length_checked : HasLength t b image size
  length_checked = record { is = λ told. check_length (world_now b) image device size (checked_later told) }
