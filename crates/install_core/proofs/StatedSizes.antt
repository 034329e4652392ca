-- An image of a stated size that is accepted for a device has that size, and the device has room for it.
use Rattle.std.proofs.Common.{◌≡◌, not, ℕ, Bool, true, false, cond, eqb, nat_lt, List, Option, Some, None, Result, Ok, Err, refl, sym, ap, ◌∙◌, unwrap_or, eq-eqb, eqb-true}
use Rattle.std.specs.Option.{is_none}
use Rattle.machine.specs.World.{disk_length, length_under}
use Rattle.machine.specs.declared.world.World.{World}
use Rattle.raw_writer.specs.Checking.{check_of}
use Rattle.raw_writer.specs.declared.check.PutRefusal.{PutRefusal}
use Rattle.raw_writer.specs.declared.check.PutRefusal.TheVariants.{ImageSize, ImageTooLarge, NoDevice, NoImage}

module _ (image device : List ℕ) where
  -- the answer by the length of the device and of the image
  abbrev by_room : Option ℕ → ℕ → Result ℕ PutRefusal
  by_room room n = cond (is_none room) (Err (NoDevice device)) (cond (nat_lt (unwrap_or room 0) n) (Err (ImageTooLarge n (unwrap_or room 0))) (Ok n))

  abbrev by_length : Option ℕ → ℕ → Bool → Option ℕ → Result ℕ PutRefusal
  by_length long size as_stated room =
      cond (is_none long) (Err (NoImage image)) (cond (not as_stated) (Err (ImageSize size (unwrap_or long 0))) (by_room room (unwrap_or long 0)))

  -- an answer that is no refusal is the image's length
  answers : (room : Option ℕ) (n m : ℕ) → by_room room n ≡ Ok m → by_room room n ≡ Ok n
  answers None n m e = absurd (cc)
  answers (Some room) n m e = go (nat_lt room n) e
    where
      go : (b : Bool) → cond b (Err (ImageTooLarge n room)) (Ok n) ≡ Ok m → cond b (Err (ImageTooLarge n room)) (Ok n) ≡ Ok n
      go true e = absurd (cc)
      go false e = refl

  module _ (size m : ℕ) where
    same_size : (room : Option ℕ) (n : ℕ) (b : Bool) → eqb size n ≡ b → by_length (Some n) size b room ≡ Ok m → by_length (Some n) n (eqb n n) room ≡ Ok size
    same_size room n false is e = absurd (cc)
    same_size room n true is e =
        ap (λ (b : Bool). by_length (Some n) n b room) (eq-eqb n n refl) ∙ answers room n m e ∙ ap (λ (k : ℕ). Ok k) (sym (eqb-true size n is))

    by_cases : (long room : Option ℕ) → by_length long size (eqb size (unwrap_or long 0)) room ≡ Ok m → by_length long (unwrap_or long 0) (eqb (unwrap_or long 0) (unwrap_or long 0)) room ≡ Ok size
    by_cases None room e = absurd (cc)
    by_cases (Some n) room e = same_size room n (eqb size n) refl e

  -- with the size stated, it is accepted with that size where none is stated
  pub accepted_unstated : (w : World) (size m : ℕ) → check_of w image (Some size) (Some device) ≡ Ok m → check_of w image None (Some device) ≡ Ok size
  accepted_unstated w size m e = by_cases size m (length_under w image false) (disk_length w device) e
