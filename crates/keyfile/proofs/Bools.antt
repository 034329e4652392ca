-- Tests joined.
use Rattle.std.proofs.Common.{◌≡◌, Bool, true, false, not, ◌&&◌, refl}
use Rattle.std.proofs.lemmas.Bool.{false≢true}

pub both : (p q : Bool) → (p && q) ≡ true → (p ≡ true) × (q ≡ true)
both true q h = (refl, h)
both false q h = absurd (false≢true h)

pub and_true : (p q : Bool) → p ≡ true → q ≡ true → (p && q) ≡ true
and_true true q h k = k
and_true false q h k = absurd (false≢true h)

pub not_true : (p : Bool) → not p ≡ true → p ≡ false
not_true true h = absurd (false≢true h)
not_true false h = refl
