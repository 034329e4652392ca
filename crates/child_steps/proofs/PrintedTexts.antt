-- What a child put out.
use Rattle.std.proofs.Common.{◌≡◌, ◌≤◌, Bool, true, false, cond, ℕ, List, [], length, take, nat_lt, Option, Some, None, position, refl, sym, ap, arith}
use Rattle.std.proofs.lemmas.Bool.Decides.{nat_tests}
use Rattle.std.proofs.lemmas.List.{take_all}
use Rattle.std.proofs.lemmas.Option.{cond_some}
use Rattle.std.proofs.lemmas.Str.{is_utf8-from_IsUtf8, IsUtf8-from_is_utf8}
use Rattle.std.specs.List.{before_first, position_or_len}
use Rattle.std.specs.Str.{IsUtf8, is_utf8}
use Rattle.child_steps.specs.Checks.{text_of}

-- ---- up to the first byte that passes

pub before_it : (p : ℕ → Bool) (bytes : List ℕ) (at : ℕ) → position p bytes ≡ Some at → take at bytes ≡ before_first p bytes
before_it p bytes at here = ap (λ n. take n bytes) (sym (cond_some (nat_lt (position_or_len p bytes) (length bytes)) (position_or_len p bytes) at here).1)

not_below : (n k : ℕ) → nat_lt n k ≡ false → k ≤ n
not_below n k e = grind (arith, nat_tests)

pub all_before : (p : ℕ → Bool) (bytes : List ℕ) → position p bytes ≡ None → bytes ≡ before_first p bytes
all_before p bytes none =
    elim (nat_lt (position_or_len p bytes) (length bytes)) as (λ b. nat_lt (position_or_len p bytes) (length bytes) ≡ b → cond b (Some (position_or_len p bytes)) None ≡ None → bytes ≡ before_first p bytes) [
      | true ↦ λ e h. cc
      | false ↦ λ e h. sym (take_all (position_or_len p bytes) bytes (not_below (position_or_len p bytes) (length bytes) e))
    ] refl none

-- ---- as text

pub text_is : (bytes : List ℕ) → IsUtf8 bytes → text_of bytes ≡ bytes
text_is bytes is = rw (is_utf8-from_IsUtf8 bytes is) refl

not_true : (b : Bool) → (b ≡ true → ⊥) → b ≡ false
not_true true not = absurd (not refl)
not_true false not = refl

pub no_text : (bytes : List ℕ) → (IsUtf8 bytes → ⊥) → text_of bytes ≡ []
no_text bytes none = rw (not_true (is_utf8 bytes) (λ e. none (IsUtf8-from_is_utf8 bytes e))) refl
