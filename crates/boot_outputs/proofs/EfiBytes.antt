-- What follows one byte, and where a number can be cut off.
use Rattle.std.proofs.Common.{◌≡◌, ◌≢◌, ◌<◌, ℕ, Bool, true, false, cond, ◌||◌, ◌&&◌, eqb, List, [], ◌∷◌, ◌++◌, take, Option, Some, None, codes, Bor, refl, sym, ◌∙◌, ap, arith}
use Rattle.std.specs.Char.{is_ascii_hexdigit}
use Rattle.std.specs.Option.{MatchOption, option_copied}
use Rattle.std.specs.Str.{IsCharBoundary, IsUtf8}
use Rattle.std.proofs.lemmas.Bool.{and_parts, eq-eqb, eqb-true}
use Rattle.std.proofs.lemmas.Bool.Decides.{nat_tests}
use Rattle.std.proofs.lemmas.Str.{IsCharBoundary-after_ascii}
use Rattle.boot_outputs.specs.Efi.{behind_byte, is_number}

-- `strip_prefix` finds what follows a character of ASCII
pub behind_byte-char : (wanted : ℕ) (text : List ℕ) (r : Option (Bor (List ℕ))) → MatchOption r ((rest : List ℕ) → text ≢ wanted ∷ rest) (λ x. text ≡ wanted ∷ x.now) → option_copied r ≡ behind_byte (λ b. eqb b wanted) text
behind_byte-char wanted [] None h = refl
behind_byte-char wanted (byte ∷ text) None h =
    elim (eqb byte wanted) as (λ b. eqb byte wanted ≡ b → None ≡ cond b (Some text) None) [
      | true ↦ λ e. absurd (h text (ap (λ (b : ℕ). b ∷ text) (eqb-true byte wanted e)))
      | false ↦ λ e. refl
    ] refl
behind_byte-char wanted text (Some x) h =
    ap (λ (b : Bool). cond b (Some x.now) None) (sym (eq-eqb wanted wanted refl)) ∙ ap (behind_byte (λ b. eqb b wanted)) (sym h)

-- where another byte stands there, its test does not count
pub behind_byte-other : (other : ℕ) (passes : ℕ → Bool) (text : List ℕ) → ((rest : List ℕ) → text ≢ other ∷ rest) → behind_byte (λ b. eqb b other || passes b) text ≡ behind_byte passes text
behind_byte-other other passes [] h = refl
behind_byte-other other passes (byte ∷ text) h =
    elim (eqb byte other) as (λ b. eqb byte other ≡ b → cond (b || passes byte) (Some text) None ≡ cond (passes byte) (Some text) None) [
      | true ↦ λ e. absurd (h text (ap (λ (b : ℕ). b ∷ text) (eqb-true byte other e)))
      | false ↦ λ e. refl
    ] refl

digit_narrow : (byte : ℕ) → is_ascii_hexdigit byte ≡ true → byte < 128
digit_narrow byte h = grind (arith, nat_tests)

-- where a text may not be cut behind four bytes, they are no number
pub no_number : (rest : List ℕ) → IsUtf8 (codes "Boot" ++ rest) → (IsCharBoundary rest 4 → ⊥) → is_number (take 4 rest) ≡ false
no_number [] text apart = refl
no_number (a ∷ []) text apart = refl
no_number (a ∷ b ∷ []) text apart = refl
no_number (a ∷ b ∷ c ∷ []) text apart = refl
no_number (a ∷ b ∷ c ∷ d ∷ more) text apart =
    elim (is_number (a ∷ b ∷ c ∷ d ∷ [])) as (λ t. is_number (a ∷ b ∷ c ∷ d ∷ []) ≡ t → t ≡ false) [
      | true ↦ λ e.
          let first = and_parts (is_ascii_hexdigit a) (is_ascii_hexdigit b && (is_ascii_hexdigit c && (is_ascii_hexdigit d && true))) e in
          let second = and_parts (is_ascii_hexdigit b) (is_ascii_hexdigit c && (is_ascii_hexdigit d && true)) first.1 in
          let third = and_parts (is_ascii_hexdigit c) (is_ascii_hexdigit d && true) second.1 in
          let last = and_parts (is_ascii_hexdigit d) true third.1 in
          let cut = IsCharBoundary-after_ascii (codes "Boot" ++ a ∷ b ∷ c ∷ d ∷ more) 7 text (omega arith) (digit_narrow d last.0) in
          absurd (apart (omega arith, λ within wide. cut.1 (omega arith) wide))
      | false ↦ λ e. refl
    ] refl
