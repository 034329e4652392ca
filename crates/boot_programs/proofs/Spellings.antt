-- Settings that are spelled are read back.
use Rattle.std.proofs.Common.{◌≡◌, ℕ, ◌+◌, ◌==◌, Bool, true, false, cond, not, List, [], ◌∷◌, map, length, take, drop, Option, Some, None, refl, ◌∙◌, ap, bytes_eq, arith, length-append}
use Rattle.std.specs.Prelude.{nat_lt}
use Rattle.std.specs.Option.{option_and_then}
use Rattle.std.specs.List.{list_any, position_or_len, prefix_len}
use Rattle.std.specs.FinMap.{insert}
use Rattle.std.proofs.Math.Seq.{take-append_seam, drop-append-add}
use Rattle.std.proofs.lemmas.Bool.{lt-ltb, or_parts}
use Rattle.std.proofs.lemmas.Slice.Eq.{bytes_eq-Decides}
use Rattle.boot_model.specs.Vars.{Variables}
use Rattle.boot_programs.specs.Settings.{spelled, setting, with_settings}

pub bytes_eq_same : (text : List ℕ) → bytes_eq text text ≡ true
bytes_eq_same text = (bytes_eq-Decides text text).1 refl

-- a text with an `=`
abbrev pub has_sign : List ℕ → Bool
has_sign text = list_any (λ b. b == 61) text

sign_at : (name text : List ℕ) → has_sign name ≡ false → position_or_len (λ b. b == 61) (spelled name text) ≡ length name
sign_at [] text h = refl
sign_at (x ∷ name) text h =
    let parts = or_parts (x == 61) (has_sign name) h in
    let rest = sign_at name text parts.1 in
    ap (λ (b : Bool). cond (not b) (1 + prefix_len (λ b. not (b == 61)) (spelled name text)) 0) parts.0 ∙ omega arith

-- a setting that is spelled is read back, where its name has no `=`
pub setting-spelled : (name text : List ℕ) → has_sign name ≡ false → setting (spelled name text) ≡ Some (name, text)
setting-spelled name text h =
    let at = sign_at name text h in
    let front : take (position_or_len (λ b. b == 61) (spelled name text)) (spelled name text) ≡ name = ap (λ (n : ℕ). take n (spelled name text)) at ∙ take-append_seam name (61 ∷ text) in
    let back : drop (position_or_len (λ b. b == 61) (spelled name text) + 1) (spelled name text) ≡ text = ap (λ (n : ℕ). drop (n + 1) (spelled name text)) at ∙ drop-append-add name (61 ∷ text) 1 in
    let inside : nat_lt (position_or_len (λ b. b == 61) (spelled name text)) (length (spelled name text)) ≡ true = ap (λ (n : ℕ). nat_lt n (length (spelled name text))) at ∙ lt-ltb _ _ (simp length-append (omega arith)) in
    ap (λ (b : Bool). cond b (Some (take (position_or_len (λ b. b == 61) (spelled name text)) (spelled name text), drop (position_or_len (λ b. b == 61) (spelled name text) + 1) (spelled name text))) None) inside
    ∙ (λ i. Some (front i, back i))

-- names and values
abbrev pub Pairs : Type 0
Pairs = List (List ℕ × List ℕ)

-- no name has an `=`
abbrev pub AreNamed : Pairs → Type 0
AreNamed [] = Unit {0}
AreNamed (p ∷ pairs) = (has_sign p.0 ≡ false) × AreNamed pairs

-- the words of these settings
abbrev pub spellings : Pairs → List (List ℕ)
spellings pairs = map (λ (p : List ℕ × List ℕ). spelled p.0 p.1) pairs

-- the variables after these settings, one after another
abbrev pub with_pairs : Variables → Pairs → Variables
with_pairs vars [] = vars
with_pairs vars (p ∷ pairs) = with_pairs (insert vars p.0 p.1) pairs

pub with_settings-spellings : (vars : Variables) (pairs : Pairs) → AreNamed pairs → with_settings vars (spellings pairs) ≡ Some (with_pairs vars pairs)
with_settings-spellings vars [] h = refl
with_settings-spellings vars (p ∷ pairs) h =
    ap (λ (o : Option (List ℕ × List ℕ)). option_and_then (λ s. with_settings (insert vars s.0 s.1) (spellings pairs)) o) (setting-spelled p.0 p.1 h.0)
    ∙ with_settings-spellings (insert vars p.0 p.1) pairs h.1
