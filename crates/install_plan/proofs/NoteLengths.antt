-- How long the notes of an install are.
use Rattle.std.proofs.Common.{◌≡◌, ◌≤◌, ◌+◌, ◌^◌, ◌&&◌, ℕ, zero, suc, Bool, true, false, cond, nat_le, nat_lt, List, [], ◌∷◌, ◌++◌, codes, decimal, length, slice_get, Some, refl, ap, subst, arith, length-append, leb-true, ltb-true}
use Rattle.std.specs.List.{list_all}
use Rattle.std.specs.Str.{bytes_eq}
use Rattle.std.proofs.lemmas.Bool.{and_parts}
use Rattle.std.proofs.lemmas.Fmt.{length-decimal-le}
use Rattle.std.proofs.lemmas.Slice.Eq.{bytes_eq-Decides}
use Rattle.conf_forms.specs.Classes.{is_class, is_class_byte}
use Rattle.keyfile.specs.Groups.{Text}
use Rattle.system_conf.specs.Formed.{has_its_name, is_slot_formed}
use Rattle.system_conf.specs.declared.slot.Slot.{Slot}
use Rattle.install_plan.specs.Acts.{slot_text}

-- what holds of all holds of the item at a place
pub formed_at : (slots : List Slot) (at : ℕ) (s : Slot) → list_all is_slot_formed slots ≡ true → slice_get slots at ≡ Some s → is_slot_formed s ≡ true
formed_at [] at s formed is = absurd (cc)
formed_at (t ∷ slots) zero s formed is = let same : t ≡ s = cc in subst (λ (x : Slot). is_slot_formed x ≡ true) same (and_parts (is_slot_formed t) (list_all is_slot_formed slots) formed).0
formed_at (t ∷ slots) (suc at) s formed is = formed_at slots at s (and_parts (is_slot_formed t) (list_all is_slot_formed slots) formed).1 is

-- the name of a slot: a class, a dot, and an index of at most 10 digits
pub name_length : (s : Slot) → is_slot_formed s ≡ true → length s.name ≤ 266
name_length s formed =
    let named = and_parts (has_its_name s) _ formed in
    let parts = and_parts (bytes_eq s.name (s.class ++ codes "." ++ decimal s.index)) (is_class s.class && nat_lt s.index (2 ^ 32)) named.0 in
    let whole = (bytes_eq-Decides s.name (s.class ++ codes "." ++ decimal s.index)).0 parts.0 in
    let values = and_parts (is_class s.class) (nat_lt s.index (2 ^ 32)) parts.1 in
    let sizes = and_parts (nat_le 1 (length s.class) && nat_le (length s.class) 255) (list_all is_class_byte s.class) values.0 in
    let class = leb-true (length s.class) 255 (and_parts (nat_le 1 (length s.class)) (nat_le (length s.class) 255) sizes.0).1 in
    let index = ltb-true s.index (2 ^ 32) values.1 in
    let digits = length-decimal-le 10 s.index (omega arith) (omega (arith, index)) (omega (arith, index)) in
    let front : length (s.class ++ codes ".") ≡ length s.class + 1 = length-append s.class (codes ".") in
    omega (arith, ap length whole, length-append (s.class ++ codes ".") (decimal s.index), front, class, digits)

-- what is told of a slot
pub text_length : (name : Text) (skipped : Bool) → length name ≤ 266 → length (slot_text name skipped) ≤ 279
text_length name skipped short =
    let end : length (cond skipped (codes "kept") (codes "written")) ≤ 7 = word skipped in
    let later : length (codes " " ++ cond skipped (codes "kept") (codes "written")) ≡ suc (length (cond skipped (codes "kept") (codes "written"))) = refl in
    let more = length-append name (codes " " ++ cond skipped (codes "kept") (codes "written")) in
    let whole : length (slot_text name skipped) ≡ 5 + length (name ++ (codes " " ++ cond skipped (codes "kept") (codes "written"))) = length-append (codes "slot ") (name ++ (codes " " ++ cond skipped (codes "kept") (codes "written"))) in
    omega (arith, whole, more, later, end, short)
  where
    word : (b : Bool) → length (cond b (codes "kept") (codes "written")) ≤ 7
    word true = omega arith
    word false = omega arith
