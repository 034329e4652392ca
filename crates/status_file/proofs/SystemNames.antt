-- The names of a system's slots are names of slots, and differ.
use Rattle.std.proofs.Common.{◌≡◌, ◌<◌, ℕ, zero, suc, ◌+◌, ◌^◌, Bool, true, false, cond, not, ◌&&◌, ◌||◌, eqb, nat_le, nat_lt, List, [], ◌∷◌, ◌++◌, length, take, drop, get_or, codes, decimal, Some, None, IsTrue, refl, sym, ◌∙◌, ap, arith, append_assoc, ltb-true, ltb-false, ◌≤◌}
use Rattle.std.specs.Prelude.{is_none, is_some, bytes_eq}
use Rattle.std.specs.List.{list_all, position_or_len}
use Rattle.std.proofs.lemmas.Bool.{and_parts, true≢false}
use Rattle.std.proofs.lemmas.List.{length-map}
use Rattle.std.proofs.lemmas.Bool.Decides.{nat_tests}
use Rattle.std.proofs.lemmas.Fmt.{decimal_digit, first_decimal}
use Rattle.std.proofs.lemmas.Slice.Eq.{bytes_eq-Decides}
use Rattle.conf_forms.specs.Classes.{is_class, is_class_byte}
use Rattle.conf_forms.specs.Lists.{keep_if}
use Rattle.conf_forms.proofs.Distinct.{all_distinct_by}
use Rattle.conf_forms.specs.SlotNames.{class_in_name, index_in, index_in_name, is_slot_name}
use Rattle.slot_status.specs.Texts.{are_slot_names}
use Rattle.slot_status.proofs.Digits.{number_of-decimal}
use Rattle.system_conf.specs.Formed.{has_its_name, is_slot_formed}
use Rattle.system_conf.specs.Refusals.{too_many}
use Rattle.system_conf.specs.Sound.{AreSlotsSound}
use Rattle.system_conf.specs.declared.conf_refusal.ConfRefusal.TheVariants as refusal
use Rattle.system_conf.specs.declared.slot.Slot.{Slot}
use Rattle.status_file.specs.Status.{names_in}

-- ---- each is one

no_dot : (byte : ℕ) → is_class_byte byte ≡ true → eqb byte 46 ≡ false
no_dot byte is = grind (arith, nat_tests, is)

dot_after : (class text : List ℕ) → list_all is_class_byte class ≡ true → position_or_len (λ b. eqb b 46) (class ++ 46 ∷ text) ≡ length class
dot_after [] text all = refl
dot_after (byte ∷ class) text all =
    let both = and_parts (is_class_byte byte) (list_all is_class_byte class) all in
    let long : 1 + length class ≡ length (byte ∷ class) = omega arith in
    (λ i. cond (not (no_dot byte both.0 i)) (1 + dot_after class text both.1 i) 0) ∙ long

front : (class rest : List ℕ) → take (length class) (class ++ rest) ≡ class
front [] rest = refl
front (byte ∷ class) rest = ap (λ (t : List ℕ). byte ∷ t) (front class rest)

behind : (class text : List ℕ) → drop (length class + 1) (class ++ 46 ∷ text) ≡ text
behind [] text = refl
behind (byte ∷ class) text =
    let long : length (byte ∷ class) + 1 ≡ suc (length class + 1) = omega arith in
    ap (λ (k : ℕ). drop k (byte ∷ (class ++ 46 ∷ text))) long ∙ behind class text

parts : (class text : List ℕ) → list_all is_class_byte class ≡ true → (class_in_name (class ++ 46 ∷ text) ≡ class) × (index_in_name (class ++ 46 ∷ text) ≡ text)
parts class text all = (
  ap (λ (k : ℕ). take k (class ++ 46 ∷ text)) (dot_after class text all) ∙ front class (46 ∷ text),
  ap (λ (k : ℕ). drop (k + 1) (class ++ 46 ∷ text)) (dot_after class text all) ∙ behind class text,
)

-- a number has no zero before its digits
unpadded : (n : ℕ) → n < 2 ^ 64 → (eqb (length (decimal n)) 1 || not (eqb (get_or (decimal n) 0 0) 48)) ≡ true
unpadded zero small = ap (λ (ds : List ℕ). eqb (length ds) 1 || not (eqb (get_or ds 0 0) 48)) (decimal_digit 0 (omega arith))
unpadded (suc n) small =
    let first = first_decimal (suc n) (omega arith) small in
    let other : eqb (get_or (decimal (suc n)) 0 0) 48 ≡ false = apart (get_or (decimal (suc n)) 0 0) first in
    right (eqb (length (decimal (suc n))) 1) (ap not other)
  where
    apart : (d : ℕ) → 48 < d → eqb d 48 ≡ false
    apart d lt = grind (arith, nat_tests, lt)

    right : (a : Bool) {b : Bool} → b ≡ true → (a || b) ≡ true
    right true h = refl
    right false h = h

index_back : (n : ℕ) → nat_lt n (2 ^ 32) ≡ true → is_some (index_in (decimal n)) ≡ true
index_back n small =
    let lt : n < 2 ^ 64 = omega (arith, ltb-true n (2 ^ 32) small) in
    ap is_some (λ i. cond (unpadded n lt i) (keep_if (λ k. nat_lt k (2 ^ 32)) (number_of-decimal n lt i)) None)
    ∙ ap (λ (b : Bool). is_some (cond b (Some n) None)) small

slot_name : (s : Slot) → has_its_name s ≡ true → is_slot_name s.name ≡ true
slot_name s has =
    let both = and_parts (bytes_eq s.name (s.class ++ codes "." ++ decimal s.index)) (is_class s.class && nat_lt s.index (2 ^ 32)) has in
    let more = and_parts (is_class s.class) (nat_lt s.index (2 ^ 32)) both.1 in
    let bytes = (and_parts (nat_le 1 (length s.class) && nat_le (length s.class) 255) (list_all is_class_byte s.class) more.0).1 in
    let is : s.name ≡ s.class ++ 46 ∷ decimal s.index = (bytes_eq-Decides s.name (s.class ++ codes "." ++ decimal s.index)).0 both.0 ∙ append_assoc s.class (codes ".") (decimal s.index) in
    let split = parts s.class (decimal s.index) bytes in
    ap is_slot_name is
    ∙ (λ i. is_class (split.0 i) && is_some (index_in (split.1 i)))
    ∙ (λ i. more.0 i && index_back s.index more.1 i)

slot_names : (slots : List Slot) → list_all is_slot_formed slots ≡ true → list_all is_slot_name (names_in slots) ≡ true
slot_names [] formed = refl
slot_names (s ∷ slots) formed =
    let both = and_parts (is_slot_formed s) (list_all is_slot_formed slots) formed in
    let named = and_parts (has_its_name s) _ both.0 in
    λ i. slot_name s named.0 i && slot_names slots both.1 i

pub names_fit : (slots : List Slot) → AreSlotsSound slots → IsTrue (are_slot_names (names_in slots))
names_fit slots sound = λ i. slot_names slots sound.formed i && all_distinct_by (names_in slots) sound.names_differ i

-- ---- they are few

pub few_names : (slots : List Slot) → AreSlotsSound slots → length (names_in slots) ≤ 64
unfolding too_many
few_names slots sound = omega (arith, length-map slots (λ (s : Slot). s.name), within (nat_lt 64 (length slots)) refl (sound.few))
  where
    within : (b : Bool) → nat_lt 64 (length slots) ≡ b → IsTrue (is_none (cond b (Some (refusal.TooMany (length slots))) None)) → length slots ≤ 64
    within true is none = absurd (true≢false (sym none))
    within false is none = ltb-false 64 (length slots) is
