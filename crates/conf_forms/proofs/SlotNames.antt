-- The groups of the slots, read one after another.
use Rattle.std.proofs.Common.{◌≡◌, ◌<◌, ℕ, zero, suc, ◌+◌, Bool, not, cond, nat_lt, length, get_or, drop, arith, ◌||◌, List, [], ◌∷◌, ◌++◌, map, filter, take, Some, None, slice_get, option_map, refl, sym, ◌∙◌, ap}
use Rattle.std.proofs.lemmas.List.{map-append, length-map}
use Rattle.std.proofs.lemmas.List.Elements.{filter-append}
use Rattle.std.specs.List.{list_any, prefix_len, position}
use Rattle.keyfile.specs.Groups.{Text, Group}
use Rattle.conf_forms.specs.declared.slot_name.SlotGroup.{SlotGroup}
use Rattle.conf_forms.specs.SlotNames.{is_slot_group, name_of, slot_names, parts, parts_of, slot_parts, slot_groups}
use Rattle.conf_forms.proofs.Lists.{take_get, item_at}

slot_parts-append : (before : List Group) (g : Group) → slot_parts (before ++ g ∷ []) ≡ slot_parts before ++ map parts_of (filter is_slot_group (g.0 ∷ []))
slot_parts-append before g =
    ap (λ names. map parts_of (filter is_slot_group names)) (map-append (λ (h : Group). h.0) before (g ∷ []))
    ∙ ap (map parts_of) (filter-append is_slot_group (map (λ (h : Group). h.0) before) (g.0 ∷ []))
    ∙ map-append parts_of (filter is_slot_group (map (λ (h : Group). h.0) before)) (filter is_slot_group (g.0 ∷ []))

pub slot_parts_more : (groups : List Group) (at : ℕ) (name : Text) → Some name ≡ option_map (λ (g : Group). g.0) (slice_get groups at)
    → slot_parts (take (at + 1) groups) ≡ slot_parts (take at groups) ++ map parts_of (filter is_slot_group (name ∷ []))
slot_parts_more groups at name h =
    let g = item_at (λ (g : Group). g.0) (slice_get groups at) name h in
    ap slot_parts (take_get groups at g.0 g.1) ∙ slot_parts-append (take at groups) g.0 ∙ ap (λ (n : Text). slot_parts (take at groups) ++ map parts_of (filter is_slot_group (n ∷ []))) g.2

tops : (slots : List SlotGroup) → map (λ (p : Text × Text × Text × ℕ). p.0) (map parts slots) ≡ map (λ (s : SlotGroup). s.group.now) slots
tops [] = refl
tops (s ∷ slots) = ap (λ (names : List Text). s.group.now ∷ names) (tops slots)

tops_of : (names : List Text) → map (λ (p : Text × Text × Text × ℕ). p.0) (map parts_of names) ≡ names
tops_of [] = refl
tops_of (n ∷ names) = ap (λ (more : List Text). n ∷ more) (tops_of names)

-- the groups of slots that were read
pub groups_read : (groups : List Group) (slots : List SlotGroup) → map parts slots ≡ slot_parts groups → map (λ (s : SlotGroup). s.group.now) slots ≡ slot_groups groups
groups_read groups slots h = sym (tops slots) ∙ ap (map (λ (p : Text × Text × Text × ℕ). p.0)) h ∙ tops_of (slot_groups groups)

name_tops : (slots : List SlotGroup) → map (λ (p : Text × Text × Text × ℕ). p.1) (map parts slots) ≡ map (λ (s : SlotGroup). s.name.now) slots
name_tops [] = refl
name_tops (s ∷ slots) = ap (λ (names : List Text). s.name.now ∷ names) (name_tops slots)

name_tops_of : (names : List Text) → map (λ (p : Text × Text × Text × ℕ). p.1) (map parts_of names) ≡ map name_of names
name_tops_of [] = refl
name_tops_of (n ∷ names) = ap (λ (more : List Text). name_of n ∷ more) (name_tops_of names)

-- and the slots' names
pub names_read : (groups : List Group) (slots : List SlotGroup) → map parts slots ≡ slot_parts groups → map (λ (s : SlotGroup). s.name.now) slots ≡ slot_names groups
names_read groups slots h = sym (name_tops slots) ∙ ap (map (λ (p : Text × Text × Text × ℕ). p.1)) h ∙ name_tops_of (slot_groups groups)

list_any-map : (test : Text → Bool) (slots : List SlotGroup) → list_any test (map (λ (s : SlotGroup). s.name.now) slots) ≡ list_any (λ (s : SlotGroup). test s.name.now) slots
list_any-map test [] = refl
list_any-map test (s ∷ slots) = ap (λ b. test s.name.now || b) (list_any-map test slots)

pub list_any-names : (test : Text → Bool) (groups : List Group) (slots : List SlotGroup) → map parts slots ≡ slot_parts groups → list_any (λ (s : SlotGroup). test s.name.now) slots ≡ list_any test (slot_names groups)
list_any-names test groups slots h = sym (list_any-map test slots) ∙ ap (list_any test) (names_read groups slots h)

-- each has the parts of its group
parts_in : (names : List Text) (slots : List SlotGroup) → map parts slots ≡ map parts_of names → (i : ℕ) (d : SlotGroup) → i < length slots → parts (get_or slots i d) ≡ parts_of (get_or slots i d).group.now
parts_in names [] h i d within = absurd (omega (arith, within))
parts_in [] (s ∷ slots) h i d within = absurd (cc)
parts_in (n ∷ names) (s ∷ slots) h zero d within =
    let same : parts s ≡ parts_of n = ap (λ (ps : List (Text × Text × Text × ℕ)). first_or (parts s) ps) h in
    same ∙ ap parts_of (sym (ap (λ (p : Text × Text × Text × ℕ). p.0) same))
  where
    first_or : Text × Text × Text × ℕ → List (Text × Text × Text × ℕ) → Text × Text × Text × ℕ
    first_or d [] = d
    first_or d (p ∷ ps) = p
parts_in (n ∷ names) (s ∷ slots) h (suc i) d within = parts_in names slots (ap (drop 1) h) i d (omega (arith, within))

pub parts_at : (groups : List Group) (slots : List SlotGroup) → map parts slots ≡ slot_parts groups → (i : ℕ) (d : SlotGroup) → i < length slots → parts (get_or slots i d) ≡ parts_of (get_or slots i d).group.now
parts_at groups slots h i d within = parts_in (slot_groups groups) slots h i d within

-- a name is found at the same place
prefix_len-names : (test : Text → Bool) (slots : List SlotGroup) → prefix_len test (map (λ (s : SlotGroup). s.name.now) slots) ≡ prefix_len (λ (s : SlotGroup). test s.name.now) slots
prefix_len-names test [] = refl
prefix_len-names test (s ∷ slots) = ap (λ n. cond (test s.name.now) (1 + n) 0) (prefix_len-names test slots)

pub position-names : (test : Text → Bool) (groups : List Group) (slots : List SlotGroup) → map parts slots ≡ slot_parts groups → position (λ (s : SlotGroup). test s.name.now) slots ≡ position test (slot_names groups)
position-names test groups slots h =
    (λ i. let at = sym (prefix_len-names (λ t. not (test t)) slots) i in cond (nat_lt at (sym (length-map slots (λ (s : SlotGroup). s.name.now)) i)) (Some at) None)
    ∙ ap (position test) (names_read groups slots h)
