-- The targets as values are those of the relation.
use Rattle.std.proofs.Common.{◌≡◌, ◌<◌, ⊎_elim, ℕ, Bool, true, false, ◌&&◌, ◌||◌, not, nat_le, List, [], ◌∷◌, ◌++◌, length, map, filter, codes, decimal, Option, Some, None, option_map, slice_get, refl, sym, ◌∙◌, ap, subst, arith, leb-true, le-leb, eqb-true, IsTrue}
use Rattle.std.specs.Prelude.{Contains, is_none, nat_eq}
use Rattle.std.specs.List.{IsDistinct, cons_option, filter_map, list_all, list_any, range_with_len}
use Rattle.std.specs.Option.{option_map_or}
use Rattle.std.specs.Str.{bytes_eq}
use Rattle.std.proofs.lemmas.Bool.{and_parts, not-true, true≢false, cases_order}
use Rattle.std.proofs.lemmas.Map.Keys.{apart_from_distinct, IsDistinct-cons}
use Rattle.std.proofs.lemmas.Option.{get_or_from_slice_get, slice_get-map, slice_get_within}
use Rattle.std.proofs.lemmas.Slice.Eq.{bytes_eq-Decides}
use Rattle.keyfile.proofs.Distinct.{distinct-distinct, is_in-distinct}
use Rattle.keyfile.specs.Groups.{Text, all_distinct}
use Rattle.keyfile.specs.Reading.{distinct}
use Rattle.system_conf.specs.Formed.{is_slot_formed}
use Rattle.system_conf.specs.Sound.{AreSlotsSound}
use Rattle.system_conf.specs.declared.slot.Slot.{Slot}
use Rattle.slot_graph.specs.Targets.{AreTargets, IsFreeRoot, IsTarget, index_at, is_free_root, is_inactive, is_no_better, is_root_of, is_target, root_classes, target_of, targets_of}
use Rattle.slot_graph.specs.declared.state.SlotState.{SlotState}
use Rattle.slot_graph.specs.declared.state.SlotState.TheVariants as state
use Rattle.slot_graph.proofs.Listed.{all_pass, by_each, each_passes, finds, in_filter, in_filter_map, in_map, in_range, item_at, item_in, none_passes, of_filter_map, of_find, one_passes, passing}

-- ---- texts and places

same_text : (a b : Text) → bytes_eq a b ≡ true → a ≡ b
same_text a b h = (bytes_eq-Decides a b).0 h

equal_text : (a b : Text) → a ≡ b → bytes_eq a b ≡ true
equal_text a b h = (bytes_eq-Decides a b).1 h

no_parent : (o : Option ℕ) → is_none o ≡ true → o ≡ None
no_parent None h = refl
no_parent (Some p) h = absurd (true≢false (sym h))

-- texts that differ stand at one place each
one_place : (names : List Text) (a b : ℕ) (name : Text) → IsDistinct bytes_eq names → slice_get names a ≡ Some name → slice_get names b ≡ Some name → a ≡ b
one_place names a b name apart p q = ⊎_elim (λ same. same) (λ order. absurd (⊎_elim (λ less. clash a b less p q) (λ less. clash b a less q p) order)) (cases_order a b)
  where
    clash : (i j : ℕ) → i < j → slice_get names i ≡ Some name → slice_get names j ≡ Some name → ⊥
    clash i j less p q =
        let differ = apart_from_distinct bytes_eq names i j name apart less (slice_get_within names j name q) in
        true≢false (sym (equal_text name name refl) ∙ (λ k. bytes_eq (sym (get_or_from_slice_get names i name name p) k) (sym (get_or_from_slice_get names j name name q) k)) ∙ differ)

-- ---- free roots

module _ (slots : List Slot) (states : List SlotState) where
  pub free_is : (class : Text) (at : ℕ) → is_free_root slots states class at ≡ true → IsFreeRoot slots states class at
  free_is class at h = go (slice_get slots at) (slice_get states at) refl refl h
    where
      of_slot : (x : Slot) → slice_get slots at ≡ Some x → slice_get states at ≡ Some state.Inactive → is_root_of class x ≡ true → IsFreeRoot slots states class at
      of_slot x e f is =
          let both = and_parts (is_none x.parent) (bytes_eq x.class class) is in
          record {
            of_class = ap (option_map (λ (s : Slot). s.class)) e ∙ ap (λ (t : Text). Some t) (same_text x.class class both.1);
            root = ap (option_map (λ (s : Slot). s.parent)) e ∙ ap (λ (o : Option ℕ). Some o) (no_parent x.parent both.0);
            inactive = f;
          }

      go : (o : Option Slot) (s : Option SlotState) → slice_get slots at ≡ o → slice_get states at ≡ s → (option_map_or (is_root_of class) o false && option_map_or is_inactive s false) ≡ true → IsFreeRoot slots states class at
      go (Some x) (Some state.Inactive) e f h = of_slot x e f (and_parts (is_root_of class x) true h).0
      go (Some x) (Some state.Booted) e f h = absurd (true≢false (sym (and_parts (is_root_of class x) false h).1))
      go (Some x) (Some state.Active) e f h = absurd (true≢false (sym (and_parts (is_root_of class x) false h).1))
      go (Some x) None e f h = absurd (true≢false (sym (and_parts (is_root_of class x) false h).1))
      go None s e f h = absurd (true≢false (sym (and_parts false (option_map_or is_inactive s false) h).0))

  -- the slot of a free root
  pub free_slot : (class : Text) (at : ℕ) → IsFreeRoot slots states class at → (x : Slot) × (slice_get slots at ≡ Some x) × (x.class ≡ class) × (x.parent ≡ None)
  free_slot class at free =
      let x = item_at (λ (s : Slot). s.class) (slice_get slots at) class free.of_class in
      let root : Some x.0.parent ≡ Some None = ap (option_map (λ (s : Slot). s.parent)) (sym x.1) ∙ free.root in
      let parent : x.0.parent ≡ None = cc in
      (x.0, x.1, x.2, parent)

  pub is_free : (class : Text) (at : ℕ) → IsFreeRoot slots states class at → is_free_root slots states class at ≡ true
  is_free class at free =
      let x = free_slot class at free in
      (λ i. option_map_or (is_root_of class) (x.1 i) false && option_map_or is_inactive (free.inactive i) false)
      ∙ (λ i. (is_none (x.3 i) && equal_text x.0.class class x.2 i) && true)

  free_within : (class : Text) (at : ℕ) → IsFreeRoot slots states class at → at < length slots
  free_within class at free = let x = free_slot class at free in slice_get_within slots at x.0 x.1

  -- ---- the target of a class

  not_less : (a b : Bool) → a ≡ true → (not a || b) ≡ true → b ≡ true
  not_less true b e h = h
  not_less false b e h = absurd (true≢false (sym e))

  target_is : (class : Text) (at : ℕ) → is_target slots states class at ≡ true → IsTarget slots states class at
  target_is class at h =
      let both = and_parts (is_free_root slots states class at) (list_all (is_no_better slots states class at) (range_with_len 0 (length slots))) h in
      record {
        free = free_is class at both.0;
        least = λ other free.
            let no_better = each_passes (is_no_better slots states class at) (range_with_len 0 (length slots)) other both.1 (in_range (length slots) other (free_within class other free)) in
            leb-true (index_at slots at) (index_at slots other) (not_less (is_free_root slots states class other) (nat_le (index_at slots at) (index_at slots other)) (is_free class other free) no_better);
      }

  is_target_of : (class : Text) (at : ℕ) → IsTarget slots states class at → is_target slots states class at ≡ true
  is_target_of class at target = λ i. is_free class at target.free i && all_pass (is_no_better slots states class at) (range_with_len 0 (length slots)) (λ other h. no_better other (is_free_root slots states class other) refl) i
    where
      no_better : (other : ℕ) (b : Bool) → is_free_root slots states class other ≡ b → is_no_better slots states class at other ≡ true
      no_better other true e = (λ i. not (e i) || nat_le (index_at slots at) (index_at slots other)) ∙ le-leb (index_at slots at) (index_at slots other) (target.least other (free_is class other e))
      no_better other false e = λ i. not (e i) || nat_le (index_at slots at) (index_at slots other)

  pub of_target : (class : Text) (at : ℕ) → target_of slots states class ≡ Some at → IsTarget slots states class at
  unfolding target_of
  of_target class at h = target_is class at (of_find (is_target slots states class) (range_with_len 0 (length slots)) at h)

  some_target : (class : Text) (at : ℕ) → IsTarget slots states class at → (other : ℕ) × (target_of slots states class ≡ Some other)
  unfolding target_of
  some_target class at target =
      finds (is_target slots states class) (range_with_len 0 (length slots)) at (in_range (length slots) at (free_within class at target.free)) (is_target_of class at target)

  -- a target is that of one class
  pub one_class : (a b : Text) (at : ℕ) → IsTarget slots states a at → IsTarget slots states b at → a ≡ b
  one_class a b at p q = let through : Some a ≡ Some b = sym p.free.of_class ∙ q.free.of_class in cc

  -- ---- a class has one target

  module _ (sound : AreSlotsSound slots) where
    name_is : (at : ℕ) (x : Slot) → slice_get slots at ≡ Some x → x.name ≡ x.class ++ codes "." ++ decimal x.index
    name_is at x h =
        let formed = each_passes is_slot_formed slots x (true_is sound.formed) (item_in slots at x h) in
        let named = and_parts _ _ formed in
        let both = and_parts _ _ named.0 in
        same_text x.name (x.class ++ codes "." ++ decimal x.index) both.0
      where
        true_is : IsTrue (list_all is_slot_formed slots) → list_all is_slot_formed slots ≡ true
        true_is h = h

    index_is : (at : ℕ) (x : Slot) → slice_get slots at ≡ Some x → index_at slots at ≡ x.index
    index_is at x h = ap (λ (o : Option Slot). option_map_or (λ s. s.index) o 0) h

    name_there : (at : ℕ) (x : Slot) (name : Text) → slice_get slots at ≡ Some x → x.name ≡ name → slice_get (map (λ s. s.name) slots) at ≡ Some name
    name_there at x name h is = slice_get-map (λ (s : Slot). s.name) slots at ∙ ap (option_map (λ (s : Slot). s.name)) h ∙ ap (λ (t : Text). Some t) is

    pub one_target : (class : Text) (a b : ℕ) → IsTarget slots states class a → IsTarget slots states class b → a ≡ b
    one_target class a b p q =
        let x = free_slot class a p.free in
        let y = free_slot class b q.free in
        let below = p.least b q.free in
        let above = q.least a p.free in
        let x_is = index_is a x.0 x.1 in
        let y_is = index_is b y.0 y.1 in
        let index : x.0.index ≡ y.0.index = omega (arith, below, above, x_is, y_is) in
        let name : x.0.name ≡ y.0.name = name_is a x.0 x.1 ∙ (λ i. (x.2 ∙ sym y.2) i ++ codes "." ++ decimal (index i)) ∙ sym (name_is b y.0 y.1) in
        one_place (map (λ s. s.name) slots) a b y.0.name sound.names_differ (name_there a x.0 y.0.name x.1 name) (name_there b y.0 y.0.name y.1 refl)

    pub to_target : (class : Text) (at : ℕ) → IsTarget slots states class at → target_of slots states class ≡ Some at
    to_target class at target =
        let some = some_target class at target in
        some.1 ∙ ap (λ (n : ℕ). Some n) (one_target class some.0 at (of_target class some.0 some.1) target)

    -- ---- the targets of all classes

    abbrev roots : List Text
    roots = map (λ (s : Slot). s.class) (filter (λ (s : Slot). is_none s.parent) slots)

    class_there : (class : Text) (at : ℕ) → IsFreeRoot slots states class at → Contains (root_classes slots) class
    unfolding root_classes
    class_there class at free =
        let x = free_slot class at free in
        let root : is_none x.0.parent ≡ true = ap is_none x.3 in
        let there = in_map (λ (s : Slot). s.class) (filter (λ (s : Slot). is_none s.parent) slots) x.0 (in_filter (λ (s : Slot). is_none s.parent) slots x.0 (item_in slots at x.0 x.1) root) in
        let among = one_passes (bytes_eq class) roots class (subst (Contains roots) x.2 there) (equal_text class class refl) in
        let found = passing (bytes_eq class) (distinct roots) (is_in-distinct roots class ∙ among) in
        subst (Contains (distinct roots)) (sym (same_text class found.0 found.2)) found.1

    apart_in : (f : Text → Option ℕ) → ((a b : Text) (n : ℕ) → f a ≡ Some n → f b ≡ Some n → a ≡ b) → (classes : List Text) → all_distinct classes ≡ true → IsDistinct nat_eq (filter_map f classes)
    unfolding IsDistinct
    apart_in f one [] h = tt
    apart_in f one (class ∷ more) h = go (f class) refl (apart_in f one more (and_parts (not (list_any (bytes_eq class) more)) (all_distinct more) h).1)
      where
        absent : list_any (bytes_eq class) more ≡ false
        absent = not-true _ (and_parts (not (list_any (bytes_eq class) more)) (all_distinct more) h).0

        differs : (n m : ℕ) → f class ≡ Some n → Contains (filter_map f more) m → nat_eq n m ≡ false
        differs n m e h = by (nat_eq n m) refl
          where
            by : (b : Bool) → nat_eq n m ≡ b → nat_eq n m ≡ false
            by false k = k
            by true k =
                let other = of_filter_map f more m h in
                let same : class ≡ other.0 = one class other.0 m (e ∙ ap (λ (v : ℕ). Some v) (eqb-true n m k)) other.2 in
                absurd (true≢false (sym (equal_text class other.0 same) ∙ none_passes (bytes_eq class) more other.0 absent other.1))

        go : (o : Option ℕ) → f class ≡ o → IsDistinct nat_eq (filter_map f more) → IsDistinct nat_eq (cons_option o (filter_map f more))
        go None e rest = rest
        go (Some n) e rest = IsDistinct-cons nat_eq n (filter_map f more) (by_each (λ m. nat_eq n m ≡ false) (filter_map f more) (λ m h. differs n m e h)) rest

    classes_apart : all_distinct (root_classes slots) ≡ true
    unfolding root_classes
    classes_apart = distinct-distinct roots

    pub are_targets : AreTargets slots states (targets_of slots states)
    unfolding targets_of
    are_targets = record {
      all = λ at. (
        (λ h. let r = of_filter_map (target_of slots states) (root_classes slots) at h in (r.0, of_target r.0 at r.2)),
        (λ target. in_filter_map (target_of slots states) (root_classes slots) target.0 at (class_there target.0 at target.1.free) (to_target target.0 at target.1)),
      );
      once = apart_in (target_of slots states) (λ a b n p q. one_class a b n (of_target a n p) (of_target b n q)) (root_classes slots) classes_apart;
    }
