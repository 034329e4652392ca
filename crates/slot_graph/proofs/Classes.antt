-- The classes of the roots, one slot more.
use Rattle.std.proofs.Common.{◌≡◌, ◌<◌, ◌+◌, ℕ, Bool, true, false, ◌||◌, cond, List, [], ◌∷◌, ◌++◌, length, map, filter, take, get_or, Option, refl, sym, ◌∙◌, ap}
use Rattle.std.specs.Prelude.{is_none}
use Rattle.std.specs.List.{cons_option, filter_map, list_any}
use Rattle.std.specs.Str.{bytes_eq}
use Rattle.std.proofs.lemmas.List.{append-nil, map-append, take_more}
use Rattle.std.proofs.lemmas.List.Elements.{filter-append}
use Rattle.keyfile.proofs.Distinct.{distinct-more, is_in-distinct}
use Rattle.keyfile.specs.Groups.{Text}
use Rattle.keyfile.specs.Reading.{distinct}
use Rattle.system_conf.specs.declared.slot.Slot.{Slot}

abbrev root_class : List Slot → List Text
root_class slots = map (λ (s : Slot). s.class) (filter (λ (s : Slot). is_none s.parent) slots)

abbrev pub classes_in : List Slot → List Text
classes_in slots = distinct (root_class slots)

one_more : (slots : List Slot) (at : ℕ) (x : Slot) → at < length slots → x ≡ get_or slots at x → root_class (take (at + 1) slots) ≡ root_class (take at slots) ++ root_class (x ∷ [])
one_more slots at x within is =
    ap root_class (take_more slots at x within ∙ ap (λ (s : Slot). take at slots ++ s ∷ []) (sym is))
    ∙ ap (map (λ (s : Slot). s.class)) (filter-append (λ (s : Slot). is_none s.parent) (take at slots) (x ∷ []))
    ∙ map-append (λ (s : Slot). s.class) (filter (λ (s : Slot). is_none s.parent) (take at slots)) (filter (λ (s : Slot). is_none s.parent) (x ∷ []))

module _ (slots : List Slot) (at : ℕ) (x : Slot) (classes : List Text) (so_far : classes ≡ classes_in (take at slots)) (within : at < length slots) (is : x ≡ get_or slots at x) where
  -- a child adds no class
  pub class_of_child : is_none x.parent ≡ false → classes ≡ classes_in (take (at + 1) slots)
  class_of_child child =
      so_far
      ∙ sym (ap distinct (one_more slots at x within is ∙ ap (λ (b : Bool). root_class (take at slots) ++ map (λ (s : Slot). s.class) (cond b (x ∷ []) [])) child ∙ append-nil (root_class (take at slots))))

  root_more : is_none x.parent ≡ true → classes_in (take (at + 1) slots) ≡ cond (list_any (bytes_eq x.class) classes) classes (classes ++ x.class ∷ [])
  root_more root =
      ap distinct (one_more slots at x within is ∙ ap (λ (b : Bool). root_class (take at slots) ++ map (λ (s : Slot). s.class) (cond b (x ∷ []) [])) root)
      ∙ distinct-more (root_class (take at slots)) x.class
      ∙ ap (λ (b : Bool). cond b (classes_in (take at slots)) (classes_in (take at slots) ++ x.class ∷ [])) (sym (is_in-distinct (root_class (take at slots)) x.class))
      ∙ ap (λ (known : List Text). cond (list_any (bytes_eq x.class) known) known (known ++ x.class ∷ [])) (sym so_far)

  -- a root may add one
  pub class_known : is_none x.parent ≡ true → list_any (bytes_eq x.class) classes ≡ true → classes ≡ classes_in (take (at + 1) slots)
  class_known root known = sym (root_more root ∙ ap (λ (b : Bool). cond b classes (classes ++ x.class ∷ [])) known)

  pub class_new : is_none x.parent ≡ true → list_any (bytes_eq x.class) classes ≡ false → classes ++ x.class ∷ [] ≡ classes_in (take (at + 1) slots)
  class_new root new = sym (root_more root ∙ ap (λ (b : Bool). cond b classes (classes ++ x.class ∷ [])) new)

pub filter_map-map : {A B C : Type 0} (f : B → Option C) (g : A → B) (xs : List A) → filter_map f (map g xs) ≡ filter_map (λ x. f (g x)) xs
filter_map-map f g [] = refl
filter_map-map f g (x ∷ xs) = ap (cons_option (f (g x))) (filter_map-map f g xs)

pub list_any-map : {A B : Type 0} (p : B → Bool) (f : A → B) (xs : List A) → list_any (λ x. p (f x)) xs ≡ list_any p (map f xs)
list_any-map p f [] = refl
list_any-map p f (x ∷ xs) = ap (λ (b : Bool). p (f x) || b) (list_any-map p f xs)
