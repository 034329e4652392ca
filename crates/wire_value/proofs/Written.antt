-- What was written so far, and what a writer still has to add.
use Rattle.std.proofs.Common.{◌≡◌, ℕ, ◌+◌, ◌-◌, ◌<◌, Bool, List, ◌++◌, length, get_or, drop, sym, ap, subst, ◌∙◌, append_assoc, arith, rules, Vec, Global, ◌^◌}
use Rattle.std.proofs.lemmas.List.{length-append}
use Rattle.wire_value.specs.Plain.{Plain, Plains, none, more, array, struct, entry}
use Rattle.wire_value.specs.Spelling.{zeros, gap, word, alignment, first_item, spell, spells, IsValue}
use Rattle.wire_value.specs.Sizes.{ends, end_all, Each}
use Rattle.wire_value.specs.View.{view, views}
use Rattle.wire_value.specs.declared.value.Value.{Value, Array, Struct, the_lemmas}
use Rattle.wire_value.proofs.Steps.{length-zeros, length-word}
use Rattle.wire_value.proofs.Ends.{ends_is, end_is, each_value, grows}
use Rattle.wire_value.proofs.Views.{views_more}

pub next_is : (little : Bool) (n : ℕ) (vs : List Value) (i : ℕ) (v : Value) → i < length vs → v ≡ get_or vs i v → Each little n (views (drop i vs)) → IsValue little n (view v)
next_is little n vs i v lt is e = (subst (Each little n) (views_more vs i v lt is) e).0

-- what is left of a loop's values may stand behind the one that was written
pub each_next : (little : Bool) (out new : List ℕ) (vs : List Value) (i : ℕ) (v : Value) → i < length vs → v ≡ get_or vs i v → Each little (length out) (views (drop i vs))
    → new ≡ out ++ spell little (length out) (view v) → Each little (length new) (views (drop (i + 1) vs))
each_next little out new vs i v lt is e f =
    let len : length new ≡ length out + length (spell little (length out) (view v)) = ap length f ∙ length-append out (spell little (length out) (view v)) in
    subst (λ (m : ℕ). Each little m (views (drop (i + 1) vs))) (sym len) (subst (Each little (length out)) (views_more vs i v lt is) e).1

-- ---- what was written so far

pub out_ends : (little : Bool) (old out : List ℕ) (vs ws : Plains) → out ++ spells little (length out) ws ≡ old ++ spells little (length old) vs → end_all (length out) ws ≡ end_all (length old) vs
out_ends little old out vs ws e =
    sym (end_is little ws (length out)) ∙ sym (length-append out (spells little (length out) ws)) ∙ ap length e ∙ length-append old (spells little (length old) vs) ∙ end_is little vs (length old)

pub gap_len : (old new : List ℕ) (k : ℕ) → new ≡ old ++ zeros k → length new ≡ length old + k
gap_len old new k e = omega (arith, ap length e, length-append old (zeros k), length-zeros k)

pub struct_each : (little : Bool) (n : ℕ) (vs : Plains) → IsValue little n (struct vs) → Each little (n + gap 8 n) vs
struct_each little n none h = tt
struct_each little n (more v vs) h = each_value little (n + gap 8 n) (more v vs) h

pub struct_out : (little : Bool) (old mid new : List ℕ) (vs : Plains) → mid ≡ old ++ zeros (gap 8 (length old)) → new ≡ mid ++ spells little (length mid) vs → new ≡ old ++ spell little (length old) (struct vs)
struct_out little old mid new vs e f =
    let z = zeros (gap 8 (length old)) in
    let len = gap_len old mid (gap 8 (length old)) e in
    f ∙ ap (λ (n : ℕ). mid ++ spells little n vs) len ∙ ap (λ (y : List ℕ). y ++ spells little (length old + gap 8 (length old)) vs) e ∙ append_assoc old z (spells little (length old + gap 8 (length old)) vs)

module _ (little : Bool) (old : List ℕ) (item : List ℕ) (vs : Plains) where
  abbrev first : ℕ
  first = first_item item (length old + gap 4 (length old) + 4)

  abbrev body : List ℕ
  body = spells little first vs

  pub array_mid : (n : ℕ) (one two : List ℕ) → one ≡ old ++ (zeros (gap 4 (length old)) ++ word little 4 n) → two ≡ one ++ zeros (gap (alignment item) (length one)) → length two ≡ first
  array_mid n one two e f =
      let a : length one ≡ length old + gap 4 (length old) + 4 = omega (arith, ap length e, length-append old (zeros (gap 4 (length old)) ++ word little 4 n), length-append (zeros (gap 4 (length old))) (word little 4 n), length-zeros (gap 4 (length old)), length-word little 4 n) in
      gap_len one two (gap (alignment item) (length one)) f ∙ ap (λ (m : ℕ). m + gap (alignment item) m) a

  pub array_out : (n : ℕ) (one two new : List ℕ) → n ≡ end_all first vs - first → one ≡ old ++ (zeros (gap 4 (length old)) ++ word little 4 n) → two ≡ one ++ zeros (gap (alignment item) (length one)) → new ≡ two ++ spells little (length two) vs
      → new ≡ old ++ spell little (length old) (array item vs)
  array_out n one two new is e f g =
      let z = zeros (gap 4 (length old)) in
      let w = word little 4 n in
      let s = length old + gap 4 (length old) + 4 in
      let y = zeros (gap (alignment item) s) in
      let a : length one ≡ s = omega (arith, ap length e, length-append old (z ++ w), length-append z w, length-zeros (gap 4 (length old)), length-word little 4 n) in
      let counted : n ≡ length body = omega (arith, is, end_is little vs first) in
      let two_is : two ≡ (old ++ (z ++ w)) ++ y = f ∙ ap (λ (m : ℕ). one ++ zeros (gap (alignment item) m)) a ∙ ap (λ (x : List ℕ). x ++ y) e in
      let new_is : new ≡ ((old ++ (z ++ w)) ++ y) ++ body = g ∙ ap (λ (m : ℕ). two ++ spells little m vs) (array_mid n one two e f) ∙ ap (λ (x : List ℕ). x ++ body) two_is in
      let flat : ((old ++ (z ++ w)) ++ y) ++ body ≡ old ++ (z ++ (w ++ (y ++ body))) = simp append_assoc in
      new_is ∙ flat ∙ ap (λ (m : ℕ). old ++ (z ++ (word little 4 m ++ (y ++ body)))) counted

pub view_array : (t : List ℕ) (vs : Vec Value Global) → view (Array t vs) ≡ array t (views vs.items)
view_array t vs = search (rules, the_lemmas)

pub view_struct : (vs : Vec Value Global) → view (Struct vs) ≡ struct (views vs.items)
view_struct vs = search (rules, the_lemmas)

-- an entry is written as its padding, its key and its value
module _ (little : Bool) (old mid : List ℕ) (x k v : Plain) (is : x ≡ entry k v) (padded : mid ≡ old ++ zeros (gap 8 (length old))) where
  start : length mid ≡ length old + gap 8 (length old)
  start = gap_len old mid (gap 8 (length old)) padded

  pub key_fits : IsValue little (length old) x → ends (length old) x < 2 ^ 32 → IsValue little (length mid) k × (ends (length mid) k < 2 ^ 32)
  key_fits valid fits = (
    subst (λ (n : ℕ). IsValue little n k) (sym start) (subst (IsValue little (length old)) is valid).2,
    omega (arith, ap (λ (n : ℕ). ends n k) start, ap (ends (length old)) is, grows (ends (length old + gap 8 (length old)) k) v, fits),
  )

  keyed : (new : List ℕ) → new ≡ mid ++ spell little (length mid) k → length new ≡ length old + gap 8 (length old) + length (spell little (length old + gap 8 (length old)) k)
  keyed new e = ap length e ∙ length-append mid (spell little (length mid) k) ∙ ap (λ (n : ℕ). n + length (spell little n k)) start

  pub value_fits : (new : List ℕ) → new ≡ mid ++ spell little (length mid) k → IsValue little (length old) x → ends (length old) x < 2 ^ 32 → IsValue little (length new) v × (ends (length new) v < 2 ^ 32)
  value_fits new e valid fits = (
    subst (λ (n : ℕ). IsValue little n v) (sym (keyed new e)) (subst (IsValue little (length old)) is valid).3,
    omega (arith, ap (λ (n : ℕ). ends n v) (keyed new e ∙ ends_is little k (length old + gap 8 (length old))), ap (ends (length old)) is, fits),
  )

  pub entry_out : (new out : List ℕ) → new ≡ mid ++ spell little (length mid) k → out ≡ new ++ spell little (length new) v → out ≡ old ++ spell little (length old) x
  entry_out new out e f =
      let m = length old + gap 8 (length old) in
      let z = zeros (gap 8 (length old)) in
      let a = spell little m k in
      let b = spell little (m + length a) v in
      let new_is : new ≡ (old ++ z) ++ a = e ∙ ap (λ (n : ℕ). mid ++ spell little n k) start ∙ ap (λ (y : List ℕ). y ++ a) padded in
      let flat : ((old ++ z) ++ a) ++ b ≡ old ++ (z ++ (a ++ b)) = simp append_assoc in
      f ∙ ap (λ (n : ℕ). new ++ spell little n v) (keyed new e) ∙ ap (λ (y : List ℕ). y ++ b) new_is ∙ flat ∙ ap (λ (y : Plain). old ++ spell little (length old) y) (sym is)
