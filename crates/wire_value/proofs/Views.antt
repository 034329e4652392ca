-- Values that a loop goes over, as plain values.
use Rattle.std.proofs.Common.{◌≡◌, ℕ, ◌+◌, ◌<◌, ◌≤◌, List, ◌∷◌, ◌++◌, length, get_or, drop, sym, ap, ◌∙◌, arith, rules, Box, Global}
use Rattle.std.proofs.lemmas.List.{drop_more, length-append}
use Rattle.wire_value.specs.Plain.{Plains, Plain, more, entry, sig, sigs}
use Rattle.wire_value.specs.Spelling.{gap}
use Rattle.wire_value.specs.Sizes.{ends, end_all}
use Rattle.wire_value.specs.View.{view, views}
use Rattle.wire_value.specs.declared.value.Value.{Value, Pair, the_lemmas}
use Rattle.wire_value.proofs.Ends.{grows, end_grows}

pub views_more : (vs : List Value) (i : ℕ) (v : Value) → i < length vs → v ≡ get_or vs i v → views (drop i vs) ≡ more (view v) (views (drop (i + 1) vs))
views_more vs i v lt is = ap views (drop_more vs i v lt ∙ ap (λ (x : Value). x ∷ drop (i + 1) vs) (sym is))

-- the next value of a loop ends within what all of them end within
pub next_ends : (vs : List Value) (i n : ℕ) (v : Value) → i < length vs → v ≡ get_or vs i v → ends n (view v) ≤ end_all n (views (drop i vs))
next_ends vs i n v lt is = omega (arith, ap (end_all n) (views_more vs i v lt is), end_grows (ends n (view v)) (views (drop (i + 1) vs)))

-- the key of an entry ends within what the entry ends within
pub key_ends : (n : ℕ) (x k v : Plain) → x ≡ entry k v → ends (n + gap 8 n) k ≤ ends n x
key_ends n x k v is = omega (arith, ap (ends n) is, grows (ends (n + gap 8 n) k) v)

pub view_pair : (k v : Box Value Global) → view (Pair k v) ≡ entry (view k.value) (view v.value)
view_pair k v = search (rules, the_lemmas)

-- where a loop's next type has no room, all of them have none
pub no_room : (vs : List Value) (i : ℕ) (v : Value) (old out : List ℕ) → i < length vs → v ≡ get_or vs i v → out ++ sigs (views (drop i vs)) ≡ old ++ sigs (views vs)
    → 255 < length out + length (sig (view v)) → 255 < length old + length (sigs (views vs))
no_room vs i v old out lt is e full =
    let rest = ap (λ (x : Plains). length (sigs x)) (views_more vs i v lt is) in
    omega (arith, ap length e, rest, length-append out (sigs (views (drop i vs))), length-append old (sigs (views vs)), length-append (sig (view v)) (sigs (views (drop (i + 1) vs))), full)
