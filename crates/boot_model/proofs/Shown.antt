-- A map of `String`s, as the finite map of its texts.
use Rattle.std.proofs.Common.{◌≡◌, ℕ, Bool, true, false, cond, T, ◌&&◌, List, [], ◌∷◌, map, length, Option, Some, None, string_bytes, slice_get, refl, sym, ◌∙◌, ap, subst}
use Rattle.std.specs.Option.{option_map}
use Rattle.std.specs.List.{AllZip, AllByRecursion}
use Rattle.std.specs.List.Sorted.{IsStrictlySortedBy}
use Rattle.std.specs.Ordering.{nat_cmp, is_eq, is_lt, eq_by_cmp}
use Rattle.std.specs.Cmp.{eq_by_cmp_equiv}
use Rattle.std.specs.Cmp.Lexicographic.{slice_cmp, nat_list_cmp_total}
use Rattle.std.specs.Str.{bytes_eq}
use Rattle.std.specs.String.{string_cmp}
use Rattle.std.specs.Map.{lookup, keys_of}
use Rattle.std.specs.declared.cmp.Ordering.TheVariants.{Less}
use Rattle.std.specs.BTreeMap as tree
use Rattle.std.specs.BTreeMap.{BTreeMap, is_at}
use Rattle.std.specs.FinMap.{find, get, insert, remove, entries, from_entries, get-insert, get-remove, get-from_entries, from_sorted, get-from_sorted, entries-from_sorted, len, len-entries, keys, same_map, nat_cmp-IsAntisymmetric, slice_cmp-IsAntisymmetric, is_sorted}
use Rattle.std.specs.FinMap.Entries.{below_all}
use Rattle.std.specs.declared.string.String.{String}
use Rattle.std.specs.declared.alloc.Global.{Global}
use Rattle.std.proofs.lemmas.Map.Text.{is_eq-slice_cmp, btree_map_updates_text}
use Rattle.std.proofs.lemmas.List.{length-map}
use Rattle.std.proofs.lemmas.Option.{slice_get-map}
use Rattle.boot_model.specs.Vars.{Variables, texts_of, shown}

-- a look-up among the texts
find-texts_of : (q : List ℕ) (es : List (String Global × String Global)) → find (slice_cmp nat_cmp) q (texts_of es) ≡ option_map string_bytes (lookup (is_at (λ k. slice_cmp nat_cmp q (string_bytes k))) es)
find-texts_of q [] = refl
find-texts_of q (e ∷ es) =
    elim (is_eq (slice_cmp nat_cmp q (string_bytes e.0))) as (λ b. cond b (Some (string_bytes e.1)) (find (slice_cmp nat_cmp) q (texts_of es)) ≡ option_map string_bytes (cond b (Some e.1) (lookup (is_at (λ k. slice_cmp nat_cmp q (string_bytes k))) es))) [
      | true ↦ refl
      | false ↦ find-texts_of q es
    ]

pub get-shown : (m : BTreeMap (String Global) (String Global)) (q : List ℕ) → get (shown m) q ≡ option_map string_bytes (tree.get_by_text m q)
get-shown m q = get-from_entries nat_list_cmp_total (texts_of m.entries) q ∙ find-texts_of q m.entries

eq_tests : (q bs : List ℕ) → bytes_eq bs q ≡ eq_by_cmp (slice_cmp nat_cmp) q bs
eq_tests q bs = sym (is_eq-slice_cmp bs q) ∙ (eq_by_cmp_equiv nat_list_cmp_total).symm bs q

-- one name has another value, or none
get-shown_updated : (bs : List ℕ) (m n : BTreeMap (String Global) (String Global)) (w : Option (String Global)) → tree.UpdatesBy string_cmp (λ k. slice_cmp nat_cmp bs (string_bytes k)) m n w
    → (q : List ℕ) → get (shown n) q ≡ cond (eq_by_cmp (slice_cmp nat_cmp) q bs) (option_map string_bytes w) (get (shown m) q)
get-shown_updated bs m n w h q =
    get-shown n q ∙ ap (option_map string_bytes) (btree_map_updates_text bs m n w h q)
    ∙ elim (bytes_eq bs q) as (λ b. bytes_eq bs q ≡ b → option_map string_bytes (cond b w (tree.get_by_text m q)) ≡ cond (eq_by_cmp (slice_cmp nat_cmp) q bs) (option_map string_bytes w) (get (shown m) q)) [
      | true ↦ λ e. ap (λ b. cond b (option_map string_bytes w) (get (shown m) q)) (sym e ∙ eq_tests q bs)
      | false ↦ λ e. sym (get-shown m q) ∙ ap (λ b. cond b (option_map string_bytes w) (get (shown m) q)) (sym e ∙ eq_tests q bs)
    ] refl

same_texts : (m n : Variables) → ((q : List ℕ) → get m q ≡ get n q) → m ≡ n
same_texts m n is = same_map nat_list_cmp_total (slice_cmp-IsAntisymmetric nat_cmp-IsAntisymmetric) m n is

pub shown_inserted : (m n : BTreeMap (String Global) (String Global)) (k v : String Global) → tree.Updates string_cmp m n k (Some v) → shown n ≡ insert (shown m) (string_bytes k) (string_bytes v)
shown_inserted m n k v h =
    same_texts (shown n) (insert (shown m) (string_bytes k) (string_bytes v)) (λ q. get-shown_updated (string_bytes k) m n (Some v) h q ∙ sym (get-insert nat_list_cmp_total (shown m) (string_bytes k) (string_bytes v) q))

pub shown_removed : (m n : BTreeMap (String Global) (String Global)) (bs : List ℕ) → tree.UpdatesBy string_cmp (λ k. slice_cmp nat_cmp bs (string_bytes k)) m n None → shown n ≡ remove (shown m) bs
shown_removed m n bs h =
    same_texts (shown n) (remove (shown m) bs) (λ q. get-shown_updated bs m n None h q ∙ sym (get-remove nat_list_cmp_total (shown m) bs q))

-- keys in order are in order as texts
both : (a b : Bool) → T a → T b → T (a && b)
both true b p q = q
both false b p q = p

below-texts_of : (k : String Global) (es : List (String Global × String Global)) → AllByRecursion (λ y. string_cmp k y ≡ Less) (keys_of es) → T (below_all (slice_cmp nat_cmp) (string_bytes k) (texts_of es))
below-texts_of k [] h = tt
below-texts_of k (e ∷ es) h = both (is_lt (string_cmp k e.0)) (below_all (slice_cmp nat_cmp) (string_bytes k) (texts_of es)) (subst (λ r. T (is_lt r)) (sym h.0) tt) (below-texts_of k es h.1)

is_sorted-texts_of : (es : List (String Global × String Global)) → IsStrictlySortedBy string_cmp (keys_of es) → T (is_sorted (slice_cmp nat_cmp) (texts_of es))
unfolding IsStrictlySortedBy
is_sorted-texts_of [] h = tt
is_sorted-texts_of (e ∷ es) h = both (below_all (slice_cmp nat_cmp) (string_bytes e.0) (texts_of es)) (is_sorted (slice_cmp nat_cmp) (texts_of es)) (below-texts_of e.0 es h.0) (is_sorted-texts_of es h.1)

-- so the map has these entries
pub entries-shown : (m : BTreeMap (String Global) (String Global)) → tree.IsOrdered string_cmp m → entries (shown m) ≡ texts_of m.entries
entries-shown m h =
    let sorted = is_sorted-texts_of m.entries h in
    ap entries (same_texts (shown m) (from_sorted (texts_of m.entries)) (λ q. get-from_entries nat_list_cmp_total (texts_of m.entries) q ∙ sym (get-from_sorted (slice_cmp nat_cmp) (texts_of m.entries) q sorted)))
    ∙ entries-from_sorted (slice_cmp nat_cmp) (texts_of m.entries) sorted

pub len-shown : (m : BTreeMap (String Global) (String Global)) → tree.IsOrdered string_cmp m → len (shown m) ≡ length m.entries
len-shown m h = len-entries (shown m) ∙ ap length (entries-shown m h) ∙ length-map m.entries (λ (e : String Global × String Global). (string_bytes e.0, string_bytes e.1))

names-texts_of : (es : List (String Global × String Global)) → map (λ (e : List ℕ × List ℕ). e.0) (texts_of es) ≡ map string_bytes (keys_of es)
names-texts_of [] = refl
names-texts_of (e ∷ es) = ap (λ (names : List (List ℕ)). string_bytes e.0 ∷ names) (names-texts_of es)

pub keys-shown : (m : BTreeMap (String Global) (String Global)) → tree.IsOrdered string_cmp m → keys (shown m) ≡ map string_bytes (tree.keys m)
keys-shown m h = ap (map (λ (e : List ℕ × List ℕ). e.0)) (entries-shown m h) ∙ names-texts_of m.entries

pub slice_get-keys-shown : (m : BTreeMap (String Global) (String Global)) → tree.IsOrdered string_cmp m → (at : ℕ) → option_map string_bytes (slice_get (tree.keys m) at) ≡ slice_get (keys (shown m)) at
slice_get-keys-shown m h at = sym (slice_get-map string_bytes (tree.keys m) at) ∙ ap (λ (names : List (List ℕ)). slice_get names at) (sym (keys-shown m h))

-- a clone has the same texts
pub shown_cloned : (m n : BTreeMap (String Global) (String Global)) → AllZip (λ (p q : String Global × String Global). (string_bytes q.0 ≡ string_bytes p.0) × (string_bytes q.1 ≡ string_bytes p.1)) m.entries n.entries → shown n ≡ shown m
shown_cloned m n h = ap from_entries (same m.entries n.entries h)
  where
    same : (es fs : List (String Global × String Global)) → AllZip (λ (p q : String Global × String Global). (string_bytes q.0 ≡ string_bytes p.0) × (string_bytes q.1 ≡ string_bytes p.1)) es fs → texts_of fs ≡ texts_of es
    same [] [] h = refl
    same [] (f ∷ fs) h = absurd h
    same (e ∷ es) [] h = absurd h
    same (e ∷ es) (f ∷ fs) h = λ i. (h.0.0 i, h.0.1 i) ∷ same es fs h.1 i
