-- Texts that are put together, and look-ups along the names of the variables.
use Rattle.std.proofs.Common.{◌≡◌, ◌≢◌, ◌<◌, ◌+◌, ◌&&◌, ℕ, Bool, true, false, List, [], ◌∷◌, ◌++◌, length, take, Option, Some, None, slice_get, refl, sym, ◌∙◌, ap}
use Rattle.std.specs.Prelude.{is_some}
use Rattle.std.specs.FinMap.{contains_key-keys, entries, keys, len, len-entries}
use Rattle.std.specs.Cmp.{eq_by_cmp_equiv}
use Rattle.std.specs.Cmp.Lexicographic.{slice_cmp, nat_list_cmp_total}
use Rattle.std.specs.List.{list_any}
use Rattle.std.specs.Ordering.{nat_cmp, eq_by_cmp}
use Rattle.std.specs.Str.{bytes_eq}
use Rattle.std.proofs.lemmas.Bool.{eq-eqb, or_from, true≢false}
use Rattle.std.proofs.lemmas.List.{length-map}
use Rattle.std.proofs.lemmas.List.Folds.{list_any_more}
use Rattle.std.proofs.lemmas.Map.Text.{is_eq-slice_cmp}
use Rattle.std.proofs.lemmas.Option.{get_or_from_slice_get, slice_get_within, slice_get-get_or}
use Rattle.std.proofs.lemmas.Slice.Eq.{bytes_eq-Decides}
use Rattle.boot_model.specs.Vars.{Variables}
use Rattle.boot_state.specs.Orders.{has_word, value}

pub bytes_eq_other : (p q : List ℕ) → p ≢ q → bytes_eq p q ≡ false
bytes_eq_other p q other =
    elim (bytes_eq p q) as (λ b. bytes_eq p q ≡ b → bytes_eq p q ≡ false) [
      | true ↦ λ e. absurd (other ((bytes_eq-Decides p q).0 e))
      | false ↦ λ e. e
    ] refl

-- two texts that begin alike are equal where the rest of them is
pub bytes_eq-behind : (front xs ys : List ℕ) → bytes_eq (front ++ xs) (front ++ ys) ≡ bytes_eq xs ys
bytes_eq-behind [] xs ys = refl
bytes_eq-behind (byte ∷ front) xs ys = ap (λ (b : Bool). b && bytes_eq (front ++ xs) (front ++ ys)) (eq-eqb byte byte refl) ∙ bytes_eq-behind front xs ys

-- not among the first words, and not the next one
pub not_yet : (words : List (List ℕ)) (word : List ℕ) (at : ℕ) (next : List ℕ) → has_word (take at words) word ≡ false → Some next ≡ slice_get words at → bytes_eq next word ≡ false → has_word (take (at + 1) words) word ≡ false
not_yet words word at next before there here =
    let found : slice_get words at ≡ Some next = sym there in
    list_any_more (λ w. bytes_eq w word) words at next (slice_get_within words at next found)
    ∙ or_from (has_word (take at words) word) _ before (ap (λ w. bytes_eq w word) (get_or_from_slice_get words at next next found) ∙ here)

tests_alike : (q w : List ℕ) → eq_by_cmp (slice_cmp nat_cmp) q w ≡ bytes_eq w q
tests_alike q w = (eq_by_cmp_equiv nat_list_cmp_total).symm q w ∙ is_eq-slice_cmp w q

no_value : (o : Option (List ℕ)) → is_some o ≡ false → o ≡ None
no_value None e = refl
no_value (Some x) e = absurd (true≢false e)

pub length-keys : (vars : Variables) → length (keys vars) ≡ len vars
length-keys vars = length-map (entries vars) (λ (e : List ℕ × List ℕ). e.0) ∙ sym (len-entries vars)

-- a name that no variable has
pub absent : (vars : Variables) (name : List ℕ) → has_word (keys vars) name ≡ false → value vars name ≡ None
absent vars name none =
    no_value (value vars name) (contains_key-keys vars name ∙ (λ i. list_any (λ w. tests_alike name w i) (keys vars)) ∙ none)

pub not_past : (words : List (List ℕ)) (at : ℕ) → None ≡ slice_get words at → at < length words → ⊥
not_past words at none within = let there = slice_get-get_or words at [] within in cc

-- a name that a variable has
pub present : (vars : Variables) (name text : List ℕ) → value vars name ≡ Some text → has_word (keys vars) name ≡ true
present vars name text there = (λ i. list_any (λ w. sym (tests_alike name w) i) (keys vars)) ∙ sym (contains_key-keys vars name) ∙ ap is_some there
