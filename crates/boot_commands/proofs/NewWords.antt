-- Words that are put behind others one after another.
use Rattle.std.proofs.Common.{◌≡◌, ◌<◌, ◌+◌, ℕ, Bool, true, false, cond, not, ◌&&◌, ◌||◌, List, [], ◌∷◌, ◌++◌, length, get_or, drop, drop-cons, add-one, refl, sym, ◌∙◌, ap, append_assoc, arith}
use Rattle.std.specs.Prelude.{filter}
use Rattle.std.specs.Str.{bytes_eq}
use Rattle.std.proofs.lemmas.Bool.{not-false, true≢false}
use Rattle.std.proofs.lemmas.List.Folds.{list_any-append}
use Rattle.std.proofs.lemmas.Slice.Eq.{bytes_eq-Decides}
use Rattle.boot_state.specs.Orders.{each_once, has_word, others, without_word}
use Rattle.boot_state.proofs.Lookups.{bytes_eq_other}
use Rattle.boot_commands.specs.NewWords.{new_words}

flip : (a b : List ℕ) → bytes_eq a b ≡ bytes_eq b a
flip a b =
    elim (bytes_eq b a) as (λ v. bytes_eq b a ≡ v → bytes_eq a b ≡ v) [
      | true ↦ λ e. (bytes_eq-Decides a b).1 (sym ((bytes_eq-Decides b a).0 e))
      | false ↦ λ e. bytes_eq_other a b (λ same. true≢false (sym ((bytes_eq-Decides b a).1 (sym same)) ∙ e))
    ] refl

-- ---- filters

filter_alike : (p q : List ℕ → Bool) (words : List (List ℕ)) → ((word : List ℕ) → p word ≡ q word) → filter p words ≡ filter q words
filter_alike p q [] same = refl
filter_alike p q (word ∷ words) same = λ i. cond (same word i) (word ∷ filter_alike p q words same i) (filter_alike p q words same i)

filter_both : (p q : List ℕ → Bool) (words : List (List ℕ)) → ((word : List ℕ) → q word ≡ false → p word ≡ false) → filter p (filter q words) ≡ filter p words
filter_both p q [] inside = refl
filter_both p q (word ∷ words) inside =
    elim (q word) as (λ b. q word ≡ b → filter p (cond b (word ∷ filter q words) (filter q words)) ≡ cond (p word) (word ∷ filter p words) (filter p words)) [
      | true ↦ λ e. ap (λ (ws : List (List ℕ)). cond (p word) (word ∷ ws) ws) (filter_both p q words inside)
      | false ↦ λ e. filter_both p q words inside ∙ ap (λ (b : Bool). cond b (word ∷ filter p words) (filter p words)) (sym (inside word e))
    ] refl

filter_twice : (p q : List ℕ → Bool) (words : List (List ℕ)) → filter p (filter q words) ≡ filter (λ word. q word && p word) words
filter_twice p q [] = refl
filter_twice p q (word ∷ words) =
    let later = filter_twice p q words in
    elim (q word) as (λ b. filter p (cond b (word ∷ filter q words) (filter q words)) ≡ cond (b && p word) (word ∷ filter (λ w. q w && p w) words) (filter (λ w. q w && p w) words)) [
      | true ↦ ap (λ (ws : List (List ℕ)). cond (p word) (word ∷ ws) ws) later
      | false ↦ later
    ]

-- ---- new words

module _ (seen : List (List ℕ)) (word : List ℕ) (words : List (List ℕ)) where
  -- one that stands there is passed over
  seen_word : has_word seen word ≡ true → new_words seen (word ∷ words) ≡ new_words seen words
  seen_word is =
      ap (λ (b : Bool). cond (not b) (word ∷ filter (λ w. not (has_word seen w)) (without_word (each_once words) word)) (filter (λ w. not (has_word seen w)) (without_word (each_once words) word))) is
      ∙ filter_both (λ w. not (has_word seen w)) (λ w. not (bytes_eq w word)) (each_once words)
      (λ w e. ap (λ (x : List ℕ). not (has_word seen x)) ((bytes_eq-Decides w word).0 (not-false (bytes_eq w word) e)) ∙ ap not is)

  both_tests : (w : List ℕ) → (not (bytes_eq w word) && not (has_word seen w)) ≡ not (has_word (seen ++ word ∷ []) w)
  both_tests w =
      (elim (bytes_eq w word) as (λ a. (b : Bool) → (not a && not b) ≡ not (b || (a || false))) [
        | true ↦ λ b. elim b as (λ v. false ≡ not (v || true)) [ true ↦ refl | false ↦ refl ]
        | false ↦ λ b. elim b as (λ v. not v ≡ not (v || false)) [ true ↦ refl | false ↦ refl ]
      ]) (has_word seen w)
      ∙ ap (λ (b : Bool). not (has_word seen w || (b || false))) (flip w word)
      ∙ ap not (sym (list_any-append (λ (x : List ℕ). bytes_eq x w) seen (word ∷ [])))

  -- another comes next
  new_word : has_word seen word ≡ false → new_words seen (word ∷ words) ≡ word ∷ new_words (seen ++ word ∷ []) words
  new_word is =
      ap (λ (b : Bool). cond (not b) (word ∷ filter (λ w. not (has_word seen w)) (without_word (each_once words) word)) (filter (λ w. not (has_word seen w)) (without_word (each_once words) word))) is
      ∙ ap (λ (ws : List (List ℕ)). word ∷ ws)
      (filter_twice (λ w. not (has_word seen w)) (λ w. not (bytes_eq w word)) (each_once words)
      ∙ filter_alike (λ w. not (bytes_eq w word) && not (has_word seen w)) (λ w. not (has_word (seen ++ word ∷ []) w)) (each_once words) both_tests)

-- ---- the loop that puts them

module _ (order words whole : List (List ℕ)) (at : ℕ) (word : List ℕ) (within : at < length words) (there : word ≡ get_or words at word) (so_far : order ++ new_words order (drop at words) ≡ whole) where
  next : drop at words ≡ word ∷ drop (at + 1) words
  next = drop-cons words at word within ∙ (λ i. sym there i ∷ drop (sym (add-one at) i) words)

  pub word_passed : has_word order word ≡ true → order ++ new_words order (drop (at + 1) words) ≡ whole
  word_passed is = ap (λ (ws : List (List ℕ)). order ++ ws) (sym (seen_word order word (drop (at + 1) words) is) ∙ ap (new_words order) (sym next)) ∙ so_far

  pub word_put : (more : List (List ℕ)) → has_word order word ≡ false → more ≡ order ++ word ∷ [] → more ++ new_words more (drop (at + 1) words) ≡ whole
  word_put more is put =
      ap (λ (m : List (List ℕ)). m ++ new_words m (drop (at + 1) words)) put
      ∙ append_assoc order (word ∷ []) (new_words (order ++ word ∷ []) (drop (at + 1) words))
      ∙ ap (λ (ws : List (List ℕ)). order ++ ws) (sym (new_word order word (drop (at + 1) words) is) ∙ ap (new_words order) (sym next))
      ∙ so_far

-- ---- behind one word

behind_one : (word : List ℕ) (words : List (List ℕ)) → new_words (word ∷ []) words ≡ without_word (each_once words) word
behind_one word words =
    filter_alike (λ w. not (bytes_eq word w || false)) (λ w. not (bytes_eq w word)) (each_once words)
    (λ w. ap (λ (b : Bool). not (b || false)) (flip word w) ∙ elim (bytes_eq w word) as (λ b. not (b || false) ≡ not b) [ true ↦ refl | false ↦ refl ])

pub others_empty : (names words : List (List ℕ)) (name : List ℕ) → length words ≡ 0 → others names name words ≡ without_word names name
others_empty names [] name h = refl
others_empty names (word ∷ words) name h = absurd (omega arith)

pub others_new : (names words : List (List ℕ)) (name : List ℕ) → (length words ≡ 0 → ⊥) → others names name words ≡ new_words (name ∷ []) words
others_new names [] name h = absurd (h refl)
others_new names (word ∷ words) name h = sym (behind_one name (word ∷ words))
