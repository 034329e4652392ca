-- Orders: their words, written and read back.
use Rattle.std.proofs.Common.{◌≡◌, ◌≢◌, ℕ, Bool, true, false, cond, not, ◌||◌, eqb, List, [], ◌∷◌, ◌++◌, length, Option, refl, sym, ◌∙◌, ap, ⊎_elim}
use Rattle.std.specs.Prelude.{filter, unwrap_or}
use Rattle.std.specs.List.{list_all, list_any, onto_first, slice_split}
use Rattle.std.specs.Str.{bytes_eq}
use Rattle.std.proofs.lemmas.Bool.{and_parts, not-true, or_cases, or_from, or_left, or_parts, or_right, true≢false}
use Rattle.std.proofs.lemmas.List.Folds.{list_any-append}
use Rattle.std.proofs.lemmas.List.Splits.{slice_split-cons_no, slice_split-cons_yes}
use Rattle.std.proofs.lemmas.Slice.Eq.{bytes_eq-Decides}
use Rattle.boot_model.specs.Vars.{Variables}
use Rattle.boot_state.specs.Orders.{each_once, has_word, is_blank, is_comma, is_word, joined, others, put, value, without_word, words_between}
use Rattle.boot_state.proofs.Values.{value-insert_same, value-remove_same}

-- a word can stand between such bytes
abbrev pub IsUncut : (ℕ → Bool) → List ℕ → Type 0
IsUncut gap word = (eqb (length word) 0 ≡ false) × (list_any gap word ≡ false)

abbrev pub AreUncut : (ℕ → Bool) → List (List ℕ) → Type 0
AreUncut gap [] = Unit {0}
AreUncut gap (word ∷ words) = IsUncut gap word × AreUncut gap words

-- ---- the words of a text

abbrev AreGapless : (ℕ → Bool) → List (List ℕ) → Type 0
AreGapless gap [] = Unit {0}
AreGapless gap (word ∷ words) = (list_any gap word ≡ false) × AreGapless gap words

gapless_onto : (gap : ℕ → Bool) (byte : ℕ) (words : List (List ℕ)) → gap byte ≡ false → AreGapless gap words → AreGapless gap (onto_first byte words)
gapless_onto gap byte [] h are = (or_from (gap byte) false h refl, tt)
gapless_onto gap byte (word ∷ words) h are = (or_from (gap byte) (list_any gap word) h are.0, are.1)

gapless_split : (gap : ℕ → Bool) (text : List ℕ) → AreGapless gap (slice_split gap text)
gapless_split gap [] = (refl, tt)
gapless_split gap (byte ∷ text) =
    elim (gap byte) as (λ b. gap byte ≡ b → AreGapless gap (cond b ([] ∷ slice_split gap text) (onto_first byte (slice_split gap text)))) [
      | true ↦ λ e. (refl, gapless_split gap text)
      | false ↦ λ e. gapless_onto gap byte (slice_split gap text) e (gapless_split gap text)
    ] refl

uncut_kept : (gap : ℕ → Bool) (words : List (List ℕ)) → AreGapless gap words → AreUncut gap (filter (λ w. not (eqb (length w) 0)) words)
uncut_kept gap [] are = tt
uncut_kept gap (word ∷ words) are =
    elim (eqb (length word) 0) as (λ b. eqb (length word) 0 ≡ b → AreUncut gap (cond (not b) (word ∷ filter (λ w. not (eqb (length w) 0)) words) (filter (λ w. not (eqb (length w) 0)) words))) [
      | true ↦ λ e. uncut_kept gap words are.1
      | false ↦ λ e. ((e, are.0), uncut_kept gap words are.1)
    ] refl

pub are_uncut : (gap : ℕ → Bool) (text : List ℕ) → AreUncut gap (words_between gap text)
are_uncut gap text = uncut_kept gap (slice_split gap text) (gapless_split gap text)

pub uncut_filtered : (gap : ℕ → Bool) (test : List ℕ → Bool) (words : List (List ℕ)) → AreUncut gap words → AreUncut gap (filter test words)
uncut_filtered gap test [] are = tt
uncut_filtered gap test (word ∷ words) are =
    elim (test word) as (λ b. AreUncut gap (cond b (word ∷ filter test words) (filter test words))) [
      | true ↦ (are.0, uncut_filtered gap test words are.1)
      | false ↦ uncut_filtered gap test words are.1
    ]

-- ---- an order that was written reads back

module _ (gap : ℕ → Bool) (byte : ℕ) (is : gap byte ≡ true) where
  split_at_gap : (word rest : List ℕ) → list_any gap word ≡ false → slice_split gap (word ++ byte ∷ rest) ≡ word ∷ slice_split gap rest
  split_at_gap [] rest h = slice_split-cons_yes gap byte rest is
  split_at_gap (x ∷ xs) rest h =
      let parts = or_parts (gap x) (list_any gap xs) h in
      slice_split-cons_no gap x (xs ++ byte ∷ rest) parts.0 ∙ ap (λ (words : List (List ℕ)). onto_first x words) (split_at_gap xs rest parts.1)

  split_one : (word : List ℕ) → list_any gap word ≡ false → slice_split gap word ≡ word ∷ []
  split_one [] h = refl
  split_one (x ∷ xs) h =
      let parts = or_parts (gap x) (list_any gap xs) h in
      slice_split-cons_no gap x xs parts.0 ∙ ap (λ (words : List (List ℕ)). onto_first x words) (split_one xs parts.1)

  kept_word : (word : List ℕ) (words : List (List ℕ)) → eqb (length word) 0 ≡ false → filter (λ w. not (eqb (length w) 0)) (word ∷ words) ≡ word ∷ filter (λ w. not (eqb (length w) 0)) words
  kept_word word words h = ap (λ (b : Bool). cond (not b) (word ∷ filter (λ w. not (eqb (length w) 0)) words) (filter (λ w. not (eqb (length w) 0)) words)) h

  pub words-joined : (words : List (List ℕ)) → AreUncut gap words → words_between gap (joined byte words) ≡ words
  words-joined [] h = refl
  words-joined (word ∷ []) h = ap (λ (l : List (List ℕ)). filter (λ w. not (eqb (length w) 0)) l) (split_one word h.0.1) ∙ kept_word word [] h.0.0
  words-joined (word ∷ next ∷ words) h =
      ap (λ (l : List (List ℕ)). filter (λ w. not (eqb (length w) 0)) l) (split_at_gap word (joined byte (next ∷ words)) h.0.1)
      ∙ kept_word word (slice_split gap (joined byte (next ∷ words))) h.0.0
      ∙ ap (λ (l : List (List ℕ)). word ∷ l) (words-joined (next ∷ words) h.1)

  -- the words of an order that was put
  pub words-put : (vars : Variables) (name : List ℕ) (words : List (List ℕ)) → AreUncut gap words → words_between gap (unwrap_or (value (put vars name (joined byte words)) name) []) ≡ words
  words-put vars name words h = by_text (joined byte words) refl
    where
      by_text : (text : List ℕ) → joined byte words ≡ text → words_between gap (unwrap_or (value (put vars name text) name) []) ≡ words
      by_text [] e =
          ap (λ (o : Option (List ℕ)). words_between gap (unwrap_or o [])) (value-remove_same vars name)
          ∙ ap (words_between gap) (sym e) ∙ words-joined words h
      by_text (x ∷ xs) e =
          ap (λ (o : Option (List ℕ)). words_between gap (unwrap_or o [])) (value-insert_same vars name (x ∷ xs))
          ∙ ap (words_between gap) (sym e) ∙ words-joined words h

-- ---- names are words

no_gap : (p q : ℕ → Bool) (word : List ℕ) → list_all (λ byte. not (p byte || q byte)) word ≡ true → list_any p word ≡ false
no_gap p q [] h = refl
no_gap p q (byte ∷ word) h =
    let parts = and_parts (not (p byte || q byte)) (list_all (λ byte. not (p byte || q byte)) word) h in
    or_from (p byte) (list_any p word) (or_parts (p byte) (q byte) (not-true (p byte || q byte) parts.0)).0 (no_gap p q word parts.1)

pub word_uncut : (name : List ℕ) → is_word name ≡ true → IsUncut is_blank name
word_uncut name h =
    let parts = and_parts (not (eqb (length name) 0)) (list_all (λ byte. not (is_blank byte || is_comma byte)) name) h in
    (not-true (eqb (length name) 0) parts.0, no_gap is_blank is_comma name parts.1)

pub words_uncut : (names : List (List ℕ)) → list_all is_word names ≡ true → AreUncut is_blank names
words_uncut [] h = tt
words_uncut (name ∷ names) h =
    let parts = and_parts (is_word name) (list_all is_word names) h in
    (word_uncut name parts.0, words_uncut names parts.1)

-- ---- which words an order has

pub has-without_word : (words : List (List ℕ)) (other word : List ℕ) → other ≢ word → has_word words other ≡ true → has_word (without_word words word) other ≡ true
has-without_word [] other word ne h = h
has-without_word (w ∷ ws) other word ne h =
    elim (bytes_eq w word) as (λ b. bytes_eq w word ≡ b → has_word (cond (not b) (w ∷ without_word ws word) (without_word ws word)) other ≡ true) [
      | true ↦ λ e. ⊎_elim
          (λ same. absurd (ne (sym ((bytes_eq-Decides w other).0 same) ∙ (bytes_eq-Decides w word).0 e)))
          (λ later. has-without_word ws other word ne later)
          (or_cases (bytes_eq w other) (has_word ws other) h)
      | false ↦ λ e. ⊎_elim
          (λ same. or_left (bytes_eq w other) (has_word (without_word ws word) other) same)
          (λ later. or_right (bytes_eq w other) (has_word (without_word ws word) other) (has-without_word ws other word ne later))
          (or_cases (bytes_eq w other) (has_word ws other) h)
    ] refl

pub has-each_once : (words : List (List ℕ)) (word : List ℕ) → has_word words word ≡ true → has_word (each_once words) word ≡ true
has-each_once [] word h = h
has-each_once (w ∷ ws) word h =
    elim (bytes_eq w word) as (λ b. bytes_eq w word ≡ b → (b || has_word (without_word (each_once ws) w) word) ≡ true) [
      | true ↦ λ e. refl
      | false ↦ λ e.
          let later : has_word ws word ≡ true = ⊎_elim (λ same. absurd (true≢false (sym same ∙ e))) (λ l. l) (or_cases (bytes_eq w word) (has_word ws word) h) in
          has-without_word (each_once ws) word w (λ same. true≢false (sym ((bytes_eq-Decides w word).1 (sym same)) ∙ e)) (has-each_once ws word later)
    ] refl

pub has-others : (names words : List (List ℕ)) (other name : List ℕ) → other ≢ name → has_word words other ≡ true → has_word (name ∷ others names name words) other ≡ true
has-others names [] other name ne h = absurd (true≢false (sym h))
has-others names (w ∷ ws) other name ne h =
    or_right (bytes_eq name other) (has_word (without_word (each_once (w ∷ ws)) name) other) (has-without_word (each_once (w ∷ ws)) other name ne (has-each_once (w ∷ ws) other h))

pub has-append : (words : List (List ℕ)) (other name : List ℕ) → has_word words other ≡ true → has_word (words ++ name ∷ []) other ≡ true
has-append words other name h = list_any-append (λ w. bytes_eq w other) words (name ∷ []) ∙ or_left (has_word words other) (has_word (name ∷ []) other) h

pub uncut_append : (gap : ℕ → Bool) (words : List (List ℕ)) (name : List ℕ) → AreUncut gap words → IsUncut gap name → AreUncut gap (words ++ name ∷ [])
uncut_append gap [] name h is = (is, tt)
uncut_append gap (w ∷ ws) name h is = (h.0, uncut_append gap ws name h.1 is)

uncut_once : (gap : ℕ → Bool) (words : List (List ℕ)) → AreUncut gap words → AreUncut gap (each_once words)
uncut_once gap [] h = tt
uncut_once gap (w ∷ ws) h = (h.0, uncut_filtered gap (λ x. not (bytes_eq x w)) (each_once ws) (uncut_once gap ws h.1))

pub uncut_others : (gap : ℕ → Bool) (names words : List (List ℕ)) (name : List ℕ) → AreUncut gap names → AreUncut gap words → AreUncut gap (others names name words)
uncut_others gap names [] name are h = uncut_filtered gap (λ x. not (bytes_eq x name)) names are
uncut_others gap names (w ∷ ws) name are h = uncut_filtered gap (λ x. not (bytes_eq x name)) (each_once (w ∷ ws)) (uncut_once gap (w ∷ ws) h)
