-- Texts that are cut at two bytes, one after the other; words that are put together.
use Rattle.std.proofs.Common.{◌≡◌, ℕ, Bool, true, false, cond, not, ◌||◌, eqb, List, [], ◌∷◌, ◌++◌, length, refl, sym, ◌∙◌, ap}
use Rattle.std.specs.Prelude.{filter}
use Rattle.std.specs.List.{flat_map, join_by, onto_first, slice_split}
use Rattle.std.proofs.lemmas.List.{append-nil}
use Rattle.std.proofs.lemmas.List.Elements.{filter-append}
use Rattle.boot_state.specs.Orders.{joined, words_between}

-- a cut text has a first part
record Cut (parts : List (List ℕ)) : Type 0 where
  first : List ℕ
  rest : List (List ℕ)
  is : parts ≡ first ∷ rest

cut : (p : ℕ → Bool) (text : List ℕ) → Cut (slice_split p text)
cut p [] = record {
  first = [];
  rest = [];
  is = refl;
}
cut p (byte ∷ text) =
    let later = cut p text in
    elim (p byte) as (λ b. Cut (cond b ([] ∷ slice_split p text) (onto_first byte (slice_split p text)))) [
      | true ↦ record {
        first = [];
        rest = slice_split p text;
        is = refl;
      }
      | false ↦ record {
        first = byte ∷ later.first;
        rest = later.rest;
        is = ap (λ (parts : List (List ℕ)). onto_first byte parts) later.is;
      }
    ]

onto_front : (byte : ℕ) (parts more : List (List ℕ)) → Cut parts → onto_first byte parts ++ more ≡ onto_first byte (parts ++ more)
onto_front byte parts more c = ap (λ (ps : List (List ℕ)). onto_first byte ps ++ more) c.is ∙ ap (λ (ps : List (List ℕ)). onto_first byte (ps ++ more)) (sym c.is)

module _ (p q : ℕ → Bool) where
  -- a byte before the first part, that is no p
  onto_cut : (byte : ℕ) (parts : List (List ℕ)) → Cut parts → flat_map (slice_split q) (onto_first byte parts) ≡ cond (q byte) ([] ∷ flat_map (slice_split q) parts) (onto_first byte (flat_map (slice_split q) parts))
  onto_cut byte parts c =
      let more = flat_map (slice_split q) c.rest in
      let whole : flat_map (slice_split q) parts ≡ slice_split q c.first ++ more = ap (flat_map (slice_split q)) c.is in
      ap (λ (ps : List (List ℕ)). flat_map (slice_split q) (onto_first byte ps)) c.is
      ∙ (elim (q byte) as (λ b. cond b ([] ∷ slice_split q c.first) (onto_first byte (slice_split q c.first)) ++ more ≡ cond b ([] ∷ (slice_split q c.first ++ more)) (onto_first byte (slice_split q c.first ++ more))) [
        | true ↦ refl
        | false ↦ onto_front byte (slice_split q c.first) more (cut q c.first)
      ])
      ∙ ap (λ (ps : List (List ℕ)). cond (q byte) ([] ∷ ps) (onto_first byte ps)) (sym whole)

  pub split_twice : (text : List ℕ) → flat_map (slice_split q) (slice_split p text) ≡ slice_split (λ b. p b || q b) text
  split_twice [] = refl
  split_twice (byte ∷ text) =
      let later = split_twice text in
      elim (p byte) as (λ b. flat_map (slice_split q) (cond b ([] ∷ slice_split p text) (onto_first byte (slice_split p text))) ≡ cond (b || q byte) ([] ∷ slice_split (λ b. p b || q b) text) (onto_first byte (slice_split (λ b. p b || q b) text))) [
        | true ↦ ap (λ (ps : List (List ℕ)). [] ∷ ps) later
        | false ↦ onto_cut byte (slice_split p text) (cut p text) ∙ ap (λ (ps : List (List ℕ)). cond (q byte) ([] ∷ ps) (onto_first byte ps)) later
      ]

  words_flat : (parts : List (List ℕ)) → flat_map (words_between q) parts ≡ filter (λ w. not (eqb (length w) 0)) (flat_map (slice_split q) parts)
  words_flat [] = refl
  words_flat (part ∷ parts) =
      ap (λ (words : List (List ℕ)). words_between q part ++ words) (words_flat parts)
      ∙ sym (filter-append (λ (w : List ℕ). not (eqb (length w) 0)) (slice_split q part) (flat_map (slice_split q) parts))

  -- the words between such bytes are those between q's in the parts between p's
  pub words_twice : (text : List ℕ) → flat_map (words_between q) (slice_split p text) ≡ words_between (λ b. p b || q b) text
  words_twice text = words_flat (slice_split p text) ∙ ap (filter (λ (w : List ℕ). not (eqb (length w) 0))) (split_twice text)

-- words put together by std
pub join_by-joined : (gap : ℕ) (words : List (List ℕ)) → join_by (λ w. w) (gap ∷ []) words ≡ joined gap words
join_by-joined gap [] = refl
join_by-joined gap (word ∷ []) = append-nil word
join_by-joined gap (word ∷ next ∷ words) = ap (λ (text : List ℕ). word ++ (gap ∷ text)) (join_by-joined gap (next ∷ words))
