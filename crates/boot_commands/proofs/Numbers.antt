-- The first of what a map gives of a list and a test passes.
use Rattle.std.proofs.Common.{◌≡◌, ◌≤◌, ◌+◌, ℕ, zero, suc, Bool, true, false, cond, List, [], ◌∷◌, length, drop, add-one, Option, Some, None, sym, ◌∙◌, ap}
use Rattle.std.specs.Prelude.{filter, filter_map, slice_get}
use Rattle.std.specs.List.{cons_option}
use Rattle.std.proofs.lemmas.List.{drop_all}
use Rattle.std.proofs.lemmas.Option.{same_Some}

drop_at : (words : List (List ℕ)) (at : ℕ) (word : List ℕ) → slice_get words at ≡ Some word → drop at words ≡ word ∷ drop (suc at) words
drop_at [] at word h = absurd (cc)
drop_at (w ∷ ws) zero word h = ap (λ (x : List ℕ). x ∷ ws) (same_Some w word h)
drop_at (w ∷ ws) (suc at) word h = drop_at ws at word h

module _ (test : List ℕ → Bool) (given : List ℕ → Option (List ℕ)) (words : List (List ℕ)) where
  -- the first from a place on
  abbrev pub first_from : ℕ → Option (List ℕ)
  first_from at = slice_get (filter test (filter_map given (drop at words))) 0

  at_place : (at : ℕ) (word : List ℕ) → Some word ≡ slice_get words at → first_from at ≡ slice_get (filter test (cons_option (given word) (filter_map given (drop (at + 1) words)))) 0
  at_place at word h =
      ap (λ (ws : List (List ℕ)). slice_get (filter test (filter_map given ws)) 0) (drop_at words at word (sym h))
      ∙ ap (λ (n : ℕ). slice_get (filter test (cons_option (given word) (filter_map given (drop n words)))) 0) (sym (add-one at))

  pub found_here : (at : ℕ) (word x : List ℕ) → Some word ≡ slice_get words at → given word ≡ Some x → test x ≡ true → first_from at ≡ Some x
  found_here at word x h gives passes =
      at_place at word h
      ∙ ap (λ (o : Option (List ℕ)). slice_get (filter test (cons_option o (filter_map given (drop (at + 1) words)))) 0) gives
      ∙ ap (λ (b : Bool). slice_get (cond b (x ∷ filter test (filter_map given (drop (at + 1) words))) (filter test (filter_map given (drop (at + 1) words)))) 0) passes

  pub fails_here : (at : ℕ) (word x : List ℕ) → Some word ≡ slice_get words at → given word ≡ Some x → test x ≡ false → first_from at ≡ first_from (at + 1)
  fails_here at word x h gives fails =
      at_place at word h
      ∙ ap (λ (o : Option (List ℕ)). slice_get (filter test (cons_option o (filter_map given (drop (at + 1) words)))) 0) gives
      ∙ ap (λ (b : Bool). slice_get (cond b (x ∷ filter test (filter_map given (drop (at + 1) words))) (filter test (filter_map given (drop (at + 1) words)))) 0) fails

  pub none_here : (at : ℕ) (word : List ℕ) → Some word ≡ slice_get words at → given word ≡ None → first_from at ≡ first_from (at + 1)
  none_here at word h gives =
      at_place at word h ∙ ap (λ (o : Option (List ℕ)). slice_get (filter test (cons_option o (filter_map given (drop (at + 1) words)))) 0) gives

  pub none_left : (at : ℕ) → length words ≤ at → first_from at ≡ None
  none_left at past = ap (λ (ws : List (List ℕ)). slice_get (filter test (filter_map given ws)) 0) (drop_all at words past)
