-- The front of what a reader gives, read with one byte more than is kept.
use Rattle.std.proofs.Common.{◌≡◌, ◌≤◌, ◌<◌, ◌+◌, ℕ, zero, suc, min, Bool, true, false, List, [], ◌∷◌, ◌++◌, length, take, Option, None, Some, refl, sym, ◌∙◌, ap, subst, arith}
use Rattle.std.specs.Prelude.{option_map, IfSome, nat_lt, ◌||◌}
use Rattle.std.proofs.lemmas.Bool.{ltb-true, lt-ltb, le-ltb, ltb_from_iff}
use Rattle.std.proofs.lemmas.List.{length-take, length-append, take-take, take_all, take-append-le}
use Rattle.machine.specs.declared.world.Ended.{Ended}
use Rattle.machine.specs.declared.world.Exit.{Exit}
use Rattle.machine.specs.Calls.{IsKept, is_cut, kept_output}
use Rattle.machine_linux.specs.Fronts.{IsFront}

take_front : (n m : ℕ) (start xs : List ℕ) → n ≤ m → take n (start ++ take m xs) ≡ take n (start ++ xs)
take_front n m [] xs le = take-take n m xs le
take_front zero m (s ∷ start) xs le = refl
take_front (suc n) m (s ∷ start) xs le = ap (λ (l : List ℕ). s ∷ l) (take_front n m start xs (omega arith))

front_in : (n limit : ℕ) (seen : Option (List ℕ)) (start got kept : List ℕ) → n < limit → IfSome (option_map (take limit) seen) (λ xs. got ≡ start ++ xs) → kept ≡ take n got → IfSome seen (λ xs. kept ≡ take n (start ++ xs))
front_in n limit None start got kept lt all is = record {}
front_in n limit (Some xs) start got kept lt all is = is ∙ ap (λ (l : List ℕ). take n l) all ∙ take_front n limit start xs (omega arith)

pub front_of : (n limit : ℕ) (known seen : Option (List ℕ)) (start got kept : List ℕ) → n < limit → seen ≡ known → IfSome (option_map (take limit) seen) (λ xs. got ≡ start ++ xs) → kept ≡ take n got → IfSome known (λ xs. kept ≡ take n (start ++ xs))
front_of n limit known seen start got kept lt same all is = subst (λ (o : Option (List ℕ)). IfSome o (λ xs. kept ≡ take n (start ++ xs))) same (front_in n limit seen start got kept lt all is)

cut_in : (n limit : ℕ) (seen : Option (List ℕ)) (start got : List ℕ) → n < limit → IfSome (option_map (take limit) seen) (λ xs. got ≡ start ++ xs) → IfSome seen (λ xs. nat_lt n (length got) ≡ nat_lt n (length (start ++ xs)))
cut_in n limit None start got lt all = record {}
cut_in n limit (Some xs) start got lt all =
    let l : length got ≡ length start + min limit (length xs) = ap (λ (l : List ℕ). length l) all ∙ length-append start (take limit xs) ∙ ap (λ k. length start + k) (length-take limit xs) in
    let r : length (start ++ xs) ≡ length start + length xs = length-append start xs in
    ltb_from_iff ((λ h. let m : n < length got = ltb-true n (length got) h in omega arith), (λ h. let m : n < length got = omega arith in lt-ltb n (length got) m))

pub cut_of : (n limit : ℕ) (known seen : Option (List ℕ)) (start got : List ℕ) → n < limit → seen ≡ known → IfSome (option_map (take limit) seen) (λ xs. got ≡ start ++ xs) → IfSome known (λ xs. nat_lt n (length got) ≡ nat_lt n (length (start ++ xs)))
cut_of n limit known seen start got lt same all = subst (λ (o : Option (List ℕ)). IfSome o (λ xs. nat_lt n (length got) ≡ nat_lt n (length (start ++ xs)))) same (cut_in n limit seen start got lt all)

-- a stream with this front: it had one byte more where there was more
abbrev stream_of : List ℕ → Bool → List ℕ
stream_of bytes true = bytes ++ 0 ∷ []
stream_of bytes false = bytes

front_of_stream : (bytes : List ℕ) (cut : Bool) → IsFront bytes cut → bytes ≡ take kept_output (stream_of bytes cut)
front_of_stream bytes true is =
    sym (take-append-le kept_output bytes (0 ∷ []) (omega (arith, is.full refl)) ∙ take_all kept_output bytes is.short)
front_of_stream bytes false is = sym (take_all kept_output bytes is.short)

cut_of_stream : (bytes : List ℕ) (cut : Bool) → IsFront bytes cut → cut ≡ is_cut (stream_of bytes cut)
cut_of_stream bytes true is =
    sym (lt-ltb kept_output (length (bytes ++ 0 ∷ [])) (omega (arith, length-append bytes (0 ∷ []), is.full refl)))
cut_of_stream bytes false is = sym (le-ltb kept_output (length bytes) is.short)

pub kept_of : (ended : Ended) (out err : List ℕ) (out_cut err_cut cut : Bool) → IsFront out out_cut → IsFront err err_cut → cut ≡ (out_cut || err_cut) → IsKept (record { ended = ended; out = out; err = err; cut = cut })
kept_of ended out err out_cut err_cut cut out_is err_is cut_is = record {
  out = stream_of out out_cut;
  err = stream_of err err_cut;
  fronts = record {
    out_kept = front_of_stream out out_cut out_is;
    err_kept = front_of_stream err err_cut err_is;
    cut_is = cut_is ∙ ap (λ b. b || err_cut) (cut_of_stream out out_cut out_is) ∙ ap (λ b. is_cut (stream_of out out_cut) || b) (cut_of_stream err err_cut err_is);
  };
}
