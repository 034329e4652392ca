-- What stands in a list after a filter, a search or a map.
use Rattle.std.proofs.Common.{◌≡◌, ◌<◌, ◌+◌, ◌⊎◌, inl, inr, ⊎_elim, ℕ, zero, suc, Bool, true, false, cond, ◌&&◌, ◌||◌, List, [], ◌∷◌, ◌++◌, length, get_or, take, map, filter, Option, Some, None, option_map, slice_get, refl, sym, ◌∙◌, ap, subst, arith}
use Rattle.std.specs.Prelude.{Contains, find}
use Rattle.std.specs.List.{AllByRecursion, cons_option, filter_map, list_all, list_any, range_with_len}
use Rattle.std.proofs.lemmas.Bool.{and_parts, or_parts, true≢false}
use Rattle.std.proofs.lemmas.List.FromFn.{get_or-range_with_len, length-range_with_len}
use Rattle.std.proofs.lemmas.List.{take_more}
use Rattle.std.proofs.lemmas.Option.{get_or_from_slice_get, none-some, slice_get_within}

-- ---- one item and more

none_in : {A : Type 0} (y : A) → Contains [] y → ⊥
none_in y h = let less = h.1 in omega (arith, less)

pub first_in : {A : Type 0} (x : A) (xs : List A) → Contains (x ∷ xs) x
first_in x xs = (0, omega arith, refl)

pub later_in : {A : Type 0} (x y : A) (xs : List A) → Contains xs y → Contains (x ∷ xs) y
later_in x y xs h = let less = h.1 in (suc h.0, omega (arith, less), h.2)

pub in_cases : {A : Type 0} (x y : A) (xs : List A) → Contains (x ∷ xs) y → (x ≡ y) ⊎ Contains xs y
in_cases x y xs h = go h.0 h.1 h.2
  where
    go : (k : ℕ) → k < length (x ∷ xs) → get_or (x ∷ xs) k y ≡ y → (x ≡ y) ⊎ Contains xs y
    go zero less is = inl is
    go (suc k) less is = inr (k, omega (arith, less), is)

-- the only item
pub only_in : {A : Type 0} (x y : A) → Contains (x ∷ []) y → y ≡ x
only_in x y h = ⊎_elim (λ same. sym same) (λ more. absurd (none_in y more)) (in_cases x y [] h)

-- ---- a filter

pub in_filter : {A : Type 0} (p : A → Bool) (xs : List A) (y : A) → Contains xs y → p y ≡ true → Contains (filter p xs) y
in_filter p [] y h passes = absurd (none_in y h)
in_filter p (x ∷ xs) y h passes = go (p x) refl (in_cases x y xs h) (λ more. in_filter p xs y more passes)
  where
    go : (b : Bool) → p x ≡ b → (x ≡ y) ⊎ Contains xs y → (Contains xs y → Contains (filter p xs) y) → Contains (cond b (x ∷ filter p xs) (filter p xs)) y
    go true e (inl same) rest = subst (Contains (x ∷ filter p xs)) same (first_in x (filter p xs))
    go true e (inr more) rest = later_in x y (filter p xs) (rest more)
    go false e (inl same) rest = absurd (true≢false (sym passes ∙ ap p (sym same) ∙ e))
    go false e (inr more) rest = rest more

pub of_filter : {A : Type 0} (p : A → Bool) (xs : List A) (y : A) → Contains (filter p xs) y → Contains xs y × (p y ≡ true)
of_filter p [] y h = absurd (none_in y h)
of_filter p (x ∷ xs) y h = go (p x) refl h (λ more. of_filter p xs y more)
  where
    go : (b : Bool) → p x ≡ b → Contains (cond b (x ∷ filter p xs) (filter p xs)) y → (Contains (filter p xs) y → Contains xs y × (p y ≡ true)) → Contains (x ∷ xs) y × (p y ≡ true)
    go true e h rest =
        ⊎_elim (λ same. (subst (Contains (x ∷ xs)) same (first_in x xs), ap p (sym same) ∙ e)) (λ more. (later_in x y xs (rest more).0, (rest more).1))
        (in_cases x y (filter p xs) h)
    go false e h rest = (later_in x y xs (rest h).0, (rest h).1)

-- ---- a search

pub of_find : {A : Type 0} (p : A → Bool) (xs : List A) (y : A) → find p xs ≡ Some y → p y ≡ true
of_find p [] y h = absurd (cc)
of_find p (x ∷ xs) y h = go (p x) refl h (λ more. of_find p xs y more)
  where
    go : (b : Bool) → p x ≡ b → cond b (Some x) (find p xs) ≡ Some y → (find p xs ≡ Some y → p y ≡ true) → p y ≡ true
    go true e h rest = let same : x ≡ y = cc in ap p (sym same) ∙ e
    go false e h rest = rest h

-- where one passes, one is found
pub finds : {A : Type 0} (p : A → Bool) (xs : List A) (y : A) → Contains xs y → p y ≡ true → (x : A) × (find p xs ≡ Some x)
finds p [] y h passes = absurd (none_in y h)
finds {A} p (x ∷ xs) y h passes = go (p x) refl (in_cases x y xs h) (λ more. finds p xs y more passes)
  where
    go : (b : Bool) → p x ≡ b → (x ≡ y) ⊎ Contains xs y → (Contains xs y → (z : A) × (find p xs ≡ Some z)) → (z : A) × (cond b (Some x) (find p xs) ≡ Some z)
    go true e either rest = (x, refl)
    go false e (inl same) rest = absurd (true≢false (sym passes ∙ ap p (sym same) ∙ e))
    go false e (inr more) rest = rest more

-- ---- a map

pub in_map : {A B : Type 0} (f : A → B) (xs : List A) (y : A) → Contains xs y → Contains (map f xs) (f y)
in_map f [] y h = absurd (none_in y h)
in_map f (x ∷ xs) y h = go (in_cases x y xs h) (λ more. in_map f xs y more)
  where
    go : (x ≡ y) ⊎ Contains xs y → (Contains xs y → Contains (map f xs) (f y)) → Contains (f x ∷ map f xs) (f y)
    go (inl same) rest = subst (λ z. Contains (f x ∷ map f xs) (f z)) same (first_in (f x) (map f xs))
    go (inr more) rest = later_in (f x) (f y) (map f xs) (rest more)

pub in_filter_map : {A B : Type 0} (f : A → Option B) (xs : List A) (y : A) (z : B) → Contains xs y → f y ≡ Some z → Contains (filter_map f xs) z
in_filter_map f [] y z h is = absurd (none_in y h)
in_filter_map {A} {B} f (x ∷ xs) y z h is = go (f x) refl (in_cases x y xs h) (λ more. in_filter_map f xs y z more is)
  where
    go : (o : Option B) → f x ≡ o → (x ≡ y) ⊎ Contains xs y → (Contains xs y → Contains (filter_map f xs) z) → Contains (cons_option o (filter_map f xs)) z
    go (Some w) e (inl same) rest =
        let through : Some w ≡ Some z = sym e ∙ ap f same ∙ is in
        let alike : w ≡ z = cc in
        subst (λ v. Contains (v ∷ filter_map f xs) z) (sym alike) (first_in z (filter_map f xs))
    go (Some w) e (inr more) rest = later_in w z (filter_map f xs) (rest more)
    go None e (inl same) rest = absurd (none-some z (sym e ∙ ap f same ∙ is))
    go None e (inr more) rest = rest more

pub of_filter_map : {A B : Type 0} (f : A → Option B) (xs : List A) (z : B) → Contains (filter_map f xs) z → (y : A) × Contains xs y × (f y ≡ Some z)
of_filter_map f [] z h = absurd (none_in z h)
of_filter_map {A} {B} f (x ∷ xs) z h = go (f x) refl h (λ more. of_filter_map f xs z more)
  where
    go : (o : Option B) → f x ≡ o → Contains (cons_option o (filter_map f xs)) z → (Contains (filter_map f xs) z → (y : A) × Contains xs y × (f y ≡ Some z)) → (y : A) × Contains (x ∷ xs) y × (f y ≡ Some z)
    go None e h rest = let r = rest h in (r.0, later_in x r.0 xs r.1, r.2)
    go (Some w) e h rest =
        ⊎_elim (λ same. (x, first_in x xs, e ∙ ap (λ v. Some v) same)) (λ more. let r = rest more in (r.0, later_in x r.0 xs r.1, r.2))
        (in_cases w z (filter_map f xs) h)

-- ---- tests of all items

pub each_passes : {A : Type 0} (p : A → Bool) (xs : List A) (y : A) → list_all p xs ≡ true → Contains xs y → p y ≡ true
each_passes p [] y all h = absurd (none_in y h)
each_passes p (x ∷ xs) y all h =
    let both = and_parts (p x) (list_all p xs) all in
    ⊎_elim (λ same. ap p (sym same) ∙ both.0) (λ more. each_passes p xs y both.1 more) (in_cases x y xs h)

pub all_pass : {A : Type 0} (p : A → Bool) (xs : List A) → ((y : A) → Contains xs y → p y ≡ true) → list_all p xs ≡ true
all_pass p [] each = refl
all_pass p (x ∷ xs) each = λ i. each x (first_in x xs) i && all_pass p xs (λ y h. each y (later_in x y xs h)) i

pub none_passes : {A : Type 0} (p : A → Bool) (xs : List A) (y : A) → list_any p xs ≡ false → Contains xs y → p y ≡ false
none_passes p [] y none h = absurd (none_in y h)
none_passes p (x ∷ xs) y none h =
    let both = or_parts (p x) (list_any p xs) none in
    ⊎_elim (λ same. ap p (sym same) ∙ both.0) (λ more. none_passes p xs y both.1 more) (in_cases x y xs h)

pub one_passes : {A : Type 0} (p : A → Bool) (xs : List A) (y : A) → Contains xs y → p y ≡ true → list_any p xs ≡ true
one_passes p xs y h passes = go (list_any p xs) refl
  where
    go : (b : Bool) → list_any p xs ≡ b → list_any p xs ≡ true
    go true e = e
    go false e = absurd (true≢false (sym passes ∙ none_passes p xs y e h))

pub passing : {A : Type 0} (p : A → Bool) (xs : List A) → list_any p xs ≡ true → (y : A) × Contains xs y × (p y ≡ true)
passing p [] h = absurd (true≢false (sym h))
passing {A} p (x ∷ xs) h = go (p x) refl h (λ more. passing p xs more)
  where
    go : (b : Bool) → p x ≡ b → (b || list_any p xs) ≡ true → (list_any p xs ≡ true → (y : A) × Contains xs y × (p y ≡ true)) → (y : A) × Contains (x ∷ xs) y × (p y ≡ true)
    go true e h rest = (x, first_in x xs, e)
    go false e h rest = let r = rest h in (r.0, later_in x r.0 xs r.1, r.2)

pub by_each : {A : Type 0} (P : A → Type 0) (xs : List A) → ((y : A) → Contains xs y → P y) → AllByRecursion P xs
by_each P [] each = tt
by_each P (x ∷ xs) each = (each x (first_in x xs), by_each P xs (λ y h. each y (later_in x y xs h)))

-- ---- the item at a place

pub item_in : {A : Type 0} (xs : List A) (at : ℕ) (x : A) → slice_get xs at ≡ Some x → Contains xs x
item_in xs at x h = (at, slice_get_within xs at x h, get_or_from_slice_get xs at x x h)

pub take_get : {A : Type 0} (xs : List A) (at : ℕ) (x : A) → slice_get xs at ≡ Some x → take (at + 1) xs ≡ take at xs ++ x ∷ []
take_get xs at x h = take_more xs at x (slice_get_within xs at x h) ∙ ap (λ y. take at xs ++ y ∷ []) (get_or_from_slice_get xs at x x h)

-- where a part of it is known, it is there
pub item_at : {A B : Type 0} (f : A → B) (o : Option A) (y : B) → option_map f o ≡ Some y → (x : A) × (o ≡ Some x) × (f x ≡ y)
item_at f (Some x) y h = (x, refl, cc)
item_at f None y h = absurd (cc)

-- ---- the places of a list

pub in_range : (n at : ℕ) → at < n → Contains (range_with_len 0 n) at
in_range n at within =
    let long = length-range_with_len 0 n in
    let is = get_or-range_with_len 0 n at at within in
    (at, omega (arith, within, long), omega (arith, is))

pub of_range : (n at : ℕ) → Contains (range_with_len 0 n) at → at < n
of_range n at h =
    let less = h.1 in
    let long = length-range_with_len 0 n in
    let within : h.0 < n = omega (arith, less, long) in
    let is = get_or-range_with_len 0 n h.0 at within in
    let same = h.2 in
    omega (arith, within, is, same)
