-- Texts each once, and tables over them.
use Rattle.std.proofs.Common.{◌≡◌, ◌∙◌, ◌+◌, ap, sym, refl, ℕ, suc, Bool, true, false, not, ◌||◌, cond, List, [], ◌∷◌, ◌++◌, map, filter, if◌then◌else◌, arith}
use Rattle.std.proofs.lemmas.Bool.{false≢true}
use Rattle.std.proofs.lemmas.List.{append-nil}
use Rattle.std.proofs.lemmas.List.Elements.{filter-append}
use Rattle.std.proofs.lemmas.Slice.Eq.{bytes_eq-Decides}
use Rattle.std.specs.List.{list_any, position_or_len}
use Rattle.std.specs.Str.{bytes_eq}
use Rattle.keyfile.proofs.Bools.{and_true, both, not_true}
use Rattle.keyfile.specs.Groups.{Text, Entry, Group, all_distinct, has_group, group_place, put_at, put_entry}
use Rattle.keyfile.specs.Reading.{distinct}

pub same_text : (x y : Text) → bytes_eq x y ≡ true → x ≡ y
same_text x y h = (bytes_eq-Decides x y).0 h

pub equal_text : (x y : Text) → x ≡ y → bytes_eq x y ≡ true
equal_text x y h = (bytes_eq-Decides x y).1 h

pub bytes_eq-swap : (x y : Text) → bytes_eq x y ≡ bytes_eq y x
bytes_eq-swap x y = go (bytes_eq x y) refl (bytes_eq y x) refl
  where
    go : (a : Bool) → bytes_eq x y ≡ a → (b : Bool) → bytes_eq y x ≡ b → a ≡ b
    go true h true k = refl
    go false h false k = refl
    go true h false k = sym (sym k ∙ equal_text y x (sym (same_text x y h)))
    go false h true k = sym h ∙ equal_text x y (sym (same_text y x k))

-- a text is one of these
abbrev pub is_in : List Text → Text → Bool
is_in xs x = list_any (bytes_eq x) xs

-- and not one of those that another was taken out of
is_in-filter : (xs : List Text) (x y : Text) → bytes_eq x y ≡ false → is_in (filter (λ z. not (bytes_eq y z)) xs) x ≡ is_in xs x
is_in-filter [] x y apart = refl
is_in-filter (z ∷ more) x y apart = go (is_in-filter more x y apart) (bytes_eq y z) refl
  where
    go : is_in (filter (λ w. not (bytes_eq y w)) more) x ≡ is_in more x → (b : Bool) → bytes_eq y z ≡ b → is_in (cond (not b) (z ∷ filter (λ w. not (bytes_eq y w)) more) (filter (λ w. not (bytes_eq y w)) more)) x ≡ (bytes_eq x z || is_in more x)
    go deep false h = ap (λ (t : Bool). bytes_eq x z || t) deep
    go deep true h = deep ∙ ap (λ (t : Bool). t || is_in more x) (sym (ap (bytes_eq x) (sym (same_text y z h)) ∙ apart))

-- the distinct texts are the same texts
pub is_in-distinct : (xs : List Text) (x : Text) → is_in (distinct xs) x ≡ is_in xs x
is_in-distinct [] x = refl
is_in-distinct (y ∷ more) x = go (is_in-distinct more x) (bytes_eq x y) refl
  where
    go : is_in (distinct more) x ≡ is_in more x → (b : Bool) → bytes_eq x y ≡ b → (b || is_in (filter (λ z. not (bytes_eq y z)) (distinct more)) x) ≡ (b || is_in more x)
    go deep true h = refl
    go deep false h = is_in-filter (distinct more) x y h ∙ deep

-- what is not in a list is not in a part of it
filter-absent : (xs : List Text) (x y : Text) → is_in xs x ≡ false → is_in (filter (λ z. not (bytes_eq y z)) xs) x ≡ false
filter-absent [] x y none = refl
filter-absent (z ∷ more) x y none = go (λ h. filter-absent more x y h) (bytes_eq x z) refl (bytes_eq y z) none
  where
    go : (is_in more x ≡ false → is_in (filter (λ w. not (bytes_eq y w)) more) x ≡ false) → (a : Bool) → bytes_eq x z ≡ a → (b : Bool) → (a || is_in more x) ≡ false → is_in (cond (not b) (z ∷ filter (λ w. not (bytes_eq y w)) more) (filter (λ w. not (bytes_eq y w)) more)) x ≡ false
    go deep true e b h = absurd (false≢true (sym h))
    go deep false e true h = deep h
    go deep false e false h = ap (λ (t : Bool). t || is_in (filter (λ w. not (bytes_eq y w)) more) x) e ∙ deep h

filter-distinct : (xs : List Text) (y : Text) → all_distinct xs ≡ true → all_distinct (filter (λ z. not (bytes_eq y z)) xs) ≡ true
filter-distinct [] y h = refl
filter-distinct (z ∷ more) y h = go (filter-distinct more y (both _ _ h).1) (bytes_eq y z)
  where
    absent : is_in more z ≡ false
    absent = not_true _ (both _ _ h).0

    go : all_distinct (filter (λ w. not (bytes_eq y w)) more) ≡ true → (b : Bool) → all_distinct (cond (not b) (z ∷ filter (λ w. not (bytes_eq y w)) more) (filter (λ w. not (bytes_eq y w)) more)) ≡ true
    go deep true = deep
    go deep false = and_true _ _ (ap not (filter-absent more z y absent)) deep

-- what was taken out is gone
filter-gone : (xs : List Text) (y : Text) → is_in (filter (λ z. not (bytes_eq y z)) xs) y ≡ false
filter-gone [] y = refl
filter-gone (z ∷ more) y = go (filter-gone more y) (bytes_eq y z) refl
  where
    go : is_in (filter (λ w. not (bytes_eq y w)) more) y ≡ false → (b : Bool) → bytes_eq y z ≡ b → is_in (cond (not b) (z ∷ filter (λ w. not (bytes_eq y w)) more) (filter (λ w. not (bytes_eq y w)) more)) y ≡ false
    go deep true h = deep
    go deep false h = ap (λ (t : Bool). t || is_in (filter (λ w. not (bytes_eq y w)) more) y) h ∙ deep

-- the distinct texts differ
pub distinct-distinct : (xs : List Text) → all_distinct (distinct xs) ≡ true
distinct-distinct [] = refl
distinct-distinct (y ∷ more) = and_true _ _ (ap not (filter-gone (distinct more) y)) (filter-distinct (distinct more) y (distinct-distinct more))

-- one more text goes last, where it is new
pub distinct-more : (xs : List Text) (x : Text) → distinct (xs ++ x ∷ []) ≡ (if is_in xs x then distinct xs else distinct xs ++ x ∷ [])
distinct-more [] x = refl
distinct-more (y ∷ more) x = go (distinct-more more x) (bytes_eq x y) refl (is_in more x) refl
  where
    others : List Text → List Text
    others = filter (λ z. not (bytes_eq y z))

    last : (b : Bool) → bytes_eq y x ≡ b → others (distinct more ++ x ∷ []) ≡ others (distinct more) ++ cond (not b) (x ∷ []) []
    last b h = filter-append (λ z. not (bytes_eq y z)) (distinct more) (x ∷ []) ∙ ap (λ (t : Bool). others (distinct more) ++ cond (not t) (x ∷ []) []) h

    go : distinct (more ++ x ∷ []) ≡ (if is_in more x then distinct more else distinct more ++ x ∷ []) → (a : Bool) → bytes_eq x y ≡ a → (b : Bool) → is_in more x ≡ b
        → y ∷ others (distinct (more ++ x ∷ [])) ≡ (if a || b then y ∷ others (distinct more) else y ∷ (others (distinct more) ++ x ∷ []))
    go deep true e true f = ap (λ (t : List Text). y ∷ others t) (deep ∙ ap (λ (t : Bool). if t then distinct more else distinct more ++ x ∷ []) f)
    go deep true e false f =
        ap (λ (t : List Text). y ∷ others t) (deep ∙ ap (λ (t : Bool). if t then distinct more else distinct more ++ x ∷ []) f)
        ∙ ap (λ (t : List Text). y ∷ t) (last true (bytes_eq-swap y x ∙ e) ∙ append-nil (others (distinct more)))
    go deep false e true f = ap (λ (t : List Text). y ∷ others t) (deep ∙ ap (λ (t : Bool). if t then distinct more else distinct more ++ x ∷ []) f)
    go deep false e false f =
        ap (λ (t : List Text). y ∷ others t) (deep ∙ ap (λ (t : Bool). if t then distinct more else distinct more ++ x ∷ []) f)
        ∙ ap (λ (t : List Text). y ∷ t) (last false (bytes_eq-swap y x ∙ e))

-- the place of a text stays when it comes once more
position-push : (xs : List Text) (x : Text) → position_or_len (bytes_eq x) (xs ++ x ∷ []) ≡ position_or_len (bytes_eq x) xs
position-push [] x = ap (λ (t : Bool). cond (not t) (1 + 0) 0) (equal_text x x refl)
position-push (y ∷ more) x = ap (λ (n : ℕ). cond (not (bytes_eq x y)) (1 + n) 0) (position-push more x)

pub position-distinct : (xs : List Text) (x : Text) → position_or_len (bytes_eq x) (distinct (xs ++ x ∷ [])) ≡ position_or_len (bytes_eq x) (distinct xs)
position-distinct xs x = ap (position_or_len (bytes_eq x)) (distinct-more xs x) ∙ go (is_in xs x)
  where
    go : (b : Bool) → position_or_len (bytes_eq x) (if b then distinct xs else distinct xs ++ x ∷ []) ≡ position_or_len (bytes_eq x) (distinct xs)
    go true = refl
    go false = position-push (distinct xs) x

-- ---- tables

-- each text with what a function gives for it
abbrev pub table : {X : Type 0} → (Text → X) → List Text → List (Text × X)
table f xs = map (λ x. (x, f x)) xs

-- where the functions agree, the tables do
pub table-same : {X : Type 0} (f g : Text → X) (xs : List Text) (k : Text) → is_in xs k ≡ false → ((x : Text) → bytes_eq k x ≡ false → g x ≡ f x) → table g xs ≡ table f xs
table-same f g [] k none others = refl
table-same {X} f g (x ∷ more) k none others = go (λ h. table-same f g more k h others) (bytes_eq k x) refl none
  where
    go : (is_in more k ≡ false → table g more ≡ table f more) → (b : Bool) → bytes_eq k x ≡ b → (b || is_in more k) ≡ false → (x, g x) ∷ table g more ≡ (x, f x) ∷ table f more
    go deep true e h = absurd (false≢true (sym h))
    go deep false e h = ap (λ (y : X). (x, y) ∷ table g more) (others x e) ∙ ap (λ (t : List (Text × X)). (x, f x) ∷ t) (deep h)

pub table-all : {X : Type 0} (f g : Text → X) (xs : List Text) → ((x : Text) → g x ≡ f x) → table g xs ≡ table f xs
table-all f g [] each = refl
table-all {X} f g (x ∷ more) each = ap (λ (y : X). (x, y) ∷ table g more) (each x) ∙ ap (λ (t : List (Text × X)). (x, f x) ∷ t) (table-all f g more each)

-- a key that is in the table takes the value
pub put_entry-table : (f g : Text → Text) (xs : List Text) (k v : Text) → all_distinct xs ≡ true → is_in xs k ≡ true → ((x : Text) → bytes_eq k x ≡ true → g x ≡ v) → ((x : Text) → bytes_eq k x ≡ false → g x ≡ f x) → put_entry (table f xs) k v ≡ table g xs
put_entry-table f g [] k v once there here others = absurd (false≢true there)
put_entry-table f g (x ∷ more) k v once there here others = go (λ h. put_entry-table f g more k v (both _ _ once).1 h here others) (bytes_eq k x) refl there
  where
    go : (is_in more k ≡ true → put_entry (table f more) k v ≡ table g more) → (b : Bool) → bytes_eq k x ≡ b → (b || is_in more k) ≡ true → (if b then (x, v) ∷ table f more else (x, f x) ∷ put_entry (table f more) k v) ≡ (x, g x) ∷ table g more
    go deep true e h =
        let none : is_in more k ≡ false = ap (is_in more) (same_text k x e) ∙ not_true _ (both _ _ once).0 in
        ap (λ (y : Text). (x, y) ∷ table f more) (sym (here x e)) ∙ ap (λ (t : List Entry). (x, g x) ∷ t) (sym (table-same f g more k none others))
    go deep false e h = ap (λ (y : Text). (x, y) ∷ put_entry (table f more) k v) (sym (others x e)) ∙ ap (λ (t : List Entry). (x, g x) ∷ t) (deep h)

-- and a new one goes last
pub put_entry-new : (f : Text → Text) (xs : List Text) (k v : Text) → is_in xs k ≡ false → put_entry (table f xs) k v ≡ table f xs ++ (k, v) ∷ []
put_entry-new f [] k v none = refl
put_entry-new f (x ∷ more) k v none = go (λ h. put_entry-new f more k v h) (bytes_eq k x) none
  where
    go : (is_in more k ≡ false → put_entry (table f more) k v ≡ table f more ++ (k, v) ∷ []) → (b : Bool) → (b || is_in more k) ≡ false → (if b then (x, v) ∷ table f more else (x, f x) ∷ put_entry (table f more) k v) ≡ (x, f x) ∷ (table f more ++ (k, v) ∷ [])
    go deep true h = absurd (false≢true (sym h))
    go deep false h = ap (λ (t : List Entry). (x, f x) ∷ t) (deep h)

-- a group at its place takes an entry
pub put_at-table : (f g : Text → List Entry) (xs : List Text) (n k v : Text) → all_distinct xs ≡ true → is_in xs n ≡ true → ((x : Text) → bytes_eq n x ≡ true → g x ≡ put_entry (f x) k v) → ((x : Text) → bytes_eq n x ≡ false → g x ≡ f x)
    → put_at (table f xs) (position_or_len (bytes_eq n) xs) k v ≡ table g xs
put_at-table f g [] n k v once there here others = absurd (false≢true there)
put_at-table f g (x ∷ more) n k v once there here others = go (λ h. put_at-table f g more n k v (both _ _ once).1 h here others) (bytes_eq n x) refl there
  where
    go : (is_in more n ≡ true → put_at (table f more) (position_or_len (bytes_eq n) more) k v ≡ table g more) → (b : Bool) → bytes_eq n x ≡ b → (b || is_in more n) ≡ true
        → put_at ((x, f x) ∷ table f more) (cond (not b) (1 + position_or_len (bytes_eq n) more) 0) k v ≡ (x, g x) ∷ table g more
    go deep true e h =
        let none : is_in more n ≡ false = ap (is_in more) (same_text n x e) ∙ not_true _ (both _ _ once).0 in
        ap (λ (y : List Entry). (x, y) ∷ table f more) (sym (here x e)) ∙ ap (λ (t : List Group). (x, g x) ∷ t) (sym (table-same f g more n none others))
    go deep false e h =
        let next : 1 + position_or_len (bytes_eq n) more ≡ suc (position_or_len (bytes_eq n) more) = omega arith in
        ap (λ (i : ℕ). put_at ((x, f x) ∷ table f more) i k v) next
        ∙ (ap (λ (y : List Entry). (x, y) ∷ put_at (table f more) (position_or_len (bytes_eq n) more) k v) (sym (others x e)) ∙ ap (λ (t : List Group). (x, g x) ∷ t) (deep h))

-- the names of a table
pub has_group-table : (f : Text → List Entry) (xs : List Text) (n : Text) → has_group (table f xs) n ≡ is_in xs n
has_group-table f [] n = refl
has_group-table f (x ∷ more) n = ap (λ (t : Bool). bytes_eq n x || t) (has_group-table f more n)

pub group_place-table : (f : Text → List Entry) (xs : List Text) (n : Text) → group_place (table f xs) n ≡ position_or_len (bytes_eq n) xs
group_place-table f [] n = refl
group_place-table f (x ∷ more) n = ap (λ (i : ℕ). cond (not (bytes_eq n x)) (1 + i) 0) (group_place-table f more n)
