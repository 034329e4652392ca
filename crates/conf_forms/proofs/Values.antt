-- What holds of the values of a file of which nothing is bad and nothing mandatory is missing.
use Rattle.std.proofs.Common.{◌≡◌, Bool, true, false, cond, not, ◌||◌, List, [], ◌∷◌, find, Option, Some, None, option_map, option_and_then, refl, sym, ◌∙◌, ap}
use Rattle.std.specs.Prelude.{is_none}
use Rattle.std.specs.Option.{option_map_or}
use Rattle.std.specs.Str.{bytes_eq}
use Rattle.std.proofs.lemmas.Bool.{true≢false}
use Rattle.std.proofs.lemmas.Slice.Eq.{bytes_eq-Decides}
use Rattle.keyfile.specs.Groups.{Text, Entry, Group, get_entry, get_in}
use Rattle.conf_forms.specs.Forms.{accepts}
use Rattle.conf_forms.specs.Lists.{first_of}
use Rattle.conf_forms.specs.Tables.{Table, form_of}
use Rattle.conf_forms.specs.Walks.{first_bad, first_in, is_bad_entry, is_misformed, key_if, missing_key}
use Rattle.conf_forms.specs.declared.form.Form.{Form}
use Rattle.conf_forms.proofs.FirstOf.{both_none}

found : {A B : Type 0} (f : A → Option B) (test : A → Bool) (xs : List A) (x : A) → first_of f xs ≡ None → find test xs ≡ Some x → (f x ≡ None) × (test x ≡ true)
found f test [] x none is = absurd (cc)
found {A = A} f test (y ∷ xs) x none is = go (test y) refl is (λ later. found f test xs x (both_none (f y) (first_of f xs) none).1 later)
  where
    go : (b : Bool) → test y ≡ b → cond b (Some y) (find test xs) ≡ Some x → (find test xs ≡ Some x → (f x ≡ None) × (test x ≡ true)) → (f x ≡ None) × (test x ≡ true)
    go true e is more = let same : y ≡ x = cc in (ap f (sym same) ∙ (both_none (f y) (first_of f xs) none).0, ap test (sym same) ∙ e)
    go false e is more = more is

some_of : {A B : Type 0} (f : A → B) (o : Option A) (y : B) → option_map f o ≡ Some y → (x : A) × (o ≡ Some x) × (f x ≡ y)
some_of f (Some x) y h = (x, refl, cc)
some_of f None y h = absurd (cc)

some_then : {A B : Type 0} (f : A → Option B) (o : Option A) (y : B) → option_and_then f o ≡ Some y → (x : A) × (o ≡ Some x) × (f x ≡ Some y)
some_then f (Some x) y h = (x, refl, h)
some_then f None y h = absurd (cc)

if_none : {A : Type 0} (b : Bool) (x : A) → cond b (Some x) None ≡ None → b ≡ false
if_none true x h = absurd (cc)
if_none false x h = refl

pub or_parts : (a b : Bool) → (a || b) ≡ false → (a ≡ false) × (b ≡ false)
or_parts true b h = absurd (true≢false h)
or_parts false b h = (refl, h)

not_false : (b : Bool) → not b ≡ false → b ≡ true
not_false true h = refl
not_false false h = absurd (true≢false h)

-- a value that is there is not bad, where none is
pub not_bad : (table : Table) (conflict : Text → Entry → Bool) (groups : List Group) → first_bad table conflict groups ≡ None
    → (group key value : Text) → get_in groups group key ≡ Some value → is_bad_entry table conflict group (key, value) ≡ false
not_bad table conflict groups none group key value is =
    let g = some_then (λ (g : Group). get_entry g.1 key) (find (λ (g : Group). bytes_eq group g.0) groups) value is in
    let e = some_of (λ (e : Entry). e.1) (find (λ (e : Entry). bytes_eq key e.0) g.0.1) value g.2 in
    let in_group = found (first_in (λ (name : Text). false) (is_bad_entry table conflict)) (λ (g : Group). bytes_eq group g.0) groups g.0 none g.1 in
    let in_entry = found (key_if (is_bad_entry table conflict) g.0.0) (λ (e : Entry). bytes_eq key e.0) g.0.1 e.0 in_group.0 e.1 in
    let fine : is_bad_entry table conflict g.0.0 e.0 ≡ false = if_none (is_bad_entry table conflict g.0.0 e.0) (g.0.0, e.0.0) in_entry.0 in
    (λ i. is_bad_entry table conflict ((bytes_eq-Decides group g.0.0).0 in_group.1 i) ((bytes_eq-Decides key e.0.0).0 in_entry.1 i, sym e.2 i)) ∙ fine

-- so it has its form
pub has_its_form : (table : Table) (conflict : Text → Entry → Bool) (groups : List Group) → first_bad table conflict groups ≡ None
    → (group key value : Text) → get_in groups group key ≡ Some value → (f : Form) → form_of table group key ≡ Some f → accepts f value ≡ true
has_its_form table conflict groups none group key value is f known =
    let fine = (or_parts (is_misformed table group (key, value)) _ (not_bad table conflict groups none group key value is)).0 in
    not_false (accepts f value) (sym (ap (λ (o : Option Form). option_map_or (λ f. not (accepts f value)) o false) known) ∙ fine)

-- and it conflicts with nothing
pub no_conflict : (table : Table) (conflict : Text → Entry → Bool) (groups : List Group) → first_bad table conflict groups ≡ None
    → (group key value : Text) → get_in groups group key ≡ Some value → conflict group (key, value) ≡ false
no_conflict table conflict groups none group key value is = (or_parts (is_misformed table group (key, value)) _ (not_bad table conflict groups none group key value is)).1

-- a key that is not missing has a value
pub present : (groups : List Group) (group key : Text) → missing_key groups (group, key) ≡ None → (value : Text) × (get_in groups group key ≡ Some value)
present groups group key none = go (get_in groups group key) refl none
  where
    go : (o : Option Text) → get_in groups group key ≡ o → cond {A = Option (Text × Text)} (is_none o) (Some (group, key)) None ≡ None → (value : Text) × (get_in groups group key ≡ Some value)
    go (Some v) e h = (v, e)
    go None e h = absurd (cc)
