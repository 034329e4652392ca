-- What holds of a manifest that is not refused.
use Rattle.std.proofs.Common.{◌≡◌, ◌<◌, ℕ, zero, suc, arith, Bool, true, false, cond, eqb, not, ◌&&◌, ◌||◌, List, [], ◌∷◌, ◌++◌, length, get_or, map, filter, find, take, drop, nat_eq, Option, Some, None, codes, option_map, option_and_then, refl, sym, ◌∙◌, ap, subst, take-append-drop}
use Rattle.std.specs.Prelude.{is_none, is_some, unwrap_or}
use Rattle.std.specs.Option.{option_map_or}
use Rattle.std.specs.List.{before_first, list_all, list_any, starts_with}
use Rattle.std.specs.Str.{bytes_eq}
use Rattle.std.proofs.lemmas.Bool.{and_parts, true≢false}
use Rattle.std.proofs.lemmas.Slice.Eq.{bytes_eq-Decides}
use Rattle.updater_text.specs.Digests.{digest_of}
use Rattle.updater_text.specs.Numbers.{number_of}
use Rattle.updater_text.specs.declared.digest.Digest.{Digest}
use Rattle.keyfile.specs.Groups.{Entry, Group, Text, get_entry, get_in, is_entry, is_entry_value, is_group, is_key_file}
use Rattle.conf_forms.specs.Classes.{is_class}
use Rattle.conf_forms.specs.Forms.{accepts}
use Rattle.conf_forms.specs.Lists.{first_of, value_beside}
use Rattle.conf_forms.specs.Tables.{form_by, form_of, keyed}
use Rattle.conf_forms.specs.Tables as table
use Rattle.conf_forms.specs.Walks.{first_bad, missing_key}
use Rattle.conf_forms.specs.declared.form.Form.{Form}
use Rattle.conf_forms.specs.declared.form.Form.TheVariants as form
use Rattle.conf_forms.proofs.FirstOf.{both_none}
use Rattle.conf_forms.proofs.Values.{has_its_form, present}
use Rattle.manifest.specs.Contents.{ImageContent, image_of, images_of}
use Rattle.manifest.specs.Hooked.{has_hook_file, is_hooked}
use Rattle.manifest.specs.Reads.{image_contents}
use Rattle.manifest.specs.declared.image.Image.{Image}
use Rattle.manifest.specs.Images.{class_of, file_of, has_any_hook, has_hook, has_install_check, image_groups, is_hook_named, is_image_group, is_without_file}
use Rattle.manifest.specs.KeyTable.{image_keys, manifest_table}
use Rattle.manifest.specs.Mandatory as mandatory
use Rattle.manifest.specs.Refusals.{bad_digest, bad_name, bad_value, first_refusal, left_out, missing, undigested, unknown_key}
use Rattle.manifest.specs.Sound.{are_bundle_texts, has_source, is_bundle_text, is_text_if_any}
use Rattle.manifest.specs.declared.image.ImageFile.{ImageFile}
use Rattle.manifest.specs.declared.refusal.ManifestRefusal.TheVariants as refusal
use Rattle.manifest.proofs.Lacking.{missing_by_parts}

-- ---- the refusals that do not hold

pub record Passes (groups : List Group) : Type 0 where
  pub missing : missing groups ≡ None
  pub bad_value : bad_value groups ≡ None
  pub bad_digest : bad_digest groups ≡ None

pub passes : (groups : List Group) → first_refusal groups ≡ None → Passes groups
passes groups none =
    let p1 = both_none (missing groups) _ none in
    let p2 = both_none (unknown_key groups) _ p1.1 in
    let p3 = both_none (left_out groups) _ p2.1 in
    let p4 = both_none (bad_value groups) _ p3.1 in
    let p5 = both_none (bad_name groups) _ p4.1 in
    let p6 = both_none (bad_digest groups) _ p5.1 in
    record { missing = p1.0; bad_value = p4.0; bad_digest = p6.0 }

map_none : {A B : Type 0} (f : A → B) (o : Option A) → option_map f o ≡ None → o ≡ None
map_none f (Some x) h = absurd (cc)
map_none f None h = refl

nothing_bad : (groups : List Group) → bad_value groups ≡ None → first_bad manifest_table (λ group entry. false) groups ≡ None
unfolding bad_value
nothing_bad groups none = map_none (λ p. refusal.BadValue p.0 p.1) (first_bad manifest_table (λ group entry. false) groups) none

nothing_missing : (groups : List Group) → missing groups ≡ None → mandatory.first_missing groups ≡ None
unfolding missing
nothing_missing groups none = map_none (λ p. refusal.Missing p.0 p.1) (mandatory.first_missing groups) none

nothing_undigested : (groups : List Group) → bad_digest groups ≡ None → first_of (undigested groups) (image_groups groups) ≡ None
unfolding bad_digest
nothing_undigested groups none = none

-- none along a list is none of each
each_none : {A B : Type 0} (f : A → Option B) (xs : List A) (i : ℕ) (d : A) → first_of f xs ≡ None → i < length xs → f (get_or xs i d) ≡ None
each_none f [] i d none within = absurd (omega (arith, within))
each_none f (x ∷ xs) zero d none within = (both_none (f x) (first_of f xs) none).0
each_none f (x ∷ xs) (suc i) d none within = each_none f xs i d (both_none (f x) (first_of f xs) none).1 (omega (arith, within))

-- ---- values

formed_there : (groups : List Group) → bad_value groups ≡ None → (group key value : Text) → get_in groups group key ≡ Some value → (f : Form) → form_of manifest_table group key ≡ Some f → accepts f value ≡ true
formed_there groups none group key value is f known = has_its_form manifest_table (λ group entry. false) groups (nothing_bad groups none) group key value is f known

one_of : {A : Type 0} (x y : A) → Some x ≡ Some y → x ≡ y
one_of x y e = cc

found_passes : {A : Type 0} (p q : A → Bool) (xs : List A) (x : A) → list_all p xs ≡ true → find q xs ≡ Some x → p x ≡ true
found_passes p q [] x all is = absurd (cc)
found_passes p q (y ∷ xs) x all is = let both = and_parts (p y) (list_all p xs) all in go (q y) both.0 is (λ later. found_passes p q xs x both.1 later)
  where
    go : (b : Bool) → p y ≡ true → cond b (Some y) (find q xs) ≡ Some x → (find q xs ≡ Some x → p x ≡ true) → p x ≡ true
    go true here is more = ap p (sym (one_of y x is)) ∙ here
    go false here is more = more is

mapped : {A B : Type 0} (f : A → B) (o : Option A) (y : B) → option_map f o ≡ Some y → (x : A) × (o ≡ Some x) × (f x ≡ y)
mapped f (Some x) y h = (x, refl, cc)
mapped f None y h = absurd (cc)

chained : {A B : Type 0} (f : A → Option B) (o : Option A) (y : B) → option_and_then f o ≡ Some y → (x : A) × (o ≡ Some x) × (f x ≡ Some y)
chained f (Some x) y h = (x, refl, h)
chained f None y h = absurd (cc)

-- the value of a key of a key file has a value's form
value_there : (groups : List Group) → is_key_file groups ≡ true → (group key value : Text) → get_in groups group key ≡ Some value → is_entry_value value ≡ true
value_there groups file group key value is =
    let g = chained (λ (g : Group). get_entry g.1 key) (find (λ (g : Group). bytes_eq group g.0) groups) value is in
    let e = mapped (λ (e : Entry). e.1) (find (λ (e : Entry). bytes_eq key e.0) g.0.1) value g.2 in
    let formed = found_passes is_group (λ (g : Group). bytes_eq group g.0) groups g.0 (and_parts (list_all is_group groups) _ file).0 g.1 in
    let entries = (and_parts (list_all is_entry g.0.1) _ (and_parts _ _ formed).1).0 in
    let entry = found_passes is_entry (λ (e : Entry). bytes_eq key e.0) g.0.1 e.0 entries e.1 in
    ap is_entry_value (sym e.2) ∙ (and_parts _ (is_entry_value e.0.1) entry).1

-- ---- what a bundle says of itself

module _ (groups : List Group) (file : is_key_file groups ≡ true) (fine : bad_value groups ≡ None) where
  text_there : (key value : Text) → form_of manifest_table (codes "update") key ≡ Some form.Text → get_in groups (codes "update") key ≡ Some value → is_bundle_text value ≡ true
  text_there key value known is = λ i. formed_there groups fine (codes "update") key value is form.Text known i && value_there groups file (codes "update") key value is i

  text_if_any : (key : Text) → form_of manifest_table (codes "update") key ≡ Some form.Text → is_text_if_any (get_in groups (codes "update") key) ≡ true
  text_if_any key known = go (get_in groups (codes "update") key) refl
    where
      go : (o : Option Text) → get_in groups (codes "update") key ≡ o → is_text_if_any o ≡ true
      go (Some value) is = text_there key value known is
      go None is = refl

  text_or_none : (key : Text) → form_of manifest_table (codes "update") key ≡ Some form.Text → is_bundle_text (unwrap_or (get_in groups (codes "update") key) []) ≡ true
  text_or_none key known = go (get_in groups (codes "update") key) refl
    where
      go : (o : Option Text) → get_in groups (codes "update") key ≡ o → is_bundle_text (unwrap_or o []) ≡ true
      go (Some value) is = text_there key value known is
      go None is = refl

  pub texts_formed : (compatible : Text) (version description build : Option Text) → compatible ≡ unwrap_or (get_in groups (codes "update") (codes "compatible")) []
      → version ≡ get_in groups (codes "update") (codes "version") → description ≡ get_in groups (codes "update") (codes "description") → build ≡ get_in groups (codes "update") (codes "build")
      → are_bundle_texts compatible version description build ≡ true
  texts_formed compatible version description build is v d b =
      (λ i. are_bundle_texts (is i) (v i) (d i) (b i))
      ∙ (λ i. text_or_none (codes "compatible") refl i && (text_if_any (codes "version") refl i && (text_if_any (codes "description") refl i && text_if_any (codes "build") refl i)))

-- ---- images

filtered : {A : Type 0} (p : A → Bool) (xs : List A) (i : ℕ) (d : A) → i < length (filter p xs) → p (get_or (filter p xs) i d) ≡ true
filtered p [] i d within = absurd (omega (arith, within))
filtered p (x ∷ xs) i d within = go (p x) refl i within (λ j less. filtered p xs j d less)
  where
    go : (b : Bool) → p x ≡ b → (j : ℕ) → j < length (cond b (x ∷ filter p xs) (filter p xs)) → ((k : ℕ) → k < length (filter p xs) → p (get_or (filter p xs) k d) ≡ true) → p (get_or (cond b (x ∷ filter p xs) (filter p xs)) j d) ≡ true
    go true is zero less more = is
    go true is (suc j) less more = more j (omega (arith, less))
    go false is j less more = more j less

pub is_image : (groups : List Group) (i : ℕ) (d : Text) → i < length (image_groups groups) → is_image_group (get_or (image_groups groups) i d) ≡ true
is_image groups i d within = filtered is_image_group (map (λ (g : Group). g.0) groups) i d within

-- the keys of an image are those of the table
pub image_named : (g : Text) → is_image_group g ≡ true → (g ≡ codes "image." ++ class_of g) × (is_class (class_of g) ≡ true)
image_named g h =
    let both = and_parts (starts_with nat_eq g (codes "image.")) (is_class (class_of g)) h in
    let front : take 6 g ≡ codes "image." = sym ((bytes_eq-Decides (codes "image.") (take 6 g)).0 both.0) in
    (sym (take-append-drop 6 g) ∙ ap (λ (t : Text). t ++ drop 6 g) front, both.1)

image_form : (g key : Text) → is_image_group g ≡ true → form_of manifest_table g key ≡ value_beside image_keys key
image_form g key h =
    let named = image_named g h in
    ap (λ (t : Text). form_of manifest_table t key) named.0 ∙ ap (λ b. form_by (cond b (keyed image_keys) (cond (is_class (before_first (λ x. eqb x 46) (class_of g))) table.left_out table.unknown)) key) named.1

some_of : {A : Type 0} (o : Option A) → is_some o ≡ true → (x : A) × (o ≡ Some x)
some_of (Some x) h = (x, refl)
some_of None h = absurd (true≢false (sym h))

not_none : {A : Type 0} (o : Option A) → is_none o ≡ false → is_some o ≡ true
not_none (Some x) h = refl
not_none None h = absurd (true≢false h)

unless_none : {A : Type 0} (b : Bool) (x : A) → cond b (Some x) None ≡ None → b ≡ false
unless_none true x h = absurd (cc)
unless_none false x h = refl

or_first : (a b : Bool) → a ≡ true → (a || b) ≡ true
or_first true b h = refl
or_first false b h = absurd (true≢false (sym h))

or_second : (a b : Bool) → b ≡ true → (a || b) ≡ true
or_second true b h = refl
or_second false b h = h

abbrev file_with : Text → ℕ → Digest → ImageFile
file_with name size digest = record { name = name; size = size; digest = digest }

module _ (groups : List Group) (passed : Passes groups) (g : Text) (one : is_image_group g ≡ true) where
  there : first_of (missing_key groups) ((g, codes "filename") ∷ (g, codes "size") ∷ (g, codes "sha256") ∷ []) ≡ None → undigested groups g ≡ None → is_some (file_of groups g) ≡ true
  there none digested =
      let m1 = both_none (missing_key groups (g, codes "filename")) _ none in
      let m2 = both_none (missing_key groups (g, codes "size")) _ m1.1 in
      let m3 = both_none (missing_key groups (g, codes "sha256")) _ m2.1 in
      let name = present groups g (codes "filename") m1.0 in
      let size = present groups g (codes "size") m2.0 in
      let digest = present groups g (codes "sha256") m3.0 in
      let number = some_of (number_of size.0) (formed_there groups passed.bad_value g (codes "size") size.0 size.1 form.Number (image_form g (codes "size") one)) in
      let sum = some_of (digest_of digest.0) (not_none (digest_of digest.0) (unless_none (is_none (digest_of digest.0)) (refusal.BadDigest g) (sym (ap (λ (o : Option Text). cond (option_map_or (λ text. is_none (digest_of text)) o false) (Some (refusal.BadDigest g)) None) digest.1) ∙ digested))) in
      (λ i. is_some (option_and_then (λ name. option_and_then (λ size. option_map (λ digest. file_with name size digest) (option_and_then digest_of (digest.1 i))) (option_and_then number_of (size.1 i))) (name.1 i)))
      ∙ (λ i. is_some (option_and_then (λ size. option_map (λ digest. file_with name.0 size digest) (sum.1 i)) (number.1 i)))

  pub sourced : first_of (missing_key groups) (mandatory.image_keys groups g) ≡ None → undigested groups g ≡ None → has_source (file_of groups g) (has_hook groups g (codes "install")) ≡ true
  sourced none digested = go (is_without_file groups g) refl none
    where
      go : (b : Bool) → is_without_file groups g ≡ b → first_of (missing_key groups) (cond b [] ((g, codes "filename") ∷ (g, codes "size") ∷ (g, codes "sha256") ∷ [])) ≡ None → has_source (file_of groups g) (has_hook groups g (codes "install")) ≡ true
      go true is none = or_second (is_some (file_of groups g)) (has_hook groups g (codes "install")) (and_parts (has_hook groups g (codes "install")) _ is).0
      go false is none = or_first (is_some (file_of groups g)) (has_hook groups g (codes "install")) (there none digested)

-- an image of the list that was read
module _ (groups : List Group) (none : first_refusal groups ≡ None) (images : List Text) (same : images ≡ image_groups groups) (i : ℕ) (item group : Text) (within : i < length images) (is : item ≡ get_or images i item) (named : group ≡ item) where
  at_place : group ≡ get_or (image_groups groups) i item
  at_place = named ∙ is ∙ ap (λ (xs : List Text). get_or xs i item) same

  less : i < length (image_groups groups)
  less = subst (λ (xs : List Text). i < length xs) same within

  pub image_there : is_image_group group ≡ true
  image_there = ap is_image_group at_place ∙ is_image groups i item less

  whole : Passes groups
  whole = passes groups none

  keys_there : first_of (λ (g : Text). first_of (missing_key groups) (mandatory.image_keys groups g)) (image_groups groups) ≡ None
  keys_there =
      let p = both_none (missing_key groups (codes "update", codes "compatible")) _ (sym (missing_by_parts groups) ∙ nothing_missing groups whole.missing) in
      (both_none (first_of (λ (g : Text). first_of (missing_key groups) (mandatory.image_keys groups g)) (image_groups groups)) _ p.1).0

  pub sourced_there : has_source (file_of groups group) (has_hook groups group (codes "install")) ≡ true
  sourced_there =
      sourced groups whole group image_there
      (ap (λ (g : Text). first_of (missing_key groups) (mandatory.image_keys groups g)) at_place ∙ each_none (λ (g : Text). first_of (missing_key groups) (mandatory.image_keys groups g)) (image_groups groups) i item keys_there less)
      (ap (undigested groups) at_place ∙ each_none (undigested groups) (image_groups groups) i item (nothing_undigested groups whole.bad_digest) less)

-- ---- hooks

abbrev content_hooked : ImageContent → Bool
content_hooked c = c.pre || (c.install || c.post)

hooked_contents : (images : List Image) → list_any is_hooked images ≡ list_any content_hooked (image_contents images)
hooked_contents [] = refl
hooked_contents (i ∷ images) = ap (λ b. is_hooked i || b) (hooked_contents images)

hooked_groups : (groups : List Group) (names : List Text) → list_any content_hooked (map (image_of groups) names) ≡ list_any (has_any_hook groups) names
hooked_groups groups [] = refl
hooked_groups groups (n ∷ names) = ap (λ b. has_any_hook groups n || b) (hooked_groups groups names)

hook_file_there : (groups : List Group) → missing groups ≡ None → is_hook_named groups ≡ true → is_some (get_in groups (codes "hooks") (codes "filename")) ≡ true
hook_file_there groups none named =
    let p = both_none (missing_key groups (codes "update", codes "compatible")) _ (sym (missing_by_parts groups) ∙ nothing_missing groups none) in
    let q = both_none (first_of (λ (g : Text). first_of (missing_key groups) (mandatory.image_keys groups g)) (image_groups groups)) _ p.1 in
    let r = both_none (missing_key groups (codes "hooks", codes "filename")) None (sym (ap (λ b. first_of (missing_key groups) (cond b ((codes "hooks", codes "filename") ∷ []) [])) named) ∙ q.1) in
    ap is_some (present groups (codes "hooks") (codes "filename") r.0).1

pub hooks_there : (groups : List Group) (hook_file : Option Text) (install_check : Bool) (images : List Image) → first_refusal groups ≡ None → hook_file ≡ get_in groups (codes "hooks") (codes "filename")
    → install_check ≡ has_install_check groups → image_contents images ≡ images_of groups → has_hook_file hook_file install_check images ≡ true
hooks_there groups hook_file install_check images none file check same =
    (λ i. is_some (file i) || not (check i || named i)) ∙ go (is_hook_named groups) refl
  where
    named : list_any is_hooked images ≡ list_any (has_any_hook groups) (image_groups groups)
    named = hooked_contents images ∙ ap (list_any content_hooked) same ∙ hooked_groups groups (image_groups groups)

    go : (b : Bool) → is_hook_named groups ≡ b → (is_some (get_in groups (codes "hooks") (codes "filename")) || not (is_hook_named groups)) ≡ true
    go true is = or_first (is_some (get_in groups (codes "hooks") (codes "filename"))) _ (hook_file_there groups (passes groups none).missing is)
    go false is = or_second (is_some (get_in groups (codes "hooks") (codes "filename"))) _ (ap not is)
