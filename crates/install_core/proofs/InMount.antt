-- What lies in the directory where a bundle is mounted: below it, and not the status file.
use Rattle.std.proofs.Common.{◌≡◌, ◌≢◌, ◌&&◌, ◌==◌, not, ℕ, Bool, true, false, List, [], ◌∷◌, ◌++◌, codes, Option, Some, None, IsTrue, refl, sym, ap, ◌∙◌, append_assoc, eq-eqb, ⊎_elim}
use Rattle.std.specs.Prelude.{option_map, nat_eq, bytes_eq}
use Rattle.std.specs.Option.{option_map_or}
use Rattle.std.specs.List.{list_any, starts_with}
use Rattle.std.proofs.Math.Seq.{get_or-append_seam, take-append_seam}
use Rattle.std.proofs.lemmas.Bool.{and_parts, false≢true, or_cases, or_right, or_left}
use Rattle.std.proofs.lemmas.Slice.Eq.{bytes_eq-Decides}
use Rattle.child_steps.specs.Children.{mount_point}
use Rattle.keyfile.specs.Groups.{Text}
use Rattle.manifest.specs.declared.image.ImageFile.{ImageFile}
use Rattle.system_conf.specs.Configuration.{Configuration}
use Rattle.system_conf.specs.Formed.{are_apart, is_data_apart, is_status_apart, is_status_outside}
use Rattle.system_conf.specs.Values.{central_file, is_at}
use Rattle.updater_text.specs.Paths.{is_within, lies_under}
use Rattle.install_facts.specs.Facts.{image_path}

-- ---- below a directory

-- what stands behind a slash lies below what stands before it
under_slash : (front rest : Text) → lies_under front (front ++ 47 ∷ rest) ≡ true
under_slash front rest =
    let begins : starts_with nat_eq (front ++ 47 ∷ rest) front ≡ true = ap (bytes_eq front) (take-append_seam front (47 ∷ rest)) ∙ (bytes_eq-Decides front front).1 refl in
    λ i. begins i && eq-eqb _ 47 (get_or-append_seam front 47 rest 0) i

within_slash : (front rest : Text) → is_within front (front ++ 47 ∷ rest) ≡ true
within_slash front rest = or_right (bytes_eq (front ++ 47 ∷ rest) front) (lies_under front (front ++ 47 ∷ rest)) (under_slash front rest)

-- ---- two ways to split a path

has_slash : Text → Bool
has_slash text = list_any (λ b. b == 47) text

slash_behind : (front rest : Text) → has_slash (front ++ 47 ∷ rest) ≡ true
unfolding has_slash
slash_behind [] rest = refl
slash_behind (b ∷ front) rest = or_right (b == 47) (has_slash (front ++ 47 ∷ rest)) (slash_behind front rest)

-- before its last slash a path has all that stands before one that a further slash follows
before_last : (directory name front rest : Text) → directory ++ 47 ∷ name ≡ front ++ 47 ∷ rest → has_slash name ≡ false → has_slash rest ≡ true → (more : Text) × (directory ≡ front ++ 47 ∷ more)
before_last [] name [] rest e none some = let tails : name ≡ rest = cc in absurd (false≢true (sym none ∙ ap has_slash tails ∙ some))
before_last [] name (b ∷ front) rest e none some = let tails : name ≡ front ++ 47 ∷ rest = cc in absurd (false≢true (sym none ∙ ap has_slash tails ∙ slash_behind front rest))
before_last (d ∷ directory) name [] rest e none some = let head : d ≡ 47 = cc in (directory, ap (λ (x : ℕ). x ∷ directory) head)
before_last (d ∷ directory) name (b ∷ front) rest e none some =
    let head : d ≡ b = cc in
    let tails : directory ++ 47 ∷ name ≡ front ++ 47 ∷ rest = cc in
    let deep = before_last directory name front rest tails none some in
    (deep.0, λ i. head i ∷ deep.1 i)

-- ---- the images of a bundle

module _ (c : Configuration) (file : ImageFile) where
  -- they lie below the mount point
  pub image_within : is_within (mount_point c) (image_path c file) ≡ true
  image_within = within_slash (mount_point c) file.name

  below_prefix : image_path c file ≡ c.mount_prefix ++ 47 ∷ (codes "bundle/" ++ file.name)
  below_prefix = append_assoc c.mount_prefix (codes "/bundle") (codes "/" ++ file.name)

  image_outside : is_within c.mount_prefix (image_path c file) ≡ true
  image_outside = ap (is_within c.mount_prefix) below_prefix ∙ within_slash c.mount_prefix (codes "bundle/" ++ file.name)

  slash_in : has_slash (codes "bundle/" ++ file.name) ≡ true
  slash_in = slash_behind (codes "bundle") file.name

  no_slash : has_slash (codes "central.raucs") ≡ false
  unfolding has_slash
  no_slash = refl

  -- the data directory's status file is none of them
  not_central : IsTrue (is_data_apart c) → (directory : Text) → c.data_directory ≡ Some directory → image_path c file ≡ central_file directory → ⊥
  not_central apart directory there is =
      let split = before_last directory (codes "central.raucs") c.mount_prefix (codes "bundle/" ++ file.name) (sym is ∙ below_prefix) no_slash slash_in in
      let inside : is_within c.mount_prefix directory ≡ true = ap (is_within c.mount_prefix) split.1 ∙ within_slash c.mount_prefix split.0 in
      let outside : not (is_within c.mount_prefix directory) ≡ true = sym (ap (λ (o : Option Text). option_map_or (λ (d : Text). not (is_within c.mount_prefix d)) o true) there) ∙ apart in
      false≢true (sym (ap not inside) ∙ outside)

  not_at_central : IsTrue (is_data_apart c) → is_at (option_map central_file c.data_directory) (image_path c file) ≡ true → ⊥
  not_at_central apart h = go c.data_directory refl h
    where
      go : (o : Option Text) → c.data_directory ≡ o → is_at (option_map central_file o) (image_path c file) ≡ true → ⊥
      go None e h = false≢true h
      go (Some directory) e h = not_central apart directory e ((bytes_eq-Decides (image_path c file) (central_file directory)).0 h)

  -- no image is the status file
  pub not_status : IsTrue (are_apart c) → c.status_file ≢ Some (image_path c file)
  not_status apart is =
      let parts = and_parts (is_data_apart c) (option_map_or (λ path. is_status_outside c path && is_status_apart c path) c.status_file true) apart in
      let here : (is_status_outside c (image_path c file) && is_status_apart c (image_path c file)) ≡ true = sym (ap (λ (o : Option Text). option_map_or (λ path. is_status_outside c path && is_status_apart c path) o true) is) ∙ parts.1 in
      let outside = (and_parts (is_status_outside c (image_path c file)) (is_status_apart c (image_path c file)) here).0 in
      ⊎_elim
      (λ away. false≢true (sym (ap not image_outside) ∙ away))
      (not_at_central parts.0)
      (or_cases (not (is_within c.mount_prefix (image_path c file))) (is_at (option_map central_file c.data_directory) (image_path c file)) outside)

  -- who spares the mount point spares them
  pub spared : (files : List Text) → list_any (λ p. is_within p (image_path c file)) (files ++ mount_point c ∷ []) ≡ true
  spared [] = or_left (is_within (mount_point c) (image_path c file)) false image_within
  spared (p ∷ files) = or_right (is_within p (image_path c file)) (list_any (λ q. is_within q (image_path c file)) (files ++ mount_point c ∷ [])) (spared files)
