-- No place of the updater is taken by another.
use Rattle.std.proofs.Common.{◌≡◌, ℕ, Bool, true, false, cond, not, ◌&&◌, ◌||◌, eqb, List, [], ◌∷◌, ◌++◌, length, drop, get_or, codes, Option, Some, None, option_map, refl, sym, ◌∙◌, ap, arith, length-append, append_assoc}
use Rattle.std.specs.Prelude.{is_some, unwrap_or}
use Rattle.std.specs.Option.{option_map_or}
use Rattle.std.specs.Str.{bytes_eq}
use Rattle.std.proofs.Math.Seq.{drop-append_seam}
use Rattle.std.proofs.lemmas.Bool.{true≢false}
use Rattle.std.proofs.lemmas.Slice.Eq.{bytes_eq-Decides}
use Rattle.keyfile.specs.Groups.{Text, Group, get_in}
use Rattle.conf_forms.specs.Forms.{is_path, is_directory, without_slash}
use Rattle.conf_forms.specs.Lists.{or_else, keep_if}
use Rattle.conf_forms.specs.SlotNames.{slot_groups, slot_names}
use Rattle.system_conf.specs.Configuration.{configuration}
use Rattle.system_conf.specs.Conflicts.{is_index_file, has_index, index_file, is_central}
use Rattle.system_conf.specs.Formed.{are_apart}
use Rattle.system_conf.specs.Refusals.{bad_value}
use Rattle.system_conf.specs.Values.{loader_of, mount_prefix_of, data_directory_of, grubenv_of, grub_file_of, central_file, status_file_of, is_at}
use Rattle.updater_text.specs.Paths.{is_within}
use Rattle.conf_forms.proofs.Values.{or_parts}
use Rattle.system_conf.proofs.Differ.{names_of}
use Rattle.system_conf.proofs.SlotForms.{keep_if_is}
use Rattle.system_conf.proofs.Soundness.{boot_file-boot_of}
use Rattle.system_conf.proofs.WellFormed.{kept_if, not_taken, or_true, same_bytes}

-- the parts of a configuration, by the values that they are about
abbrev is_data_outside : Text → Option Text → Bool
is_data_outside mount_prefix data_directory = option_map_or (λ directory. not (is_within mount_prefix directory)) data_directory true

abbrev is_outside : Text → Option Text → Text → Bool
is_outside mount_prefix data_directory path = not (is_within mount_prefix path) || is_at (option_map central_file data_directory) path

-- ---- the data directory

data_apart : (groups : List Group) → bad_value groups ≡ None → is_data_outside (mount_prefix_of groups) (data_directory_of groups) ≡ true
data_apart groups fine = go (get_in groups (codes "system") (codes "data-directory")) refl
  where
    go : (o : Option Text) → get_in groups (codes "system") (codes "data-directory") ≡ o → is_data_outside (mount_prefix_of groups) (option_map without_slash (keep_if is_directory o)) ≡ true
    go None e = refl
    go (Some v) e = kept_if is_directory v (λ (o : Option Text). is_data_outside (mount_prefix_of groups) (option_map without_slash o) ≡ true) (λ _. ap not (not_taken groups fine (codes "data-directory") v e)) refl

-- ---- the file that a data directory has

differ : (a b : Text) → (a ≡ b → ⊥) → bytes_eq a b ≡ false
differ a b apart = go (bytes_eq a b) refl
  where
    go : (r : Bool) → bytes_eq a b ≡ r → bytes_eq a b ≡ false
    go true e = absurd (apart ((bytes_eq-Decides a b).0 e))
    go false e = e

other_way : (a b : Text) → bytes_eq a b ≡ false → bytes_eq b a ≡ false
other_way a b apart = differ b a (λ same. true≢false (sym ((bytes_eq-Decides a b).1 (sym same)) ∙ apart))

behind : (d a b : Text) → d ++ a ≡ d ++ b → a ≡ b
behind [] a b h = h
behind (x ∷ d) a b h = behind d a b (ap (drop 1) h)

no_index : (d name : Text) → bytes_eq (central_file d) (index_file d name) ≡ false
no_index d name =
    differ (central_file d) (index_file d name)
    (λ same. true≢false (ap (λ (t : Text). eqb (get_or t 1 0) 99) (behind d (codes "/central.raucs") (codes "/index." ++ name) (same ∙ append_assoc d (codes "/index.") name))))

no_index_among : (d : Text) (names : List Text) → has_index d (central_file d) names ≡ false
no_index_among d [] = refl
no_index_among d (name ∷ names) = λ i. no_index d name i || no_index_among d names i

-- it is not GRUB's environment block, where no other is named
no_default : (d : Text) → bytes_eq (central_file d) (codes "/boot/grub/grubenv") ≡ false
no_default d = differ (central_file d) (codes "/boot/grub/grubenv") (λ same. true≢false (ap (bytes_eq (codes "/central.raucs")) (rest same)))
  where
    four : central_file d ≡ codes "/boot/grub/grubenv" → length d ≡ 4
    four same = let long : length (central_file d) ≡ 18 = ap length same in omega (arith, length-append d (codes "/central.raucs"), long)

    rest : central_file d ≡ codes "/boot/grub/grubenv" → codes "/central.raucs" ≡ codes "t/grub/grubenv"
    rest same = sym (drop-append_seam d (codes "/central.raucs")) ∙ ap (drop (length d)) same ∙ ap (λ (n : ℕ). drop n (codes "/boot/grub/grubenv")) (four same)

grubenv_apart : (groups : List Group) → bad_value groups ≡ None → bytes_eq (loader_of groups) (codes "grub") ≡ true → (d : Text) → data_directory_of groups ≡ Some d → status_file_of groups ≡ Some (central_file d)
    → bytes_eq (central_file d) (grubenv_of groups) ≡ false
grubenv_apart groups fine grub d kept status = go (get_in groups (codes "system") (codes "grubenv")) refl
  where
    is_grub : is_some (grub_file_of groups) ≡ true
    is_grub = ap (λ b. is_some (cond b (Some (grubenv_of groups)) None)) grub

    is_own : is_central groups ≡ true
    is_own = (λ i. option_map_or (λ directory. is_at (status i) (central_file directory)) (kept i) false) ∙ same_bytes (central_file d)

    named : (v : Text) → get_in groups (codes "system") (codes "grubenv") ≡ Some v → bytes_eq v (central_file d) ≡ false
    named v e = sym (λ i. is_grub i && (is_own i && is_at (status i) v)) ∙ not_taken groups fine (codes "grubenv") v e

    go : (o : Option Text) → get_in groups (codes "system") (codes "grubenv") ≡ o → bytes_eq (central_file d) (unwrap_or (keep_if is_path o) (codes "/boot/grub/grubenv")) ≡ false
    go None e = no_default d
    go (Some v) e = kept_if is_path v (λ (o : Option Text). bytes_eq (central_file d) (unwrap_or o (codes "/boot/grub/grubenv")) ≡ false) (λ _. other_way v (central_file d) (named v e)) (no_default d)

grub_apart : (groups : List Group) → bad_value groups ≡ None → (d : Text) → data_directory_of groups ≡ Some d → status_file_of groups ≡ Some (central_file d) → is_at (grub_file_of groups) (central_file d) ≡ false
grub_apart groups fine d kept status = go (bytes_eq (loader_of groups) (codes "grub")) refl
  where
    go : (b : Bool) → bytes_eq (loader_of groups) (codes "grub") ≡ b → is_at (cond b (Some (grubenv_of groups)) None) (central_file d) ≡ false
    go true e = grubenv_apart groups fine e d kept status
    go false e = refl

-- ---- the status file

abbrev is_fine : List Group → Text → Bool
is_fine groups path = is_outside (mount_prefix_of groups) (data_directory_of groups) path && (not (is_index_file groups path) && not (is_at (grub_file_of groups) path))

given_fine : (groups : List Group) → bad_value groups ≡ None → (v : Text) → get_in groups (codes "system") (codes "statusfile") ≡ Some v → is_fine groups v ≡ true
given_fine groups fine v is =
    let within = or_parts (is_within (mount_prefix_of groups) v) (is_index_file groups v || is_at (grub_file_of groups) v) (not_taken groups fine (codes "statusfile") v is) in
    let others = or_parts (is_index_file groups v) (is_at (grub_file_of groups) v) within.1 in
    λ i. (not (within.0 i) || is_at (option_map central_file (data_directory_of groups)) v) && (not (others.0 i) && not (others.1 i))

own_fine : (groups : List Group) → bad_value groups ≡ None → (d : Text) → data_directory_of groups ≡ Some d → status_file_of groups ≡ Some (central_file d) → is_fine groups (central_file d) ≡ true
own_fine groups fine d kept status =
    (λ i. (not (is_within (mount_prefix_of groups) (central_file d)) || is_at (option_map central_file (kept i)) (central_file d))
    && (not (option_map_or (λ directory. has_index directory (central_file d) (slot_names groups)) (kept i) false) && not (grub_apart groups fine d kept status i)))
    ∙ (λ i. or_true (not (is_within (mount_prefix_of groups) (central_file d))) _ (same_bytes (central_file d)) i && (not (no_index_among d (slot_names groups) i) && true))

status_fine : (groups : List Group) → bad_value groups ≡ None → option_map_or (is_fine groups) (status_file_of groups) true ≡ true
status_fine groups fine = given (keep_if is_path (get_in groups (codes "system") (codes "statusfile"))) refl
  where
    own : (d : Option Text) → data_directory_of groups ≡ d → status_file_of groups ≡ option_map central_file d → option_map_or (is_fine groups) (option_map central_file d) true ≡ true
    own None kept status = refl
    own (Some d) kept status = own_fine groups fine d kept status

    given : (o : Option Text) → keep_if is_path (get_in groups (codes "system") (codes "statusfile")) ≡ o → option_map_or (is_fine groups) (or_else o (option_map central_file (data_directory_of groups))) true ≡ true
    given (Some v) e = given_fine groups fine v (keep_if_is is_path (get_in groups (codes "system") (codes "statusfile")) v e).0
    given None e = own (data_directory_of groups) refl (ap (λ (o : Option Text). or_else o (option_map central_file (data_directory_of groups))) e)

pub places_apart : (groups : List Group) → bad_value groups ≡ None → are_apart (configuration groups) ≡ true
unfolding configuration
places_apart groups fine =
    (λ i. is_data_outside (mount_prefix_of groups) (data_directory_of groups)
    && option_map_or (λ (path : Text). is_outside (mount_prefix_of groups) (data_directory_of groups) path
    && (not (option_map_or (λ directory. has_index directory path (names_of groups (slot_groups groups) i)) (data_directory_of groups) false) && not (is_at (boot_file-boot_of groups i) path))) (status_file_of groups) true)
    ∙ (λ i. data_apart groups fine i && status_fine groups fine i)
