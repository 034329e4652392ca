-- The names of slots differ where those of groups do.
use Rattle.std.proofs.Common.{◌≡◌, true, List, [], ◌∷◌, ◌++◌, map, take, drop, codes, refl, sym, ◌∙◌, ap, subst, ◌&&◌}
use Rattle.std.specs.List.{IsDistinct, starts_with}
use Rattle.std.specs.Prelude.{nat_eq, is_some}
use Rattle.std.specs.Str.{bytes_eq}
use Rattle.std.proofs.lemmas.Bool.{and_parts}
use Rattle.std.proofs.lemmas.List.{take-append-drop}
use Rattle.std.proofs.lemmas.Slice.Eq.{bytes_eq-Decides}
use Rattle.keyfile.specs.Groups.{Text, Group}
use Rattle.conf_forms.specs.Classes.{is_class}
use Rattle.conf_forms.specs.SlotNames.{name_of, class_of, index_of, index_in, is_slot_group, slot_groups}
use Rattle.conf_forms.proofs.Distinct.{IsDistinct-parts}
use Rattle.system_conf.specs.Slots.{slots_of, slot_of}
use Rattle.system_conf.specs.declared.slot.Slot.{Slot}

-- a slot's group is its name behind `slot.`
pub group_is : (g : Text) → is_slot_group g ≡ true → g ≡ codes "slot." ++ name_of g
group_is g h =
    let begins = (and_parts (starts_with nat_eq g (codes "slot.")) (is_class (class_of g) && is_some (index_in (index_of g))) h).0 in
    let front : take 5 g ≡ codes "slot." = sym ((bytes_eq-Decides (codes "slot.") (take 5 g)).0 begins) in
    sym (take-append-drop 5 g) ∙ ap (λ (t : Text). t ++ drop 5 g) front

pub names_of : (groups : List Group) (names : List Text) → map (λ (s : Slot). s.name) (map (slot_of groups) names) ≡ map name_of names
names_of groups [] = refl
names_of groups (g ∷ names) = ap (λ (more : List Text). name_of g ∷ more) (names_of groups names)

pub IsDistinct-slots_of : (groups : List Group) → IsDistinct bytes_eq (map (λ (g : Group). g.0) groups) → IsDistinct bytes_eq (map (λ (s : Slot). s.name) (slots_of groups))
IsDistinct-slots_of groups h =
    subst (λ (names : List Text). IsDistinct bytes_eq names) (sym (names_of groups (slot_groups groups)))
    (IsDistinct-parts is_slot_group (codes "slot.") name_of group_is (map (λ (g : Group). g.0) groups) h)
