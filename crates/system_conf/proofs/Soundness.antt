-- What is read and not refused is sound.
use Rattle.std.proofs.Common.{◌≡◌, ℕ, Bool, true, false, cond, ◌&&◌, nat_lt, List, [], ◌∷◌, length, map, Option, Some, None, codes, refl, sym, ◌∙◌, subst}
use Rattle.std.specs.Prelude.{option_and_then}
use Rattle.std.specs.Option.{option_map_or}
use Rattle.std.specs.List.{list_all, position_or_len}
use Rattle.std.specs.Str.{bytes_eq}
use Rattle.std.proofs.lemmas.List.{length-map}
use Rattle.boot_model.specs.declared.boot_kind.BootKind.{BootKind}
use Rattle.boot_model.specs.declared.boot_kind.BootKind.TheVariants as boot
use Rattle.keyfile.specs.Groups.{Text, Group, get_in}
use Rattle.conf_forms.specs.Lists.{or_else}
use Rattle.system_conf.specs.Values.{boot_of, boot_file, grub_file_of, grubenv_of, loader_of, attempts_in, flag_in, custom_program_of}
use Rattle.conf_forms.specs.SlotNames.{slot_groups, slot_names, name_of}
use Rattle.system_conf.specs.Slots.{slot_called, slots_of, slot_of}
use Rattle.system_conf.specs.Sound.{parents_stand}
use Rattle.system_conf.specs.declared.slot.Slot.{Slot}

pub left_none : {A : Type 0} (a b : Option A) → None ≡ or_else a b → a ≡ None
left_none (Some x) b h = absurd (cc)
left_none None b h = refl

pub right_none : {A : Type 0} (a b : Option A) → None ≡ or_else a b → None ≡ b
right_none (Some x) b h = absurd (cc)
right_none None b h = h

-- GRUB's file is that of the boot loader
pub boot_file-boot_of : (groups : List Group) → boot_file (boot_of groups) ≡ grub_file_of groups
boot_file-boot_of groups =
    go (bytes_eq (loader_of groups) (codes "grub")) (bytes_eq (loader_of groups) (codes "uboot")) (bytes_eq (loader_of groups) (codes "barebox")) (bytes_eq (loader_of groups) (codes "efi")) (bytes_eq (loader_of groups) (codes "custom"))
  where
    u : BootKind
    u = boot.Uboot (attempts_in groups (codes "boot-attempts")) (attempts_in groups (codes "boot-attempts-primary"))

    b : BootKind
    b = boot.Barebox (get_in groups (codes "system") (codes "barebox-statename")) (attempts_in groups (codes "boot-attempts")) (attempts_in groups (codes "boot-attempts-primary"))

    go : (p q r s t : Bool)
        → boot_file (cond p (boot.Grub (grubenv_of groups)) (cond q (boot.Uboot (attempts_in groups (codes "boot-attempts")) (attempts_in groups (codes "boot-attempts-primary")))
        (cond r (boot.Barebox (get_in groups (codes "system") (codes "barebox-statename")) (attempts_in groups (codes "boot-attempts")) (attempts_in groups (codes "boot-attempts-primary")))
        (cond s (boot.Efi (flag_in groups (codes "system") (codes "efi-use-bootnext") true)) (cond t (boot.Custom (custom_program_of groups)) boot.Noop)))))
        ≡ cond p (Some (grubenv_of groups)) None
    go true q r s t = refl
    go false true r s t = refl
    go false false true s t = refl
    go false false false true t = refl
    go false false false false true = refl
    go false false false false false = refl

-- each parent is the place of a slot
found_within : (b : Bool) (k : ℕ) (n : ℕ) → nat_lt k n ≡ b → option_map_or (λ p. nat_lt p n) (cond b (Some k) None) true ≡ true
found_within true k n e = e
found_within false k n e = refl

called_within : (groups : List Group) (name : Text) → option_map_or (λ p. nat_lt p (length (slots_of groups))) (slot_called groups name) true ≡ true
called_within groups name =
    let same : length (slot_names groups) ≡ length (slots_of groups) = length-map (slot_groups groups) name_of ∙ sym (length-map (slot_groups groups) (slot_of groups)) in
    let k = position_or_len (λ n. bytes_eq n name) (slot_names groups) in
    subst (λ (n : ℕ). option_map_or (λ p. nat_lt p n) (slot_called groups name) true ≡ true) same (found_within (nat_lt k (length (slot_names groups))) k (length (slot_names groups)) refl)

parent_within : (groups : List Group) (o : Option Text) → option_map_or (λ p. nat_lt p (length (slots_of groups))) (option_and_then (slot_called groups) o) true ≡ true
parent_within groups None = refl
parent_within groups (Some name) = called_within groups name

pub parents_read : (groups : List Group) → parents_stand (slots_of groups) ≡ true
parents_read groups = each (slot_groups groups)
  where
    each : (names : List Text) → list_all (λ (s : Slot). option_map_or (λ p. nat_lt p (length (slots_of groups))) s.parent true) (map (slot_of groups) names) ≡ true
    each [] = refl
    each (n ∷ names) = λ i. parent_within groups (get_in groups n (codes "parent")) i && each names i
