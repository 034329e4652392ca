-- What honest programs show is enough: for what a mark writes, and for which names are good and primary.
use Rattle.std.proofs.Common.{◌≡◌, ℕ, true, false, List, [], ◌∷◌, Option, Some, refl, sym, ap, bytes_eq}
use Rattle.std.specs.Prelude.{option_and_then, position}
use Rattle.std.specs.FinMap as fin
use Rattle.std.specs.List.{list_all}
use Rattle.std.proofs.lemmas.Bool.{and_parts, or_from, true≢false}
use Rattle.boot_model.specs.Vars.{Variables}
use Rattle.boot_model.specs.declared.boot_kind.BootKind.{BootKind}
use Rattle.boot_model.specs.declared.boot_kind.BootKind.TheVariants.{Barebox, Custom, Efi, Grub, Noop, Uboot}
use Rattle.boot_state.specs.Orders.{has_word, is_word}
use Rattle.boot_state.specs.States.{good, primary, primary_at}
use Rattle.boot_commands.specs.Plans.{looks, plan, readings}
use Rattle.boot_commands.specs.declared.command.Command.{Command}
use Rattle.boot_commands.specs.declared.command.Command.TheVariants.{StoreState}
use Rattle.boot_commands.specs.declared.command.Mark.{Mark}
use Rattle.boot_commands.specs.declared.command.Mark.TheVariants.{Bad, Good, Primary}
use Rattle.boot_commands.specs.declared.command.Setting.{Setting}
use Rattle.boot_outputs.specs.Saw.{Saw, TellsStates}
use Rattle.boot_outputs.proofs.BareboxTells as barebox
use Rattle.boot_outputs.proofs.CustomTells as custom
use Rattle.boot_outputs.proofs.EfiTells as efi
use Rattle.boot_outputs.proofs.GrubTells as grub
use Rattle.boot_outputs.proofs.UbootTells as uboot

-- by what is read first, a mark of one of the names writes what it would write by the variables themselves
pub looks_tell : (kind : BootKind) (names : List (List ℕ)) (mark : Mark) (name : List ℕ) (vars last : Variables) → has_word names name ≡ true → Saw kind (looks kind names mark) vars fin.empty last → plan kind names mark name last ≡ plan kind names mark name vars
looks_tell (Grub file) names Bad name vars last has saw = refl
looks_tell (Grub file) names Good name vars last has saw = refl
looks_tell (Grub file) names Primary name vars last has saw = ap (plan (Grub file) names Primary name) (grub.grub_saw file vars last saw)
looks_tell (Uboot a p) names mark name vars last has saw =
    ap (λ (commands : List Command). Some commands) (uboot.plan_alike a p names mark name vars last (uboot.looks_saw a p vars last saw))
looks_tell (Barebox state a p) names Bad name vars last has saw = refl
looks_tell (Barebox state a p) names Good name vars last has saw =
    ap (λ (settings : List Setting). Some (StoreState state settings ∷ [])) (barebox.settings_alike last vars names (barebox.barebox_saw state a p state names vars last saw) a p Good name has)
looks_tell (Barebox state a p) names Primary name vars last has saw =
    ap (λ (settings : List Setting). Some (StoreState state settings ∷ [])) (barebox.settings_alike last vars names (barebox.barebox_saw state a p state names vars last saw) a p Primary name has)
looks_tell (Efi use_next) names mark name vars last has saw = efi.plan_alike last vars (efi.efi_saw use_next vars last saw) use_next mark name
looks_tell (Custom path) names mark name vars last has saw = refl
looks_tell Noop names mark name vars last has saw = refl

no_empty : (names : List (List ℕ)) → list_all is_word names ≡ true → has_word names [] ≡ false
no_empty [] h = refl
no_empty (name ∷ names) h =
    let parts = and_parts (is_word name) (list_all is_word names) h in
    or_from (bytes_eq name []) (has_word names []) (first name parts.0) (no_empty names parts.1)
  where
    first : (word : List ℕ) → is_word word ≡ true → bytes_eq word [] ≡ false
    first [] h = absurd (true≢false (sym h))
    first (byte ∷ more) h = refl

-- by all that is read, the same names are good, and the same one is primary
pub readings_tell : (kind : BootKind) (names : List (List ℕ)) (vars last : Variables) → list_all is_word names ≡ true → Saw kind (readings kind names) vars fin.empty last → TellsStates kind names vars last
readings_tell (Grub file) names vars last words saw =
    let same = grub.grub_saw file vars last saw in
    record { good = λ name has. ap (λ (v : Variables). good (Grub file) v names name) same; primary = ap (λ (v : Variables). primary (Grub file) v names) same }
readings_tell (Uboot a p) names vars last words saw =
    let after = uboot.uboot_saw a p names vars last saw in
    record { good = uboot.good_alike names vars last after; primary = uboot.primary_alike names vars last after }
readings_tell (Barebox state a p) names vars last words saw =
    let all = barebox.barebox_saw state a p state names vars last saw in
    record { good = λ name has. barebox.good_alike last vars name (all name has); primary = barebox.primary_alike last vars names all }
readings_tell (Efi use_next) names vars last words saw =
    let alike = efi.efi_saw use_next vars last saw in
    record { good = λ name has. efi.good_alike last vars alike name; primary = efi.primary_alike last vars alike names }
readings_tell (Custom path) names vars last words saw =
    let after = custom.custom_saw path names vars last saw in
    record { good = custom.good_alike names vars last after; primary = custom.primary_alike names vars last after (no_empty names words) }
readings_tell Noop names vars last words saw = record { good = λ name has. refl; primary = refl }

-- so it has the same place among the names
pub primary_at_told : (kind : BootKind) (names : List (List ℕ)) (vars last : Variables) → TellsStates kind names vars last → primary_at kind last names ≡ primary_at kind vars names
primary_at_told kind names vars last tells = ap (λ (o : Option (List ℕ)). option_and_then (λ name. position (λ other. bytes_eq other name) names) o) tells.primary
