-- What the commands of each kind of boot loader leave: those that read leave the variables, and those of a mark what the mark is to leave.
use Rattle.std.proofs.Common.{◌≡◌, ℕ, true, List, [], ◌∷◌, ◌++◌, refl}
use Rattle.std.specs.List.{list_all}
use Rattle.std.specs.Option.{option_map}
use Rattle.boot_model.specs.Vars.{Variables}
use Rattle.boot_model.specs.declared.boot_kind.BootKind.{BootKind}
use Rattle.boot_model.specs.declared.boot_kind.BootKind.TheVariants as boot
use Rattle.boot_commands.specs.Effects.{is_name, left_by, vars_after}
use Rattle.boot_commands.specs.Plans.{looks, plan, readings}
use Rattle.boot_commands.specs.declared.command.Mark.{Mark}
use Rattle.boot_commands.specs.declared.command.Mark.TheVariants.{Bad, Good, Primary}
use Rattle.boot_commands.specs.declared.command.Command.{Command}
use Rattle.boot_commands.proofs.Along.{Along, after_part, at_end}
use Rattle.boot_commands.proofs.BareboxPlans as barebox
use Rattle.boot_commands.proofs.CustomPlans as custom
use Rattle.boot_commands.proofs.EfiPlans as efi
use Rattle.boot_commands.proofs.GrubPlans as grub
use Rattle.boot_commands.proofs.Names.{name_unsigned}
use Rattle.boot_commands.proofs.UbootPlans as uboot

-- what reads before a mark leaves the variables
pub looks_keep : (kind : BootKind) (names : List (List ℕ)) (mark : Mark) (vars : Variables) → vars_after kind (looks kind names mark) vars ≡ vars
looks_keep (boot.Grub file) names mark vars = grub.looks_keep file names mark vars
looks_keep (boot.Uboot attempts primary_attempts) names mark vars = uboot.looks_keep attempts primary_attempts names mark vars
looks_keep (boot.Barebox state attempts primary_attempts) names mark vars = barebox.looks_keep state attempts primary_attempts names mark vars
looks_keep (boot.Efi use_next) names mark vars = refl
looks_keep (boot.Custom program) names mark vars = refl
looks_keep boot.Noop names mark vars = refl

-- and so does what reads all of them
keep_along : (kind : BootKind) (names : List (List ℕ)) (vars : Variables) → Along (λ v. v ≡ vars) kind (readings kind names) vars
keep_along (boot.Grub file) names vars = (refl, grub.readings_keep file names vars)
keep_along (boot.Uboot attempts primary_attempts) names vars = uboot.readings_keep attempts primary_attempts names vars
keep_along (boot.Barebox state attempts primary_attempts) [] vars = refl
keep_along (boot.Barebox state attempts primary_attempts) (name ∷ names) vars = (refl, barebox.readings_keep state attempts primary_attempts (name ∷ names) vars)
keep_along (boot.Efi use_next) names vars = (refl, refl)
keep_along (boot.Custom program) names vars = custom.readings_keep program names vars
keep_along boot.Noop names vars = refl

pub readings_keep : (kind : BootKind) (names : List (List ℕ)) (vars : Variables) → vars_after kind (readings kind names) vars ≡ vars
readings_keep kind names vars = at_end (λ v. v ≡ vars) kind (readings kind names) vars (keep_along kind names vars)

-- each first part of it too
pub each_reading_keeps : (kind : BootKind) (names : List (List ℕ)) (vars : Variables) (done left : List Command) → readings kind names ≡ done ++ left → vars_after kind done vars ≡ vars
each_reading_keeps kind names vars done left e = after_part (λ v. v ≡ vars) kind done left (readings kind names) vars e (keep_along kind names vars)

-- what is written, by the variables as they are, leaves what the mark is to leave
pub plan_does : (kind : BootKind) (names : List (List ℕ)) (mark : Mark) (name : List ℕ) (vars : Variables) → is_name name ≡ true → list_all is_name names ≡ true → option_map (λ commands. vars_after kind commands vars) (plan kind names mark name vars) ≡ left_by kind names mark name vars
plan_does (boot.Grub file) names mark name vars is are = grub.plan_does file names name vars (name_unsigned name is) mark
plan_does (boot.Uboot attempts primary_attempts) names mark name vars is are = uboot.plan_does attempts primary_attempts names name vars mark
plan_does (boot.Barebox state attempts primary_attempts) names mark name vars is are = barebox.plan_does state attempts primary_attempts names name vars (name_unsigned name is) are mark
plan_does (boot.Efi use_next) names mark name vars is are = efi.plan_does use_next names mark name vars
plan_does (boot.Custom program) names mark name vars is are = custom.plan_does program names mark name vars
plan_does boot.Noop names Bad name vars is are = refl
plan_does boot.Noop names Good name vars is are = refl
plan_does boot.Noop names Primary name vars is are = refl
