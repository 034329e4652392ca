-- Which commands a mark takes, and which read all variables, for each kind of boot loader.
use Rattle.std.specs.Prelude.{ℕ, ◌≤◌, List, [], Option, Some}
use Rattle.boot_model.specs.Vars.{Variables}
use Rattle.boot_model.specs.declared.boot_kind.BootKind.{BootKind}
use Rattle.boot_model.specs.declared.boot_kind.BootKind.TheVariants as boot
use Rattle.boot_commands.specs.Barebox as barebox
use Rattle.boot_commands.specs.Custom as custom
use Rattle.boot_commands.specs.Efi as efi
use Rattle.boot_commands.specs.Grub as grub
use Rattle.boot_commands.specs.Uboot as uboot
use Rattle.boot_commands.specs.declared.command.Command.{Command}
use Rattle.boot_commands.specs.declared.command.Mark.{Mark}

-- what is read before a name is marked
abbrev pub looks : BootKind → List (List ℕ) → Mark → List Command
looks (boot.Grub file) names mark = grub.looks file mark
looks (boot.Uboot attempts primary_attempts) names mark = uboot.looks
looks (boot.Barebox state attempts primary_attempts) names mark = barebox.looks state names mark
looks (boot.Efi use_next) names mark = efi.readings
looks (boot.Custom program) names mark = []
looks boot.Noop names mark = []

-- what is written then, by the variables that were read; none where there is no such name to the boot loader
abbrev pub plan : BootKind → List (List ℕ) → Mark → List ℕ → Variables → Option (List Command)
plan (boot.Grub file) names mark name vars = Some (grub.plan file names mark name vars)
plan (boot.Uboot attempts primary_attempts) names mark name vars = Some (uboot.plan attempts primary_attempts names mark name vars)
plan (boot.Barebox state attempts primary_attempts) names mark name vars = Some (barebox.plan state attempts primary_attempts names mark name vars)
plan (boot.Efi use_next) names mark name vars = efi.plan use_next mark name vars
plan (boot.Custom program) names mark name vars = Some (custom.plan program mark name)
plan boot.Noop names mark name vars = Some []

-- what reads all variables
abbrev pub readings : BootKind → List (List ℕ) → List Command
readings (boot.Grub file) names = grub.readings file
readings (boot.Uboot attempts primary_attempts) names = uboot.readings names
readings (boot.Barebox state attempts primary_attempts) names = barebox.readings state names
readings (boot.Efi use_next) names = efi.readings
readings (boot.Custom program) names = custom.readings program names
readings boot.Noop names = []

-- each count of attempts has one digit
abbrev pub HasDigits : BootKind → Type 0
HasDigits (boot.Uboot attempts primary_attempts) = (attempts ≤ 9) × (primary_attempts ≤ 9)
HasDigits (boot.Barebox state attempts primary_attempts) = (attempts ≤ 9) × (primary_attempts ≤ 9)
HasDigits _ = Unit {0}
