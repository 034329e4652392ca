-- What the program of a boot loader does, by its words and by the loader's variables.
use Rattle.std.specs.Prelude.{ℕ, List, [], ◌∷◌, codes, bytes_eq, if◌then◌else◌}
use Rattle.boot_model.specs.declared.boot_kind.BootKind.{BootKind}
use Rattle.boot_model.specs.declared.boot_kind.BootKind.TheVariants.{Grub, Uboot, Barebox, Efi, Custom, Noop}
use Rattle.boot_model.specs.Vars.{Variables}
use Rattle.boot_programs.specs.declared.program_end.ProgramEnd.{ProgramEnd}
use Rattle.boot_programs.specs.Ends.{refused}
use Rattle.boot_programs.specs.Grub.{grub_editenv}
use Rattle.boot_programs.specs.Uboot.{fw_printenv, fw_setenv}
use Rattle.boot_programs.specs.Barebox.{barebox_state}
use Rattle.boot_programs.specs.Efi.{efibootmgr}
use Rattle.boot_programs.specs.Custom.{custom_backend}

-- a program of this kind with this name, by the words after its name
abbrev pub named_program : BootKind → List ℕ → List (List ℕ) → Variables → ProgramEnd
named_program (Grub file) tool words vars = if bytes_eq tool (codes "grub-editenv") then grub_editenv file words vars else refused vars
named_program (Uboot attempts primary_attempts) tool words vars =
    if bytes_eq tool (codes "fw_printenv") then fw_printenv words vars
    else (if bytes_eq tool (codes "fw_setenv") then fw_setenv words vars else refused vars)
named_program (Barebox state attempts primary_attempts) tool words vars =
    if bytes_eq tool (codes "barebox-state") then barebox_state words vars else refused vars
named_program (Efi use_next) tool words vars = if bytes_eq tool (codes "efibootmgr") then efibootmgr words vars else refused vars
named_program (Custom path) tool words vars = if bytes_eq tool path then custom_backend words vars else refused vars
named_program Noop tool words vars = refused vars

-- a program of this kind with these words, of which the first is its name; what no program does is refused
abbrev pub program : BootKind → List (List ℕ) → Variables → ProgramEnd
program kind [] vars = refused vars
program kind (tool ∷ words) vars = named_program kind tool words vars
