-- The boot loader of a session, by the words of its first line.
use Rattle.std.specs.Prelude.{ℕ, ◌==◌, true, List, [], ◌∷◌, Option, Some, None, codes, bytes_eq, if◌then◌else◌}
use Rattle.std.specs.List.{slice_split}
use Rattle.boot_model.specs.declared.boot_kind.BootKind.{BootKind}
use Rattle.boot_model.specs.declared.boot_kind.BootKind.TheVariants.{Grub, Uboot, Barebox, Efi, Custom, Noop}

-- the words of a line, with a tab between each two
abbrev pub words_of : List ℕ → List (List ℕ)
words_of line = slice_split (λ b. b == 9) line

-- a boot loader by its name alone; what is set here matters to none of its programs
abbrev pub bare_kind : List ℕ → Option BootKind
bare_kind word =
    if bytes_eq word (codes "uboot") then Some (Uboot 3 3)
    else (if bytes_eq word (codes "barebox") then Some (Barebox None 3 3)
    else (if bytes_eq word (codes "efi") then Some (Efi true)
    else (if bytes_eq word (codes "noop") then Some Noop else None)))

-- a boot loader by its name, and its environment block or its program
abbrev pub kind_with : List ℕ → List ℕ → Option BootKind
kind_with word place =
    if bytes_eq word (codes "grub") then Some (Grub place)
    else (if bytes_eq word (codes "custom") then Some (Custom place) else None)

abbrev pub kind_of : List (List ℕ) → Option BootKind
kind_of (word ∷ []) = bare_kind word
kind_of (word ∷ place ∷ []) = kind_with word place
kind_of _ = None
