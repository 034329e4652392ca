-- EFI: `efibootmgr`, by the words after its name.
use Rattle.std.specs.Prelude.{ℕ, ◌==◌, Bool, ◌&&◌, List, [], ◌∷◌, ◌++◌, length, take, drop, Option, codes, bytes_eq, if◌then◌else◌}
use Rattle.std.specs.Option.{option_map_or}
use Rattle.std.specs.List.{flat_map}
use Rattle.std.specs.FinMap.{entries, get, insert, remove}
use Rattle.boot_model.specs.Vars.{Variables}
use Rattle.boot_state.specs.Efi.{is_number, next_name, order_name}
use Rattle.boot_programs.specs.declared.program_end.ProgramEnd.{ProgramEnd}
use Rattle.boot_programs.specs.Ends.{refused, printed, changed}

-- the name of an entry is `Boot` and its number
abbrev pub is_entry : List ℕ → Bool
is_entry name = (length name == 8) && (bytes_eq (codes "Boot") (take 4 name) && is_number (drop 4 name))

-- an entry's name and label; other variables have no line
abbrev pub entry_line : List ℕ × List ℕ → List ℕ
entry_line e = if is_entry e.0 then e.0 ++ codes "* " ++ e.1 ++ 10 ∷ [] else []

-- a value behind a heading, where it is set
abbrev pub line_if_set : List ℕ → Option (List ℕ) → List ℕ
line_if_set heading value = option_map_or (λ text. heading ++ text ++ 10 ∷ []) value []

-- the lines of these variables
abbrev pub entry_lines : List (List ℕ × List ℕ) → List ℕ
entry_lines vars = flat_map entry_line vars

-- the next boot, the order and the entries
abbrev pub efi_listing : Variables → List ℕ
efi_listing vars =
    line_if_set (codes "BootNext: ") (get vars next_name)
    ++ line_if_set (codes "BootOrder: ") (get vars order_name)
    ++ entry_lines (entries vars)

-- `-N`, `-O`
abbrev pub remove_variable : List ℕ → Variables → ProgramEnd
remove_variable option vars =
    if bytes_eq option (codes "-N") then changed (remove vars next_name)
    else (if bytes_eq option (codes "-O") then changed (remove vars order_name) else refused vars)

-- `-n NUMBER`, `-o NUMBERS`
abbrev pub set_variable : List ℕ → List ℕ → Variables → ProgramEnd
set_variable option text vars =
    if bytes_eq option (codes "-n") then changed (insert vars next_name text)
    else (if bytes_eq option (codes "-o") then changed (insert vars order_name text) else refused vars)

-- by how many words there are
abbrev pub efibootmgr : List (List ℕ) → Variables → ProgramEnd
efibootmgr [] vars = printed vars (efi_listing vars)
efibootmgr (option ∷ []) vars = remove_variable option vars
efibootmgr (option ∷ text ∷ []) vars = set_variable option text vars
efibootmgr _ vars = refused vars
