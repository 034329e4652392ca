-- GRUB: `grub-editenv`, by the words after its name.
use Rattle.std.specs.Prelude.{ℕ, List, [], ◌∷◌, ◌&&◌, codes, bytes_eq, if◌then◌else◌}
use Rattle.std.specs.List.{flat_map}
use Rattle.std.specs.FinMap.{entries}
use Rattle.boot_model.specs.Vars.{Variables}
use Rattle.boot_programs.specs.declared.program_end.ProgramEnd.{ProgramEnd}
use Rattle.boot_programs.specs.Ends.{refused, printed, changed_if}
use Rattle.boot_programs.specs.Settings.{setting_line, with_settings}

-- each variable as `name=value`, on a line of its own
abbrev pub listing : List (List ℕ × List ℕ) → List ℕ
listing vars = flat_map (λ e. setting_line e.0 e.1) vars

-- `FILE list` and `FILE set NAME=VALUE ..`, where FILE is the environment block
abbrev pub grub_editenv : List ℕ → List (List ℕ) → Variables → ProgramEnd
grub_editenv file (block ∷ verb ∷ []) vars =
    if bytes_eq block file && bytes_eq verb (codes "list") then printed vars (listing (entries vars)) else refused vars
grub_editenv file (block ∷ verb ∷ word ∷ words) vars =
    if bytes_eq block file && bytes_eq verb (codes "set") then changed_if vars (with_settings vars (word ∷ words)) else refused vars
grub_editenv file _ vars = refused vars
