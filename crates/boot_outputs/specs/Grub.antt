-- GRUB: the list that `grub-editenv` prints.
use Rattle.std.specs.Prelude.{ℕ, List, Option, Some}
use Rattle.std.specs.List.{filter_map}
use Rattle.boot_model.specs.Vars.{Variables}
use Rattle.boot_programs.specs.Settings.{setting}
use Rattle.boot_outputs.specs.Texts.{lines_of, with_all}

-- with the variables of the lines that have an `=`
abbrev pub listed : List ℕ → Variables → Option Variables
listed out read = Some (with_all read (filter_map setting (lines_of out)))
