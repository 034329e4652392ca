-- The table of commands, over what words give.
use Rattle.std.specs.Prelude.{ℕ, ◌+◌, ◌==◌, ◌&&◌, ◌||◌, Bool, true, false, not, nat_le, List, [], ◌∷◌, Option, Some, None, codes, find, length, if◌then◌else◌, is_some, option_and_then, option_map, unwrap_or}
use Rattle.std.specs.List.{list_any}
use Rattle.std.specs.Option.{option_map_or}
use Rattle.std.specs.Str.{bytes_eq}
use Rattle.clap.specs.Words.{Text}
use Rattle.rauc_words.specs.Reading.{command_line_of}
use Rattle.rauc_words.specs.declared.asked.Asked.{Asked}
use Rattle.rauc_words.specs.declared.asked.Asked.TheVariants as asked
use Rattle.rauc_words.specs.declared.asked.Command.{Command}
use Rattle.rauc_words.specs.declared.asked.Command.TheVariants as command
use Rattle.rauc_words.specs.declared.asked.Place.{Place}
use Rattle.rauc_words.specs.declared.asked.Run.{Run}
use Rattle.rauc_words.specs.declared.command_line.CommandLine.{CommandLine}
use Rattle.rauc_words.specs.declared.command_line.Extras.{Extras}
use Rattle.rauc_words.specs.declared.command_line.Positionals.{Positionals}
use Rattle.rauc_words.specs.declared.table.CommandKind.{CommandKind}
use Rattle.rauc_words.specs.declared.table.CommandKind.TheVariants as kind
use Rattle.rauc_words.specs.declared.table.CommandRow.{CommandRow}
use Rattle.rauc_words.specs.declared.table.ExtraNames.{ExtraNames}
use Rattle.slot_marks.specs.declared.naming.Action.{Action}
use Rattle.slot_marks.specs.declared.naming.Action.TheVariants as action
use Rattle.updater_text.specs.declared.form.Form.{Form}
use Rattle.updater_text.specs.declared.form.Form.TheVariants as form

-- none of the options that not every command allows
abbrev pub no_extras : ExtraNames
no_extras = record { output_format = false; socket = false; connections = false; ignore_compatible = false; detailed = false }

-- the commands: each with its name, its positionals from the fewest to the most, and the options that it allows
abbrev pub command_rows : List (Text × CommandRow)
command_rows =
    (codes "install", record { kind = kind.Install; fewest = 1; most = 1; allowed = record no_extras { ignore_compatible = true } })
    ∷ (codes "write-slot", record { kind = kind.WriteSlot; fewest = 2; most = 2; allowed = no_extras })
    ∷ (codes "info", record { kind = kind.Info; fewest = 1; most = 1; allowed = record no_extras { output_format = true } })
    ∷ (codes "status", record { kind = kind.Status; fewest = 0; most = 0; allowed = record no_extras { output_format = true; detailed = true } })
    ∷ (codes "status", record { kind = kind.Mark; fewest = 1; most = 2; allowed = no_extras }) ∷ []

-- the command takes so many positionals
abbrev pub has_count : ℕ → CommandRow → Bool
has_count count row = nat_le row.fewest count && nat_le count row.most

-- the row, where it does
abbrev pub row_if : CommandRow → ℕ → Option CommandRow
row_if row count = if has_count count row then Some row else None

-- the row of a command by its name and by how many positionals follow
abbrev pub command_row : Text → ℕ → Option CommandRow
command_row name count = option_map (λ row. row.1) (find (λ row. bytes_eq name row.0 && has_count count row.1) command_rows)

-- `install BUNDLE`
abbrev pub install_command : Option Text → Bool → Option Command
install_command first ignored = option_map (λ bundle. command.Install bundle ignored) first

-- `write-slot SLOT IMAGE`
abbrev pub write_slot_command : Option Text → Option Text → Option Command
write_slot_command first second = option_and_then (λ slot. option_map (λ image. command.WriteSlot slot image) second) first

-- the values of `--output-format`, each with the form that it names
abbrev pub form_rows : List (Text × Form)
form_rows = (codes "readable", form.Readable) ∷ (codes "shell", form.Shell) ∷ []

-- the form of a value of `--output-format`; without one it is readable
abbrev pub form_of : Option Text → Option Form
form_of None = Some form.Readable
form_of (Some name) = option_map (λ row. row.1) (find (λ row. bytes_eq name row.0) form_rows)

-- `info BUNDLE`, in the form of `--output-format`
abbrev pub info_command : Option Text → Option Text → Option Command
info_command first format = option_and_then (λ bundle. option_map (λ named. command.Info bundle named) (form_of format)) first

-- `status`, in the form of `--output-format`
abbrev pub status_command : Option Text → Bool → Option Command
status_command format detailed = option_map (λ named. command.Status named detailed) (form_of format)

-- the words of what is done to a slot
abbrev pub action_rows : List (Text × Action)
action_rows = (codes "mark-good", action.Good) ∷ (codes "mark-bad", action.Bad) ∷ (codes "mark-active", action.Active) ∷ []

abbrev pub action_of : Text → Option Action
action_of word = option_map (λ row. row.1) (find (λ row. bytes_eq word row.0) action_rows)

-- `status ACTION [SLOT]`
abbrev pub mark_command : Option Text → Option Text → Option Command
mark_command first second = option_map (λ act. command.Mark act second) (option_and_then action_of first)

-- each command from its positionals and its options
abbrev pub build : CommandKind → Option Text → Option Text → Extras → Option Command
build kind.Install first second extras = install_command first extras.ignore_compatible
build kind.WriteSlot first second extras = write_slot_command first second
build kind.Info first second extras = info_command first extras.output_format
build kind.Status first second extras = status_command extras.output_format extras.detailed
build kind.Mark first second extras = mark_command first second

-- how many positionals follow the command's name
abbrev pub positional_count : Positionals → ℕ
positional_count p = (if is_some p.first then 1 else 0) + (if is_some p.second then 1 else 0)

-- which options are given, of those that not every command allows
abbrev pub extra_names : Extras → ExtraNames
extra_names e = record {
  output_format = is_some e.output_format;
  socket = is_some e.socket;
  connections = is_some e.connections;
  ignore_compatible = e.ignore_compatible;
  detailed = e.detailed;
}

-- each option that is given is allowed
abbrev pub are_allowed : ExtraNames → ExtraNames → Bool
are_allowed given allowed =
    (not given.output_format || allowed.output_format) && (not given.socket || allowed.socket)
    && (not given.connections || allowed.connections)
    && (not given.ignore_compatible || allowed.ignore_compatible) && (not given.detailed || allowed.detailed)

-- the command of a row, where it allows the options that the line gives
abbrev pub row_command : CommandLine → CommandRow → Option Run
row_command line row = if are_allowed (extra_names line.extras) row.allowed
    then option_map (λ made. record { place = line.place; command = made })
    (build row.kind line.positionals.first line.positionals.second line.extras)
    else None

-- the command that the line names
abbrev pub command_in : CommandLine → Option Run
command_in line =
    option_and_then (row_command line)
    (option_and_then (λ name. command_row name (positional_count line.positionals)) line.positionals.command)

-- there is no value, or one that is not empty and has no NUL
abbrev pub is_usable : Option Text → Bool
is_usable None = true
is_usable (Some t) = not (length t == 0) && not (list_any (λ b. b == 0) t)

-- each value that is given is usable
abbrev pub are_usable : CommandLine → Bool
are_usable line =
    is_usable line.positionals.command && is_usable line.positionals.first && is_usable line.positionals.second
    && is_usable line.place.conf && is_usable line.place.given
    && is_usable line.extras.output_format && is_usable line.extras.socket && is_usable line.extras.connections

-- help before all else, then no value may be empty or have a NUL, then the command
abbrev pub request_in : CommandLine → Option Asked
request_in line = if line.help then Some asked.Help
    else (if are_usable line then option_map (λ run. asked.Run run) (command_in line) else None)

-- what words ask for: the reading by `clap`, and then the table
abbrev pub command_of : List Text → Option Asked
command_of words = option_and_then request_in (command_line_of words)

-- the path of the configuration: the one that the words name, or the usual one
abbrev pub conf_path : Place → Text
conf_path place = option_map_or (λ path. path) place.conf (codes "/etc/rauc/system.conf")

-- the word for the slot that is marked: the one that is given, or `booted`
abbrev pub slot_word : Option Text → Text
slot_word who = unwrap_or who (codes "booted")
