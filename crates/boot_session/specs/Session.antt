-- What the lines of a session do, and what is told of it.
use Rattle.std.specs.Prelude.{ℕ, ◌+◌, ◌==◌, List, [], ◌∷◌, ◌++◌, length, Option, Some, None, Result, Ok, Err, codes, decimal, if◌then◌else◌}
use Rattle.std.specs.FinMap.{empty, entries, insert}
use Rattle.std.specs.List.{after_first, before_first, flat_map}
use Rattle.std.specs.Option.{option_map_or}
use Rattle.std.specs.Str.Lines.{lines}
use Rattle.boot_model.specs.declared.boot_kind.BootKind.{BootKind}
use Rattle.boot_model.specs.Vars.{Variables}
use Rattle.boot_programs.specs.Programs.{program}
use Rattle.boot_programs.specs.declared.program_end.ProgramEnd.{ProgramEnd}
use Rattle.boot_session.specs.Kinds.{kind_of, words_of}
use Rattle.boot_session.specs.declared.step.Step.{Step}

-- how a program ended: its exit code, how many bytes it printed, and these
abbrev pub end_text : ProgramEnd → List ℕ
end_text end = codes "status " ++ decimal end.code ++ codes ", bytes " ++ decimal (length end.out) ++ codes "\n" ++ end.out

-- a command that is run, by its words
abbrev pub ran : ProgramEnd → Step
ran end = record { text = end_text end; vars = end.vars }

-- a variable that is set from elsewhere
abbrev pub given : List (List ℕ) → Variables → Option Step
given (name ∷ text ∷ []) vars = Some (record { text = []; vars = insert vars name text })
given _ vars = None

-- what words do: a command, or behind an empty word the name and the value of a variable
abbrev pub step : BootKind → List (List ℕ) → Variables → Option Step
step kind [] vars = Some (ran (program kind [] vars))
step kind (word ∷ words) vars =
    if length word == 0 then given words vars else Some (ran (program kind (word ∷ words) vars))

-- what a line does
abbrev pub line_step : BootKind → Variables → List ℕ → Option Step
line_step kind vars line = step kind (words_of line) vars

-- each variable behind a tab, with a tab before its value, on a line of its own
abbrev pub variable_line : List ℕ × List ℕ → List ℕ
variable_line e = 9 ∷ e.0 ++ 9 ∷ e.1 ++ 10 ∷ []

abbrev pub variable_lines : List (List ℕ × List ℕ) → List ℕ
variable_lines vars = flat_map variable_line vars

-- a text before what is told else
abbrev pub put_before : List ℕ → Result (List ℕ) ℕ → Result (List ℕ) ℕ
put_before text (Ok rest) = Ok (text ++ rest)
put_before text (Err why) = Err why

-- what is told of these lines, the first of which has this number, on these variables, which come last; else the number of the first bad line
abbrev pub told : BootKind → ℕ → List (List ℕ) → Variables → Result (List ℕ) ℕ
told kind number [] vars = Ok (variable_lines (entries vars))
told kind number (line ∷ lines) vars =
    option_map_or (λ done. put_before done.text (told kind (number + 1) lines done.vars)) (line_step kind vars line) (Err number)

-- what is told of a whole text, the first line of which names the boot loader
abbrev pub session_of : List ℕ → Result (List ℕ) ℕ
session_of text =
    option_map_or (λ kind. told kind 2 (lines (after_first (λ b. b == 10) text)) empty) (kind_of (words_of (before_first (λ b. b == 10) text))) (Err 1)
