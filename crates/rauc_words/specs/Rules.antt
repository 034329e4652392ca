-- The command line of `rauc`, as a simple command of `clap`.
use Rattle.std.specs.Prelude.{ℕ, Bool, List, [], ◌∷◌, Some, codes, true, false}
use Rattle.std.specs.Option.{option_map_or}
use Rattle.std.specs.Str.{bytes_eq}
use Rattle.clap.specs.Words.{App, Row, Rule, Text, first_of, new_app, new_rule}
use Rattle.clap.specs.Simple.{on_top}
use Rattle.clap.specs.declared.builder.ArgAction.TheVariants.{SetTrue}

-- `--name VALUE`
abbrev pub option_rule : Text → Rule
option_rule name = record (new_rule name) { long = Some name }

-- `--name`
abbrev pub flag_rule : Text → Rule
flag_rule name = record (new_rule name) { long = Some name; action = Some SetTrue }

-- the rule, with a short name too
abbrev pub with_short : ℕ → Rule → Rule
with_short c r = record r { short = Some c }

-- three positionals and the options, with the short names `c` and `h`
abbrev pub rauc_rules : List Rule
rauc_rules = new_rule (codes "COMMAND") ∷ new_rule (codes "FIRST") ∷ new_rule (codes "SECOND")
    ∷ with_short 99 (option_rule (codes "conf"))
    ∷ option_rule (codes "override-boot-slot")
    ∷ option_rule (codes "output-format")
    ∷ option_rule (codes "socket")
    ∷ option_rule (codes "connections")
    ∷ flag_rule (codes "ignore-compatible")
    ∷ flag_rule (codes "detailed")
    ∷ with_short 104 (flag_rule (codes "help")) ∷ []

-- the words have no program's name before them
abbrev pub rauc_app : App
rauc_app = on_top (λ s. record s { rules = rauc_rules; no_binary_name = true; disable_help_flag = true })
    (new_app (codes "rauc"))

-- the flag is given
abbrev pub is_flag_set : Text → List Row → Bool
is_flag_set id rows = option_map_or (λ t. bytes_eq t (codes "true")) (first_of id rows) false
