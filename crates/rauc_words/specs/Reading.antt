-- What words give, by the stated meaning of `clap`.
use Rattle.std.specs.Prelude.{List, Option, Some, None, codes, if◌then◌else◌}
use Rattle.clap.specs.Words.{Row, Text, fault_of, first_of, matches_of}
use Rattle.clap.specs.Walk.{is_empty}
use Rattle.rauc_words.specs.Rules.{is_flag_set, rauc_app}
use Rattle.rauc_words.specs.declared.asked.Place.{Place}
use Rattle.rauc_words.specs.declared.command_line.CommandLine.{CommandLine}
use Rattle.rauc_words.specs.declared.command_line.Extras.{Extras}
use Rattle.rauc_words.specs.declared.command_line.Positionals.{Positionals}

-- the positionals of the matches
abbrev pub positionals_in : List Row → Positionals
positionals_in rows = record {
  command = first_of (codes "COMMAND") rows;
  first = first_of (codes "FIRST") rows;
  second = first_of (codes "SECOND") rows;
}

-- the options of every command
abbrev pub place_in : List Row → Place
place_in rows = record {
  conf = first_of (codes "conf") rows;
  given = first_of (codes "override-boot-slot") rows;
}

-- the options that not every command allows
abbrev pub extras_in : List Row → Extras
extras_in rows = record {
  output_format = first_of (codes "output-format") rows;
  socket = first_of (codes "socket") rows;
  connections = first_of (codes "connections") rows;
  ignore_compatible = is_flag_set (codes "ignore-compatible") rows;
  detailed = is_flag_set (codes "detailed") rows;
}

-- all that the matches hold
abbrev pub line_in : List Row → CommandLine
line_in rows = record {
  positionals = positionals_in rows;
  place = place_in rows;
  extras = extras_in rows;
  help = is_flag_set (codes "help") rows;
}

-- none where `clap` has a fault to name
abbrev pub command_line_of : List Text → Option CommandLine
command_line_of words = if is_empty (fault_of rauc_app words) then Some (line_in (matches_of rauc_app words)) else None
