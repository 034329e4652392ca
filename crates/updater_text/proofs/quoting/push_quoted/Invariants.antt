use Rattle.std.proofs.Common.{◌≡◌, ◌++◌, length, string_bytes}
use Rattle.std.specs.List.{flat_map}
use Rattle.std.specs.Str.{IsUtf8}
use Rattle.updater_text.specs.Quotes.{quote_byte}
use Rattle.updater_text.proofs.quoting.push_quoted.Given as goal

-- what is written and what is left make the whole
abbrev pub invariant-loop-plain : goal.invariant-loop-plain
invariant-loop-plain l = record {
  text : IsUtf8 l.left;
  whole : string_bytes l.out ++ flat_map quote_byte l.left ≡ string_bytes l.initial.out ++ flat_map quote_byte l.text;
}

abbrev pub decreases-loop-plain : goal.decreases-loop-plain
decreases-loop-plain l = length l.left
