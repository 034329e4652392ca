-- From what a parse ensures to what the words give.
use Rattle.std.proofs.Common.{◌≡◌, ◌∙◌, ap, sym, refl, true, false, List, [], ◌∷◌, Option, Some, None, Bool, if◌then◌else◌, rules}
use Rattle.clap.specs.Words.{Row, Text, fault_of, matches_of, is_simple, is_simple_and_free, IsAmong, Kinds}
use Rattle.clap.specs.Walk.{is_empty}
use Rattle.clap.specs.declared.error.ErrorKind.{ErrorKind}
use Rattle.rauc_words.specs.Rules.{rauc_app}
use Rattle.rauc_words.specs.Reading.{line_in, command_line_of}
use Rattle.rauc_words.specs.declared.command_line.CommandLine.{CommandLine}

-- the command is one of which `clap` states the whole meaning
pub is_exact : is_simple_and_free rauc_app ≡ true
is_exact = refl

pub is_stated : is_simple rauc_app ≡ true
is_stated = refl

choose : Bool → List Text → Option CommandLine
choose b words = if b then Some (line_in (matches_of rauc_app words)) else None

pub gives_some : (words : List Text) (rows : List Row) (g : CommandLine) → fault_of rauc_app words ≡ [] → rows ≡ matches_of rauc_app words
    → g ≡ line_in rows → Some g ≡ command_line_of words
unfolding choose
gives_some words rows g fine rows_are g_is =
    ap (λ (x : CommandLine). Some x) (g_is ∙ ap line_in rows_are) ∙ sym (ap (λ (ks : Kinds). choose (is_empty ks) words) fine)

among : (k : ErrorKind) (ks : Kinds) → IsAmong k ks → is_empty ks ≡ false
among k [] h = absurd h
among k (x ∷ xs) h = search rules

pub gives_none : (words : List Text) (k : ErrorKind) → IsAmong k (fault_of rauc_app words) → None ≡ command_line_of words
unfolding choose
gives_none words k h = sym (ap (λ (b : Bool). choose b words) (among k (fault_of rauc_app words) h))
