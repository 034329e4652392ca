use Rattle.std.proofs.Common.{None, lit<}
use Rattle.std.proofs.lemmas.Str.Pattern.{strip_suffix_char}
use Rattle.keyfile.proofs.LineForms.{before_blanks-none}
use Rattle.keyfile.proofs.line.strip_last_blank.Goals as goal

pub returns : goal.returns
returns c =
    before_blanks-none c.args.text.now
    (strip_suffix_char 32 c.args.text.now None c.in_default.ensures.cases (lit< tt))
    (strip_suffix_char 9 c.args.text.now None c.in_default-strip_suffix.ensures.cases (lit< tt))
