use Rattle.std.proofs.Common.{None, lit<}
use Rattle.std.proofs.lemmas.Str.Pattern.{strip_prefix_char}
use Rattle.keyfile.proofs.LineForms.{after_blanks-none}
use Rattle.keyfile.proofs.line.strip_blank.Goals as goal

pub returns : goal.returns
returns c =
    after_blanks-none c.args.text.now
    (strip_prefix_char 32 c.args.text.now None c.in_default.ensures.cases (lit< tt))
    (strip_prefix_char 9 c.args.text.now None c.in_default-strip_prefix.ensures.cases (lit< tt))
