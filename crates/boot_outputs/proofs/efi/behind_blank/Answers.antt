use Rattle.std.proofs.Common.{◌∙◌, None, eqb, lit<, sym}
use Rattle.std.proofs.lemmas.Str.Pattern.{strip_prefix_char}
use Rattle.boot_outputs.proofs.EfiBytes.{behind_byte-char, behind_byte-other}
use Rattle.boot_outputs.proofs.efi.behind_blank.Goals as goal

pub returns-in-None : goal.returns-in-None
returns-in-None c =
    behind_byte-char 9 c.args.text.now c.strip_prefix-in-None.result (strip_prefix_char 9 c.args.text.now c.strip_prefix-in-None.result c.strip_prefix-in-None.ensures.cases (lit< tt))
    ∙ sym (behind_byte-other 32 (λ b. eqb b 9) c.args.text.now (strip_prefix_char 32 c.args.text.now None c.in-None.ensures.cases (lit< tt)))
