use Rattle.std.proofs.Common.{◌∙◌, None, lit<, sym}
use Rattle.std.proofs.lemmas.Str.Pattern.{strip_prefix_char}
use Rattle.boot_state.specs.Orders.{is_blank}
use Rattle.boot_outputs.proofs.EfiBytes.{behind_byte-other}
use Rattle.boot_outputs.proofs.efi.behind_mark.Goals as goal

pub returns-in-None : goal.returns-in-None
returns-in-None c = c.behind_blank.ensures ∙ sym (behind_byte-other 42 is_blank c.args.text.now (strip_prefix_char 42 c.args.text.now None c.in-None.ensures.cases (lit< tt)))
