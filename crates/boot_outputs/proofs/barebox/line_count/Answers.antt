use Rattle.std.proofs.Common.{◌∙◌}
use Rattle.std.proofs.lemmas.Iterator.Consumers.{count_from_yields_List}
use Rattle.std.proofs.lemmas.Iterator.Splits.{YieldsList-from_lines}
use Rattle.boot_outputs.proofs.Lines.{length-lines}
use Rattle.boot_outputs.proofs.barebox.line_count.Goals as goal

pub returns : goal.returns
returns c = count_from_yields_List c.lines.result c.count.result c.count.ensures.ran (YieldsList-from_lines c.args.out.now c.lines.ensures.rest) ∙ length-lines c.args.out.now
