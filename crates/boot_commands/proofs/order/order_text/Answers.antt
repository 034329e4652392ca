use Rattle.std.proofs.Common.{◌∙◌}
use Rattle.boot_commands.proofs.Splits.{join_by-joined}
use Rattle.boot_commands.proofs.order.order_text.Goals as goal

pub returns : goal.returns
returns c = c.from_string.ensures ∙ c.in_ok-text.ensures.ok ∙ join_by-joined 32 c.args.words.now
