use Rattle.boot_outputs.proofs.Fronts.{behind-strip_prefix}
use Rattle.boot_outputs.proofs.texts.behind.Goals as goal

pub returns : goal.returns
returns c = behind-strip_prefix c.args.front.now c.args.text.now c.strip_prefix.result c.strip_prefix.ensures.cases
