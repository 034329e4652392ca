use Rattle.std.proofs.Common.{◌∙◌, length, take}
use Rattle.keyfile.proofs.Distinct.{bytes_eq-swap}
use Rattle.slot_graph.proofs.kernel.has_front.Goals as goal

pub returns : goal.returns
returns c = c.starts_with.ensures.value ∙ bytes_eq-swap c.args.front.now (take (length c.args.front.now) c.args.word.now)
