use Rattle.std.proofs.Common.{◌∙◌, lit<}
use Rattle.std.proofs.lemmas.Iterator.Consumers.{YieldsList-end}
use Rattle.std.proofs.lemmas.Iterator.Splits.{YieldsList-from_str_split}
use Rattle.keyfile.proofs.list.pieces.Goals as goal

pub returns : goal.returns
returns c =
    let road = YieldsList-from_str_split 59 c.args.text.now (lit< tt) (cc) (cc) (cc) in
    c.loop-piece.invariant ∙ (YieldsList-end road c.loop-piece.yielded _ c.loop-piece.yielded_by _ _ c.in-None.is c.next.ensures.steps).0
