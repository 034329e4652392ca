use Rattle.std.proofs.Common.{◌∙◌, lit<}
use Rattle.std.proofs.lemmas.Iterator.Consumers.{YieldsList-end}
use Rattle.std.proofs.lemmas.Iterator.Splits.{YieldsList-from_str_split}
use Rattle.boot_session.proofs.kind.words_of.Goals as goal

pub returns : goal.returns
returns c =
    let road = YieldsList-from_str_split 9 c.args.line.now (lit< tt) (cc) (cc) (cc) in
    c.loop-word.invariant ∙ (YieldsList-end road c.loop-word.yielded _ c.loop-word.yielded_by _ _ c.in-None.is c.next.ensures.steps).0
