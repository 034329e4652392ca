use Rattle.std.proofs.Common.{◌∙◌, ap, eqb, lit<}
use Rattle.std.specs.List.{flat_map}
use Rattle.std.specs.Str.Iter.{split_has_more, split_pattern, split_text}
use Rattle.std.proofs.lemmas.Iterator.Consumers.{YieldsList-end}
use Rattle.std.proofs.lemmas.Iterator.Splits.{YieldsList-from_str_split}
use Rattle.boot_state.specs.Orders.{words_between}
use Rattle.boot_commands.proofs.Splits.{words_twice}
use Rattle.boot_commands.proofs.order.words_of.Goals as goal

pub returns : goal.returns
returns c =
    let i = c.into_iter-part-iterator.ensures.into_iter_gives in
    let y = YieldsList-from_str_split {s = c.into_iter-part-iterator.result} 32 c.args.order.now (lit< tt) (ap split_text i ∙ c.split-part-items.ensures.text) (ap split_has_more i ∙ c.split-part-items.ensures.has_more) (ap split_pattern i ∙ c.split-part-items.ensures.pattern) in
    let all = (YieldsList-end y c.loop-part.yielded _ c.loop-part.yielded_by _ _ c.in-None.is c.next.ensures.steps).0 in
    c.loop-part.invariant ∙ ap (flat_map (words_between (λ byte. eqb byte 9))) all ∙ words_twice (λ byte. eqb byte 32) (λ byte. eqb byte 9) c.args.order.now
