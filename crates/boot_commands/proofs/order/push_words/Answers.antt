use Rattle.std.proofs.Common.{◌∙◌, ◌++◌, ℕ, List, ap, eqb, length, not}
use Rattle.std.specs.Prelude.{filter}
use Rattle.std.specs.Str.Iter.{split_has_more, split_pattern, split_text}
use Rattle.std.proofs.lemmas.Iterator.Consumers.{YieldsList-end}
use Rattle.std.proofs.lemmas.Iterator.Splits.{YieldsList-from_str_split}
use Rattle.boot_commands.proofs.order.push_words.Goals as goal

pub returns : goal.returns
returns c =
    let i = c.into_iter-part-iterator.ensures.into_iter_gives in
    let y = YieldsList-from_str_split {s = c.into_iter-part-iterator.result} c.args.gap c.args.text.now c.requires (ap split_text i ∙ c.split-part-items.ensures.text) (ap split_has_more i ∙ c.split-part-items.ensures.has_more) (ap split_pattern i ∙ c.split-part-items.ensures.pattern) in
    let all = (YieldsList-end y c.loop-part.yielded _ c.loop-part.yielded_by _ _ c.in-None.is c.next.ensures.steps).0 in
    c.loop-part.invariant ∙ ap (λ (parts : List (List ℕ)). c.args.words.now ++ filter (λ w. not (eqb (length w) 0)) parts) all
