use Rattle.std.proofs.Common.{eqb, length, not, rules}
use Rattle.std.proofs.lemmas.Iterator.Consumers.{YieldsList-at, YieldsList-from_filter, nth_from_yields_List}
use Rattle.std.proofs.lemmas.Iterator.Splits.{YieldsList-from_slice_split}
use Rattle.keyfile.specs.Lines.{is_blank}
use Rattle.slot_graph.proofs.mounted.word_at.Goals as goal
use borrow.Author.Tests.{tests}

pub returns : goal.returns
returns c =
    nth_from_yields_List c.nth.result _ c.args.at c.nth.ensures.ran
    (YieldsList-from_filter _ (λ w. not (eqb (length w) 0))
    (YieldsList-at c.filter.ensures.source
    (YieldsList-from_slice_split _ is_blank c.args.line.now c.split.ensures.rest c.split.ensures.done c.split.ensures.closure (λ x r q k. search (rules, tests))))
    c.filter.ensures.closure (λ x r q k. search (rules, tests)))
