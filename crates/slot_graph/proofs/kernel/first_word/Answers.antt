use Rattle.std.proofs.Common.{rules}
use Rattle.std.proofs.lemmas.Iterator.Search.{find_from_yields_List}
use Rattle.std.proofs.lemmas.Iterator.Splits.{YieldsList-from_slice_split}
use Rattle.slot_graph.specs.Kernel.{has_front, is_gap}
use Rattle.slot_graph.proofs.kernel.first_word.Goals as goal
use borrow.Author.Tests.{tests}

pub returns-clause-found : goal.returns-clause-found
returns-clause-found c =
    find_from_yields_List (has_front c.args.front.now) _ _ c.find.result c.find.ensures.ran
    (YieldsList-from_slice_split _ is_gap c.args.line.now c.split.ensures.rest c.split.ensures.done c.split.ensures.closure (λ x r q k. search (rules, tests)))
    (λ x r q k. search (rules, tests))
