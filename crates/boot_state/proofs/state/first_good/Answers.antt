use Rattle.std.proofs.Common.{eqb, length, not, rules, ◌&&◌}
use Rattle.std.proofs.lemmas.Iterator.Consumers.{YieldsList-at, YieldsList-from_filter}
use Rattle.std.proofs.lemmas.Iterator.Search.{find_from_yields_List}
use Rattle.std.proofs.lemmas.Iterator.Splits.{YieldsList-from_slice_split}
use Rattle.boot_state.specs.Orders.{has_word, is_blank}
use Rattle.boot_state.specs.States.{good}
use Rattle.boot_state.proofs.state.first_good.Goals as goal
use borrow.Author.Tests.{tests}

pub returns : goal.returns
returns c =
    find_from_yields_List (λ word. has_word c.args.names.now word && good c.args.kind.now c.args.vars.now c.args.names.now word) _ _ c.find.result c.find.ensures.ran
    (YieldsList-from_filter _ (λ w. not (eqb (length w) 0))
    (YieldsList-at c.filter.ensures.source
    (YieldsList-from_slice_split _ is_blank c.args.order.now c.split.ensures.rest c.split.ensures.done c.split.ensures.closure (λ x r q k. search (rules, tests))))
    c.filter.ensures.closure (λ x r q k. search (rules, tests)))
    (λ x r q k. search (rules, tests))
