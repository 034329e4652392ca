use Rattle.std.proofs.Common.{eqb, length, not, rules}
use Rattle.std.proofs.lemmas.Iterator.Consumers.{YieldsList-at, YieldsList-from_filter}
use Rattle.std.proofs.lemmas.Iterator.Search.{any_from_yields_List}
use Rattle.std.proofs.lemmas.Iterator.Splits.{YieldsList-from_slice_split}
use Rattle.boot_state.specs.Efi.{is_number_of}
use Rattle.boot_state.specs.Orders.{is_comma}
use Rattle.boot_state.proofs.efi.has_number_of.Goals as goal
use borrow.Author.Tests.{tests}

pub returns : goal.returns
returns c =
    any_from_yields_List (is_number_of c.args.vars.now c.args.name.now) _ _ c.any.result c.any.ensures.ran
    (YieldsList-from_filter _ (λ w. not (eqb (length w) 0))
    (YieldsList-at c.filter.ensures.source
    (YieldsList-from_slice_split _ is_comma c.args.order.now c.split.ensures.rest c.split.ensures.done c.split.ensures.closure (λ x r q k. search (rules, tests))))
    c.filter.ensures.closure (λ x r q k. search (rules, tests)))
    (λ x r q k. search (rules, tests))
