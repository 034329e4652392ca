use Rattle.std.proofs.Common.{bytes_eq, codes, eqb, rules}
use Rattle.std.proofs.lemmas.Iterator.Adapters.{YieldsList-from_skip}
use Rattle.std.proofs.lemmas.Iterator.Search.{any_from_yields_List}
use Rattle.std.proofs.lemmas.Iterator.Splits.{YieldsList-from_slice_split}
use Rattle.slot_graph.proofs.archive.has_tar.Goals as goal
use borrow.Author.Tests.{tests}

pub returns : goal.returns
returns c =
    any_from_yields_List (λ part. bytes_eq part (codes "tar")) _ _ c.any.result c.any.ensures.ran
    (YieldsList-from_skip 1 (YieldsList-from_slice_split _ (λ b. eqb b 46) c.args.name.now (cc) (cc) (cc) (λ x r q k. search (rules, tests))) c.skip.ensures.count)
    (λ x r q k. search (rules, tests))
