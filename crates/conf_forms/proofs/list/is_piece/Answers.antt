use Rattle.std.proofs.Common.{bytes_eq, lit<, rules}
use Rattle.std.proofs.lemmas.Iterator.Search.{any_from_yields_List}
use Rattle.std.proofs.lemmas.Iterator.Splits.{YieldsList-from_str_split}
use Rattle.conf_forms.proofs.list.is_piece.Goals as goal
use borrow.Author.Tests.{tests}

pub returns : goal.returns
returns c =
    any_from_yields_List (λ piece. bytes_eq c.args.item.now piece) _ _ c.any.result c.any.ensures.ran
    (YieldsList-from_str_split 59 c.args.pieces.now (lit< tt) (cc) (cc) (cc))
    (λ x r q k. search (rules, tests))
