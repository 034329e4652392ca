use Rattle.std.proofs.Common.{lit<, rules}
use Rattle.std.proofs.lemmas.Iterator.Search.{all_from_yields_List}
use Rattle.std.proofs.lemmas.Iterator.Splits.{YieldsList-from_str_split}
use Rattle.conf_forms.specs.Forms.{image_hooks}
use Rattle.conf_forms.specs.Lists.{is_among}
use Rattle.conf_forms.proofs.list.are_image_hooks_in.Goals as goal
use borrow.Author.Tests.{tests}

pub returns : goal.returns
returns c =
    all_from_yields_List (is_among image_hooks) _ _ c.all.result c.all.ensures.ran
    (YieldsList-from_str_split 59 c.args.pieces.now (lit< tt) (cc) (cc) (cc))
    (λ x r q k. search (rules, tests))
