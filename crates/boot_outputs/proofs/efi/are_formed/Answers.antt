use Rattle.std.proofs.Common.{◌∙◌, lit<, refl, rules}
use Rattle.std.proofs.lemmas.Iterator.Search.{all_from_yields_List}
use Rattle.std.proofs.lemmas.Iterator.Splits.{YieldsList-from_str_split}
use Rattle.boot_outputs.specs.Efi.{is_formed}
use Rattle.boot_outputs.proofs.Lines.{list_all-pieces}
use Rattle.boot_outputs.proofs.efi.are_formed.Goals as goal
use borrow.Author.Tests.{tests}

pub returns : goal.returns
returns c =
    all_from_yields_List is_formed _ _ c.all.result c.all.ensures.ran
    (YieldsList-from_str_split 10 c.args.out.now (lit< tt) (cc) (cc) (cc))
    (λ x r q k. search (rules, tests))
    ∙ list_all-pieces is_formed c.args.out.now refl
