use Rattle.std.proofs.Common.{◌∙◌, Bor, List, rules, ℕ}
use Rattle.std.proofs.lemmas.Iterator.{YieldsList-from_slice}
use Rattle.std.proofs.lemmas.Iterator.Search.{any_from_yields_List}
use Rattle.std.specs.Str.{bytes_eq}
use Rattle.slot_graph.proofs.Classes.{list_any-map}
use Rattle.slot_graph.proofs.target.is_among.Goals as goal
use borrow.Author.Tests.{tests}

pub returns : goal.returns
returns c =
    any_from_yields_List (λ (other : Bor (List ℕ)). bytes_eq c.args.class.now other.now) _ _ c.any.result c.any.ensures.ran
    (YieldsList-from_slice c.args.classes.now c.iter.ensures.rest)
    (λ x r q k. search (rules, tests))
    ∙ list_any-map (bytes_eq c.args.class.now) (λ (other : Bor (List ℕ)). other.now) c.args.classes.now
