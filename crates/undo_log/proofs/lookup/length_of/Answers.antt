use Rattle.std.proofs.Common.{Some, Option, List, ℕ, length, sym, ◌∙◌, ap}
use Rattle.std.specs.Option.{option_map}
use Rattle.undo_log.proofs.Places.{found_bytes, found_none}
use Rattle.undo_log.proofs.lookup.length_of.Goals as goal

pub returns-in-Some-clause-count : goal.returns-in-Some-clause-count
returns-in-Some-clause-count c =
    ap (λ (count : ℕ). Some count) c.len.ensures.count
    ∙ sym (ap (λ (o : Option (List ℕ)). option_map length o) (found_bytes c.args.list.now c.args.path.now c.in-Some.at c.index-list-at.result c.in-Some.ensures))

pub returns-in-None-clause-count : goal.returns-in-None-clause-count
returns-in-None-clause-count c =
    sym (ap (λ (o : Option (List ℕ)). option_map length o) (found_none c.args.list.now c.args.path.now c.in-None.ensures))
