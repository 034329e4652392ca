use Rattle.std.proofs.Common.{◌∙◌, Bor, List, ap, rules, sym, ℕ}
use Rattle.std.proofs.lemmas.Iterator.{YieldsList-from_slice, items_from_collect}
use Rattle.std.proofs.lemmas.Iterator.Consumers.{YieldsList-at, YieldsList-from_filter_map}
use Rattle.std.specs.List.{filter_map}
use Rattle.std.specs.Prelude.{Ok}
use Rattle.std.specs.declared.alloc.AllocError.{AllocError}
use Rattle.slot_graph.specs.Targets.{target_of, targets_of}
use Rattle.slot_graph.proofs.Classes.{filter_map-map}
use Rattle.slot_graph.proofs.target.targets_among.Goals as goal
use borrow.Author.Tests.{tests}

pub returns : goal.returns
unfolding targets_of
returns c =
    let f = λ (class : List ℕ). target_of c.args.slots.now c.args.states.now class in
    items_from_collect {E = AllocError} (Ok c.in_ok-collect.field-0) c.in_ok-collect.ensures.ran
    (YieldsList-from_filter_map _ (λ (class : Bor (List ℕ)). f class.now)
    (YieldsList-at c.filter_map-targets.ensures.source (YieldsList-from_slice c.deref.result.now c.iter.ensures.rest))
    c.filter_map-targets.ensures.closure (λ x r q k. search (rules, tests)))
    ∙ ap (filter_map (λ (class : Bor (List ℕ)). f class.now)) c.deref.ensures.value
    ∙ sym (filter_map-map f (λ (class : Bor (List ℕ)). class.now) c.in_ok-classes.classes.items)
    ∙ ap (filter_map f) c.in_ok-classes.ensures
