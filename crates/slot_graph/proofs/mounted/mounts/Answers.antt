use Rattle.std.proofs.Common.{◌∙◌, ap, eqb, map, rules, sym, List, ℕ, ◌++◌, [], ◌∷◌}
use Rattle.std.proofs.lemmas.Iterator.Consumers.{YieldsList-at, YieldsList-end}
use Rattle.std.proofs.lemmas.Iterator.Splits.{YieldsList-from_slice_split}
use Rattle.std.proofs.lemmas.List.{map-append}
use Rattle.std.proofs.lemmas.List.Elements.{filter_map-append}
use Rattle.std.specs.List.{filter_map}
use Rattle.slot_graph.specs.Mounts.{mount_in, mount_words}
use Rattle.slot_graph.proofs.mounted.mounts.Goals as goal
use borrow.Author.Tests.{tests}

pub loop-line-preserved : goal.loop-line-preserved
loop-line-preserved c =
    let f = λ (line : List ℕ). mount_in (mount_words line) in
    c.in_ok-push_mount.ensures
    ∙ ap (λ items. items ++ filter_map f (c.in-Some.line.now ∷ [])) c.loop-line.invariant
    ∙ sym (ap (filter_map f) (map-append (λ x. x.now) c.loop-line.yielded (c.in-Some.line ∷ [])) ∙ filter_map-append f (map (λ x. x.now) c.loop-line.yielded) (c.in-Some.line.now ∷ []))

pub returns : goal.returns
returns c =
    c.loop-line.invariant
    ∙ ap (filter_map (λ line. mount_in (mount_words line)))
    (YieldsList-end (YieldsList-at c.into_iter-line-iterator.ensures.into_iter_gives (YieldsList-from_slice_split _ (λ b. eqb b 10) c.args.bytes.now c.split-line-items.ensures.rest c.split-line-items.ensures.done c.split-line-items.ensures.closure (λ x r q k. search (rules, tests))))
    c.loop-line.yielded _ c.loop-line.yielded_by _ _ c.in-None.is c.next.ensures.steps).0
