use Rattle.std.proofs.Common.{◌∙◌, List, subst, ℕ}
use Rattle.manifest.specs.Reads.{image_contents}
use Rattle.system_conf.specs.declared.slot.Slot.{Slot}
use Rattle.slot_graph.specs.Jobs.{AssignsAll, jobs_of}
use Rattle.slot_graph.proofs.Placing.{placed_if}
use Rattle.slot_graph.proofs.assigning.assign.Goals as goal

pub returns-clause-places : goal.returns-clause-places
returns-clause-places c =
    let s = c.args.system.now in
    let images = image_contents c.args.images.now in
    placed_if s.slots c.args.states.now s.sound.slots images c.jobs_of.result
    (subst (λ (targets : List ℕ). AssignsAll (jobs_of s.slots targets images) c.jobs_of.result) (c.as_slice-2.ensures.value ∙ c.in_ok-targets.ensures.values)
    (subst (λ (slots : List Slot). AssignsAll (jobs_of slots c.as_slice-2.result.now images) c.jobs_of.result) c.as_slice.ensures c.jobs_of.ensures))
