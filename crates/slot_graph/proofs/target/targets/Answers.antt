use Rattle.std.proofs.Common.{◌≡◌, List, subst, sym, ℕ}
use Rattle.std.proofs.lemmas.Result.{IfOk-weaker}
use Rattle.std.specs.Prelude.{Vec}
use Rattle.std.specs.Global.{Global}
use Rattle.slot_graph.specs.Targets.{AreTargets, targets_of}
use Rattle.slot_graph.proofs.FreeRoots.{are_targets}
use Rattle.slot_graph.proofs.target.targets.Goals as goal

pub returns-clause-each : goal.returns-clause-each
returns-clause-each c =
    let s = c.args.system.now in
    IfOk-weaker c.targets_among.result (λ (t : Vec ℕ Global). t.items ≡ targets_of c.as_slice.result.now c.args.states.now) (λ (t : Vec ℕ Global). AreTargets s.slots c.args.states.now t.items)
    (λ t is. subst (λ (places : List ℕ). AreTargets s.slots c.args.states.now places) (sym (rw c.as_slice.ensures at is)) (are_targets s.slots c.args.states.now s.sound.slots))
    c.targets_among.ensures
