use Rattle.std.proofs.Common.{List, Option, Some, None, refl}
use Rattle.machine.specs.Past.{world_now}
use Rattle.slot_graph.specs.declared.mounted.Mount.{Mount}
use Rattle.running_system.specs.Running.{what_is_mounted}
use Rattle.slot_writer.specs.Checks.{mount_refusal}
use Rattle.slot_writer.proofs.Checking.{checks_asked}
use Rattle.slot_writer.proofs.checks.check_mounts.Goals as goal

pub returns-in-Ok-Some-clause-checks : goal.returns-in-Ok-Some-clause-checks
returns-in-Ok-Some-clause-checks g c =
    checks_asked _ (λ (mounts : Option (List Mount)). mount_refusal c.args.at c.args.slot.now mounts) (what_is_mounted (world_now (g.M.Machine.past c.args.m.now))) (Some c.in-Ok-Some.mounts) _ _ _ c.in-Ok-Some.ensures.unchanged c.in-Ok-Some.ensures.fails (rw c.in-Ok-Some.field-0-is at c.in-Ok-Some.ensures.answers) (rw c.as_slice.ensures at c.check_mounted.ensures.checks)

pub returns-in-Ok-None-clause-checks : goal.returns-in-Ok-None-clause-checks
returns-in-Ok-None-clause-checks g c =
    checks_asked _ (λ (mounts : Option (List Mount)). mount_refusal c.args.at c.args.slot.now mounts) (what_is_mounted (world_now (g.M.Machine.past c.args.m.now))) None _ _ _ c.in-Ok-None.ensures.unchanged c.in-Ok-None.ensures.fails (rw c.in-Ok-None.field-0-is at c.in-Ok-None.ensures.answers) (refl, refl)
