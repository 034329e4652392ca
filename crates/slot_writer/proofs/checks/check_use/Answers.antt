use Rattle.std.proofs.Common.{option_map}
use Rattle.machine.specs.Past.{world_now}
use Rattle.slot_graph.specs.declared.state.Booted.{Booted}
use Rattle.running_system.specs.Running.{what_runs}
use Rattle.slot_writer.specs.Checks.{use_refusal}
use Rattle.slot_writer.proofs.Checking.{checks_asked}
use Rattle.slot_writer.proofs.checks.check_use.Goals as goal

pub returns-in-Ok-clause-checks : goal.returns-in-Ok-clause-checks
returns-in-Ok-clause-checks g c =
    checks_asked _ (λ (b : Booted). use_refusal c.args.system.now.slots b c.args.at) (what_runs c.args.system.now.slots (option_map (λ name. name.now) c.args.given) (world_now (g.M.Machine.past c.args.m.now))) c.in-Ok.booted _ _ _ c.in-Ok.ensures.unchanged c.in-Ok.ensures.fails c.in-Ok.ensures.answers c.check_booted.ensures.checks
