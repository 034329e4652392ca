use Rattle.std.proofs.Common.{◌∙◌}
use Rattle.system_conf.specs.Reads.{system_configuration}
use Rattle.status_file.proofs.Clocks.{clock_after, clock_once}
use Rattle.slot_graph.specs.declared.state.Booted.{Booted}
use Rattle.status_file.specs.declared.reading.StatusRead.{StatusRead}
use Rattle.install_facts.proofs.Failing.{failing_status}
use Rattle.install_facts.proofs.Knowing.{first_stopped, first_told}
use Rattle.install_facts.proofs.Silent.{silent_status}
use Rattle.install_facts.proofs.know.know_first.Goals as goal

pub returns-in-Ok-clause-looks : goal.returns-in-Ok-clause-looks
returns-in-Ok-clause-looks g c =
    first_told _ (system_configuration c.args.system.now) c.args.request.now.given_boot _ _ _ c.in_ok-booted.booted c.in_ok-booted.ensures.looks c.in-Ok.ensures.unchanged c.in-Ok.read c.in-Ok.ensures.answers c.in-Ok.ensures.fails

pub returns-in-Ok-clause-silent : goal.returns-in-Ok-clause-silent
returns-in-Ok-clause-silent g c = λ told.
    clock_after _ _ _ (clock_once _ _ _ (c.in_ok-booted.ensures.once told)) (c.in_ok-booted.ensures.looks.fails.grows told) (c.in-Ok.ensures.fails.grows told)
    ∙ silent_status (system_configuration c.args.system.now) _ _ (c.in-Ok.ensures.once told)

pub returns-in-Err-clause-looks : goal.returns-in-Err-clause-looks
returns-in-Err-clause-looks g c =
    rw c.call_stop.ensures.is
    (first_stopped _ (system_configuration c.args.system.now) c.args.request.now.given_boot _ _ _ c.in_ok-booted.booted c.in_ok-booted.ensures.looks c.in-Err.ensures.unchanged c.in-Err.stop c.in-Err.ensures.fails)

pub returns-in-Err-clause-silent : goal.returns-in-Err-clause-silent
returns-in-Err-clause-silent g c = λ told.
    clock_after _ _ _ (clock_once _ _ _ (c.in_ok-booted.ensures.once told)) (c.in_ok-booted.ensures.looks.fails.grows told) (c.in-Err.ensures.fails.grows told)
    ∙ silent_status (system_configuration c.args.system.now) _ _ (c.in-Err.ensures.once told)

pub returns-in-Err-clause-failing : goal.returns-in-Err-clause-failing
returns-in-Err-clause-failing g c =
    rw c.call_stop.ensures.is
    (failing_status (Booted × StatusRead) StatusRead _ (system_configuration c.args.system.now) _ _ _ c.in-Err.stop c.in_ok-booted.ensures.looks.fails c.in-Err.ensures.once c.in-Err.ensures.fails)
