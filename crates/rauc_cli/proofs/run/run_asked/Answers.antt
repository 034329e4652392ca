use Rattle.system_conf.specs.Reads.{system_configuration}
use Rattle.rauc_cli.specs.Ends.{outcome_in}
use Rattle.rauc_cli.proofs.Commands.{counted_later, runs_fault, runs_memory, runs_refusal, runs_system}
use Rattle.rauc_cli.proofs.Standing.{asked_later, asked_unchanged}
use Rattle.rauc_cli.proofs.run.run_asked.Goals as goal

pub returns-in-Ok-clause-runs : goal.returns-in-Ok-clause-runs
returns-in-Ok-clause-runs g c =
    runs_system _ c.args.run.now c.conf_path-path.result.now c.conf_path-path.ensures _ _ c.in-Ok.ensures.unchanged c.in-Ok.ensures.once _ (system_configuration c.in-Ok.system) _ _ c.run_command.result c.in-Ok.ensures.answers c.in-Ok.ensures.fails (rw c.given_in.ensures at c.run_command.ensures.runs)

pub returns-in-Ok-clause-counts : goal.returns-in-Ok-clause-counts
returns-in-Ok-clause-counts g c =
    counted_later _ _ _ _ _ _ (outcome_in c.run_command.result.report) c.in-Ok.ensures.counts.0 c.in-Ok.ensures.counts.1 c.run_command.ensures.counts

pub returns-in-Err-Refused-clause-runs : goal.returns-in-Err-Refused-clause-runs
returns-in-Err-Refused-clause-runs g c =
    runs_refusal _ c.args.run.now c.conf_path-path.result.now c.conf_path-path.ensures _ _ c.in-Err-Refused.ensures.unchanged c.in-Err-Refused.ensures.once c.in-Err-Refused.refusal c.no_system_report.result _ c.quiet.result c.quiet.ensures (rw c.in-Err-Refused.field-0-is at c.in-Err-Refused.ensures.answers) (rw c.in-Err-Refused.field-0-is at c.in-Err-Refused.ensures.fails) c.no_system_report.ensures

pub returns-in-Err-Outside-clause-runs : goal.returns-in-Err-Outside-clause-runs
returns-in-Err-Outside-clause-runs g c =
    runs_fault _ c.args.run.now c.conf_path-path.result.now c.conf_path-path.ensures _ _ c.in-Err-Outside.ensures.unchanged c.in-Err-Outside.ensures.once c.in-Err-Outside.kind c.outside.result _ c.quiet-in-Err-Outside.result c.quiet-in-Err-Outside.ensures (rw c.in-Err-Outside.field-0-is at c.in-Err-Outside.ensures.fails) c.outside.ensures

pub returns-in-Err-NoMemory-clause-runs : goal.returns-in-Err-NoMemory-clause-runs
returns-in-Err-NoMemory-clause-runs g c =
    runs_memory _ c.args.run.now c.conf_path-path.result.now c.conf_path-path.ensures _ _ c.in-Err-NoMemory.ensures.unchanged c.in-Err-NoMemory.ensures.once _ _ c.quiet-in-Err-NoMemory.result c.quiet-in-Err-NoMemory.ensures

pub returns-in-Ok-clause-stands : goal.returns-in-Ok-clause-stands
returns-in-Ok-clause-stands g c =
    asked_later c.args.run.now _ _ _ _ c.conf_path-path.result.now (system_configuration c.in-Ok.system) c.conf_path-path.ensures c.in-Ok.ensures.unchanged c.in-Ok.ensures.answers
    (λ told. (c.run_command.ensures.runs.ended.on_the_way told).grows) (rw c.given_in.ensures at c.run_command.ensures.stands)

pub returns-in-Err-Refused-clause-stands : goal.returns-in-Err-Refused-clause-stands
returns-in-Err-Refused-clause-stands g c = asked_unchanged _ c.args.run.now _ _ c.in-Err-Refused.ensures.unchanged

pub returns-in-Err-Outside-clause-stands : goal.returns-in-Err-Outside-clause-stands
returns-in-Err-Outside-clause-stands g c = asked_unchanged _ c.args.run.now _ _ c.in-Err-Outside.ensures.unchanged

pub returns-in-Err-NoMemory-clause-stands : goal.returns-in-Err-NoMemory-clause-stands
returns-in-Err-NoMemory-clause-stands g c = asked_unchanged _ c.args.run.now _ _ c.in-Err-NoMemory.ensures.unchanged
