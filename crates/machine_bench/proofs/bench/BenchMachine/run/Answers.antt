use Rattle.std.proofs.Common.{◌≡◌, Result, Err, ◌∙◌, ap, subst}
use Rattle.machine.specs.declared.world.Child.{Child}
use Rattle.machine.specs.declared.world.Exit.{Exit}
use Rattle.machine.specs.declared.calls.CallStop.{CallStop}
use Rattle.machine.specs.Calls.{RunEnds}
use Rattle.undo_log.specs.declared.log.UndoLog.{UndoLog}
use Rattle.undo_log.specs.Logged.{past_of_log}
use Rattle.machine_bench.specs.Scripts.{script_for}
use Rattle.machine_bench.proofs.Scripted.{runs_by}
use Rattle.machine_bench.proofs.Settling.{run_answer, settled_run}
use Rattle.machine_bench.proofs.bench.BenchMachine.run.Goals as goal

-- the same of a result that is known
run_ended : (old last : UndoLog) (child : Child) (result found : Result Exit CallStop) → result ≡ found → RunEnds (past_of_log old) (past_of_log last) child (run_answer result) → RunEnds (past_of_log old) (past_of_log last) child (run_answer found)
run_ended old last child result found is h = subst (λ (r : Result Exit CallStop). RunEnds (past_of_log old) (past_of_log last) child (run_answer r)) is h

pub returns-in-Ok-clause-past : goal.returns-in-Ok-clause-past
returns-in-Ok-clause-past c = λ told.
    run_ended c.args.self.now.log c.settle.new.self.log c.args.child.now c.settle.result _ c.in-Ok.is
    (settled_run _ _ _ _ _ _ _ _ c.settle.ensures.log c.args.child.now c.run_noted-noted.result c.settle.result c.settle.ensures.answer c.run_noted-noted.ensures.ok
    (runs_by _ c.run_noted-noted.result (script_for c.args.self.now.scripts c.args.child.now) _ c.args.child.now _ _ c.run_noted-noted.ensures.ran c.run_noted-noted.ensures.exit)
    c.run_noted-noted.ensures.err)

pub returns-in-Err-Failed-clause-past : goal.returns-in-Err-Failed-clause-past
returns-in-Err-Failed-clause-past c = λ told.
    run_ended c.args.self.now.log c.settle.new.self.log c.args.child.now c.settle.result _ (c.in-Err-Failed.is ∙ ap (λ (stop : CallStop). Err stop) c.in-Err-Failed.field-0-is)
    (settled_run _ _ _ _ _ _ _ _ c.settle.ensures.log c.args.child.now c.run_noted-noted.result c.settle.result c.settle.ensures.answer c.run_noted-noted.ensures.ok
    (runs_by _ c.run_noted-noted.result (script_for c.args.self.now.scripts c.args.child.now) _ c.args.child.now _ _ c.run_noted-noted.ensures.ran c.run_noted-noted.ensures.exit)
    c.run_noted-noted.ensures.err)
