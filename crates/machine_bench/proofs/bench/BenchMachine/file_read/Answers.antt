use Rattle.std.proofs.Common.{◌≡◌, true, List, ℕ, Result, Ok, Err, IfOk, sym, ◌∙◌, ap, subst}
use Rattle.machine.specs.declared.world.World.{World}
use Rattle.machine.specs.declared.calls.CallStop.{CallStop}
use Rattle.undo_log.specs.declared.notes.Whole.{Whole}
use Rattle.undo_log.specs.declared.log.UndoLog.{UndoLog}
use Rattle.machine.specs.World.{file}
use Rattle.machine.specs.Past.{world_now}
use Rattle.machine.specs.Calls.{FileEnds, ReadsFile}
use Rattle.undo_log.specs.Logged.{past_of_log}
use Rattle.undo_log.specs.Whole.{WholeFound}
use Rattle.undo_log.proofs.Undoing.{now-past_of}
use Rattle.machine_bench.proofs.Settling.{reads_whole, settled_file, settled_value, whole_answer}
use Rattle.machine_bench.proofs.bench.BenchMachine.file_read.Goals as goal

-- the same of a result that is known
file_ended : (old last : UndoLog) (path : List ℕ) (result found : Result Whole CallStop) → result ≡ found → FileEnds (past_of_log old) (past_of_log last) path (whole_answer result) → FileEnds (past_of_log old) (past_of_log last) path (whole_answer found)
file_ended old last path result found is h = subst (λ (r : Result Whole CallStop). FileEnds (past_of_log old) (past_of_log last) path (whole_answer r)) is h

file_found : (log : UndoLog) (path : List ℕ) (limit : ℕ) (result found : Result Whole CallStop) → result ≡ found → IfOk result (WholeFound (file log.world path) limit) → ReadsFile true (file (world_now (past_of_log log)) path) limit (whole_answer found)
file_found log path limit result found is h =
    subst (λ (w : World). ReadsFile true (file w path) limit (whole_answer found)) (sym (now-past_of log))
    (subst (λ (r : Result Whole CallStop). ReadsFile true (file log.world path) limit (whole_answer r)) is (reads_whole (file log.world path) limit result h))

pub returns-in-Ok-Bytes-clause-past : goal.returns-in-Ok-Bytes-clause-past
returns-in-Ok-Bytes-clause-past c = λ told.
    file_ended c.args.self.now.log c.settle.new.self.log c.args.path.now c.settle.result _ (c.in-Ok-Bytes.is ∙ ap (λ (w : Whole). Ok w) c.in-Ok-Bytes.field-0-is)
    (settled_file _ _ _ _ _ _ _ _ c.settle.ensures.log c.args.path.now c.file-noted.result c.settle.result c.settle.ensures.answer c.file-noted.ensures.ok c.file-noted.ensures.err)

pub returns-in-Ok-Bytes-clause-answer : goal.returns-in-Ok-Bytes-clause-answer
returns-in-Ok-Bytes-clause-answer c =
    file_found c.args.self.now.log c.args.path.now c.args.limit c.settle.result _ (c.in-Ok-Bytes.is ∙ ap (λ (w : Whole). Ok w) c.in-Ok-Bytes.field-0-is)
    (settled_value _ _ _ _ _ c.file-noted.result c.settle.result (WholeFound (file c.args.self.now.log.world c.args.path.now) c.args.limit) c.settle.ensures.answer c.file-noted.ensures.found)

pub returns-in-Ok-TooLong-clause-past : goal.returns-in-Ok-TooLong-clause-past
returns-in-Ok-TooLong-clause-past c = λ told.
    file_ended c.args.self.now.log c.settle.new.self.log c.args.path.now c.settle.result _ (c.in-Ok-TooLong.is ∙ ap (λ (w : Whole). Ok w) c.in-Ok-TooLong.field-0-is)
    (settled_file _ _ _ _ _ _ _ _ c.settle.ensures.log c.args.path.now c.file-noted.result c.settle.result c.settle.ensures.answer c.file-noted.ensures.ok c.file-noted.ensures.err)

pub returns-in-Ok-TooLong-clause-answer : goal.returns-in-Ok-TooLong-clause-answer
returns-in-Ok-TooLong-clause-answer c =
    file_found c.args.self.now.log c.args.path.now c.args.limit c.settle.result _ (c.in-Ok-TooLong.is ∙ ap (λ (w : Whole). Ok w) c.in-Ok-TooLong.field-0-is)
    (settled_value _ _ _ _ _ c.file-noted.result c.settle.result (WholeFound (file c.args.self.now.log.world c.args.path.now) c.args.limit) c.settle.ensures.answer c.file-noted.ensures.found)

pub returns-in-Err-Failed-clause-past : goal.returns-in-Err-Failed-clause-past
returns-in-Err-Failed-clause-past c = λ told.
    file_ended c.args.self.now.log c.settle.new.self.log c.args.path.now c.settle.result _ (c.in-Err-Failed.is ∙ ap (λ (stop : CallStop). Err stop) c.in-Err-Failed.field-0-is)
    (settled_file _ _ _ _ _ _ _ _ c.settle.ensures.log c.args.path.now c.file-noted.result c.settle.result c.settle.ensures.answer c.file-noted.ensures.ok c.file-noted.ensures.err)
