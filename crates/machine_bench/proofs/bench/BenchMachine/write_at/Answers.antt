use Rattle.std.proofs.Common.{◌≡◌, ◌+◌, length, IfOk, refl, sym, subst}
use Rattle.machine.specs.declared.world.World.{World}
use Rattle.undo_log.specs.declared.log.UndoLog.{UndoLog}
use Rattle.machine.specs.World.{HoldsUpTo, with_write}
use Rattle.machine.specs.Past.{Write, world_now}
use Rattle.undo_log.specs.Logged.{past_of_log}
use Rattle.undo_log.proofs.Undoing.{now-past_of}
use Rattle.machine_bench.proofs.Settling.{settled_ends, settled_value}
use Rattle.machine_bench.proofs.bench.BenchMachine.write_at.Goals as goal

pub write_noted-noted-requires-clause-room : goal.write_noted-noted-requires-clause-room
write_noted-noted-requires-clause-room c =
    subst (λ (w : World). HoldsUpTo w c.args.path.now (c.args.at + length c.args.from.now)) (now-past_of c.args.self.now.log) (c.requires.room refl)

pub returns-clause-past : goal.returns-clause-past
returns-clause-past c = λ told.
    settled_ends _ _ _ _ _ _ _ _ c.settle.ensures.log (Write c.args.path.now c.args.at (length c.args.from.now)) c.write_noted-noted.result c.settle.result c.settle.ensures.answer c.write_noted-noted.ensures.ok c.write_noted-noted.ensures.err

pub returns-clause-answer : goal.returns-clause-answer
returns-clause-answer c = λ told.
    subst (λ (log : UndoLog). IfOk c.settle.result (λ _. world_now (past_of_log log) ≡ with_write (world_now (past_of_log c.args.self.now.log)) c.args.path.now c.args.at c.args.from.now)) (sym c.settle.ensures.log)
    (subst (λ (w : World). IfOk c.settle.result (λ _. w ≡ with_write (world_now (past_of_log c.args.self.now.log)) c.args.path.now c.args.at c.args.from.now)) (sym (now-past_of c.write_noted-noted.new.self.log))
    (subst (λ (w : World). IfOk c.settle.result (λ _. c.write_noted-noted.new.self.log.world ≡ with_write w c.args.path.now c.args.at c.args.from.now)) (sym (now-past_of c.args.self.now.log))
    (settled_value _ _ _ _ _ c.write_noted-noted.result c.settle.result (λ _. c.write_noted-noted.new.self.log.world ≡ with_write c.args.self.now.log.world c.args.path.now c.args.at c.args.from.now) c.settle.ensures.answer c.write_noted-noted.ensures.left)))
