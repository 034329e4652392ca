use Rattle.std.proofs.Common.{Ok, Err, length, arith}
use Rattle.machine.specs.declared.stops.Fault.TheVariants as Fault
use Rattle.machine.specs.Past.{Write}
use Rattle.machine.proofs.Failing.{fails_call, fails_join}
use Rattle.raw_writer.proofs.Pieces.{once_write, piece_copied, piece_cut, piece_room, piece_writes}
use Rattle.raw_writer.proofs.Stopping.{whole_stop_fault}
use Rattle.raw_writer.proofs.whole.copy_piece.Goals as goal

pub write_at-requires : goal.write_at-requires
write_at-requires g c =
    piece_room _ _ _ _ _ (length c.fill.new.into) _ c.fill.auto.into c.fill.ensures.reads c.requires.fits

pub returns-in-Ok-write_at-clause-writes : goal.returns-in-Ok-write_at-clause-writes
returns-in-Ok-write_at-clause-writes g c =
    piece_writes {T = Unit {0}} _ _ _ _ c.args.device.now c.args.at (length c.fill.new.into) _ (Ok tt) c.fill.auto.into c.fill.ensures.reads c.requires.fits c.in-Ok-write_at.ensures.past

pub returns-in-Err-write_at-clause-writes : goal.returns-in-Err-write_at-clause-writes
returns-in-Err-write_at-clause-writes g c =
    piece_writes {T = Unit {0}} _ _ _ _ c.args.device.now c.args.at (length c.fill.new.into) _ (Err c.in-Err-write_at.stop) c.fill.auto.into c.fill.ensures.reads c.requires.fits c.in-Err-write_at.ensures.past

pub returns-in-Ok-write_at-clause-once : goal.returns-in-Ok-write_at-clause-once
returns-in-Ok-write_at-clause-once g c =
    once_write {T = Unit {0}} _ _ _ _ c.args.device.now c.args.at (length c.fill.new.into) _ (Ok tt) c.fill.auto.into c.fill.ensures.reads c.in-Ok-write_at.ensures.past

pub returns-in-Err-write_at-clause-once : goal.returns-in-Err-write_at-clause-once
returns-in-Err-write_at-clause-once g c =
    once_write {T = Unit {0}} _ _ _ _ c.args.device.now c.args.at (length c.fill.new.into) _ (Err c.in-Err-write_at.stop) c.fill.auto.into c.fill.ensures.reads c.in-Err-write_at.ensures.past

pub returns-in-Ok-write_at-clause-fails : goal.returns-in-Ok-write_at-clause-fails
returns-in-Ok-write_at-clause-fails g c =
    fails_join _ _ _ _ _ c.in-Ok.ensures.fails (fails_call {T = Unit {0}} _ _ _ (Write c.args.device.now c.args.at (length c.fill.new.into)) (Ok tt) c.in-Ok-write_at.ensures.past)

pub returns-in-Err-write_at-clause-fails : goal.returns-in-Err-write_at-clause-fails
returns-in-Err-write_at-clause-fails g c =
    rw (c.whole_stop-in-Err-write_at.ensures, whole_stop_fault (Unit {0}) (Unit {0}) c.in-Err-write_at.stop Fault.Write)
    (fails_join _ _ _ _ _ c.in-Ok.ensures.fails (fails_call {T = Unit {0}} _ _ _ (Write c.args.device.now c.args.at (length c.fill.new.into)) (Err c.in-Err-write_at.stop) c.in-Err-write_at.ensures.past))

pub returns-then-found-piece-clause-ends : goal.returns-then-found-piece-clause-ends
returns-then-found-piece-clause-ends g c = λ told.
    piece_cut _ _ _ _ c.in-Ok.found c.fill.new.into c.if-found-piece.true (c.in-Ok.ensures.answer.took.bytes told) (c.in-Ok.ensures.answer.full told (omega (arith, c.if-found-piece.true, c.fill.auto.into))) (c.in-Ok.ensures.left told)

pub returns-in-Ok-write_at-clause-ends : goal.returns-in-Ok-write_at-clause-ends
returns-in-Ok-write_at-clause-ends g c = λ told.
    piece_copied _ _ _ _ _ _ c.in-Ok.found c.fill.new.into (omega (arith, c.requires.some, c.fill.auto.into)) (omega (arith, c.if-found-piece.false, c.in-Ok.ensures.answer.took.within, c.fill.auto.into)) (c.in-Ok.ensures.answer.took.bytes told) (c.in-Ok.ensures.left told) (c.in-Ok-write_at.ensures.answer told)
