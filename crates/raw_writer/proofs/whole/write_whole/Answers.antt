use Rattle.std.proofs.Common.{◌≡◌, ◌<◌, ◌≤◌, ◌++◌, ◌+◌, ◌-◌, ℕ, List, Ok, Err, refl, length, drop, ◌∙◌, subst, sym, arith, length-append}
use Rattle.std.specs.Prelude.{min}
use Rattle.std.proofs.lemmas.List.{length-take-le, length-drop}
use Rattle.sha2.specs.Hashers.{Holds256}
use Rattle.machine.specs.declared.stops.Fault.TheVariants as Fault
use Rattle.updater_text.specs.declared.digest.Digest.{Digest}
use Rattle.machine.specs.Past.{Sync, world_now}
use Rattle.machine.specs.Frames.{DiffersOnlyIn}
use Rattle.machine.proofs.Moments.{always_now}
use Rattle.machine.proofs.Failing.{fails_call, fails_join, fails_none}
use Rattle.machine.proofs.Joins.{reads_none}
use Rattle.machine.proofs.Only.{held_writes, room_less, room_writes, writes_join, writes_none, writes_sync, writes_wider}
use Rattle.raw_writer.proofs.Copied.{copied_none, copied_step, message_step, next_even, short_more, whole_written}
use Rattle.raw_writer.proofs.Order.{copies_none, copies_step, copies_sync, order_none, order_step, order_sync}
use Rattle.raw_writer.proofs.Stopping.{whole_stop_fault}
use Rattle.raw_writer.proofs.whole.write_whole.Goals as goal

pub loop-done-init : goal.loop-done-init
loop-done-init g c = record {
  within = omega arith;
  room = refl;
  as_long = refl;
  even = λ lt. (0, omega arith);
  faults = omega arith;
  wants = omega arith;
  fails = fails_none _ _;
  order = order_none _ _ _;
  copies = copies_none _ _ _ _ _ _ c.requires.buffer c.requires.fits;
  writes = writes_none _ _ _ _ _ _ (reads_none _ _);
  told = λ told. copied_none _ _ _ _ _ c.requires.buffer (c.requires.fits.room told);
  message = λ told. c.new-hasher.ensures;
}

pub copy_piece-requires-clause-fits : goal.copy_piece-requires-clause-fits
copy_piece-requires-clause-fits g c =
    let small : c.min-want.result ≤ length c.loop-done.buffer = omega (arith, c.min-want.ensures, c.loop-done.invariant.room) in
    room_less _ _ _ c.args.size _ (omega (arith, c.min-want.ensures, length-take-le c.min-want.result c.loop-done.buffer small)) (room_writes _ _ _ _ _ _ _ _ c.loop-done.invariant.writes c.requires.fits)

pub returns-in-Err-clause-writes : goal.returns-in-Err-clause-writes
returns-in-Err-clause-writes g c =
    let small : c.min-want.result ≤ length c.loop-done.buffer = omega (arith, c.min-want.ensures, c.loop-done.invariant.room) in
    let le : c.loop-done.done + c.min-want.result ≤ c.args.size = omega (arith, c.min-want.ensures) in
    writes_join _ _ _ _ _ _ _ c.loop-done.invariant.writes (writes_wider _ _ _ _ _ _ _ _ (omega arith) le (rw (length-take-le c.min-want.result c.loop-done.buffer small) at c.copy_piece.ensures.writes))

pub returns-in-Err-clause-order : goal.returns-in-Err-clause-order
returns-in-Err-clause-order g c =
    let small : c.min-want.result ≤ length c.loop-done.buffer = omega (arith, c.min-want.ensures, c.loop-done.invariant.room) in
    let some : 0 < c.min-want.result = omega (arith, c.min-want.ensures, c.loop-done.invariant.room, c.loop-done.invariant.as_long, c.requires.buffer, c.loop-done-test.true) in
    let even = c.loop-done.invariant.even c.loop-done-test.true in
    let least : c.min-want.result ≡ min (length c.args.buffer.now) (c.args.size - c.loop-done.done) = omega (arith, c.min-want.ensures, c.loop-done.invariant.room, c.loop-done.invariant.as_long) in
    let once = rw (length-take-le c.min-want.result c.loop-done.buffer small) at c.copy_piece.ensures.once in
    order_step _ _ _ _ c.args.image.now c.args.device.now (length c.args.buffer.now) c.args.size even.0 _ _ even.1 some least c.requires.fits c.loop-done.invariant.told once c.loop-done.invariant.order

pub returns-in-Err-clause-copies : goal.returns-in-Err-clause-copies
returns-in-Err-clause-copies g c =
    let small : c.min-want.result ≤ length c.loop-done.buffer = omega (arith, c.min-want.ensures, c.loop-done.invariant.room) in
    let some : 0 < c.min-want.result = omega (arith, c.min-want.ensures, c.loop-done.invariant.room, c.loop-done.invariant.as_long, c.requires.buffer, c.loop-done-test.true) in
    let even = c.loop-done.invariant.even c.loop-done-test.true in
    let least : c.min-want.result ≡ min (length c.args.buffer.now) (c.args.size - c.loop-done.done) = omega (arith, c.min-want.ensures, c.loop-done.invariant.room, c.loop-done.invariant.as_long) in
    let once = rw (length-take-le c.min-want.result c.loop-done.buffer small) at c.copy_piece.ensures.once in
    copies_step _ _ _ _ c.args.image.now c.args.device.now (length c.args.buffer.now) c.args.size even.0 _ _ even.1 some least c.requires.fits c.loop-done.invariant.told once c.loop-done.invariant.copies

pub returns-in-Err-clause-ends : goal.returns-in-Err-clause-ends
returns-in-Err-clause-ends g c = λ told.
    let small : c.min-want.result ≤ length c.loop-done.buffer = omega (arith, c.min-want.ensures, c.loop-done.invariant.room) in
    let n = c.copy_piece.auto.piece ∙ length-take-le c.min-want.result c.loop-done.buffer small in
    let even = c.loop-done.invariant.even c.loop-done-test.true in
    short_more _ _ (world_now (g.M.Machine.past c.copy_piece.new.m)) _ _ (length c.args.buffer.now) c.args.size even.0 c.loop-done.done c.min-want.result c.copy_piece.new.piece c.in-Err.stop (c.requires.fits.room told) even.1 (omega (arith, small, c.loop-done.invariant.as_long)) n (omega (arith, c.min-want.ensures))
    (always_now _ _ (DiffersOnlyIn c.args.device.now 0 c.args.size (world_now (g.M.Machine.past c.args.m.now))) (c.loop-done.invariant.writes.all told))
    (always_now _ _ (DiffersOnlyIn c.args.device.now 0 c.args.size (world_now (g.M.Machine.past c.args.m.now))) ((returns-in-Err-clause-writes g c).all told))
    (c.loop-done.invariant.told told) (c.in-Err.ensures.ends told)

pub returns-in-Err-clause-fails : goal.returns-in-Err-clause-fails
returns-in-Err-clause-fails g c = fails_join _ _ _ _ _ c.loop-done.invariant.fails c.in-Err.ensures.fails

pub loop-done-preserved : goal.loop-done-preserved
loop-done-preserved g c =
    let small : c.min-want.result ≤ length c.loop-done.buffer = omega (arith, c.min-want.ensures, c.loop-done.invariant.room) in
    let le : c.loop-done.done + c.min-want.result ≤ c.args.size = omega (arith, c.min-want.ensures) in
    let n : length c.copy_piece.new.piece ≡ c.min-want.result = c.copy_piece.auto.piece ∙ length-take-le c.min-want.result c.loop-done.buffer small in
    let whole : length (c.copy_piece.new.piece ++ drop c.min-want.result c.loop-done.buffer) ≡ length c.loop-done.buffer = omega (arith, n, small, length-append c.copy_piece.new.piece (drop c.min-want.result c.loop-done.buffer), length-drop c.min-want.result c.loop-done.buffer) in
    let some : 0 < c.min-want.result = omega (arith, c.min-want.ensures, c.loop-done.invariant.room, c.loop-done.invariant.as_long, c.requires.buffer, c.loop-done-test.true) in
    let piece : c.min-want.result ≤ length c.args.buffer.now = omega (arith, small, c.loop-done.invariant.as_long) in
    let even = c.loop-done.invariant.even c.loop-done-test.true in
    let least : c.min-want.result ≡ min (length c.args.buffer.now) (c.args.size - c.loop-done.done) = omega (arith, c.min-want.ensures, c.loop-done.invariant.room, c.loop-done.invariant.as_long) in
    let once = rw (length-take-le c.min-want.result c.loop-done.buffer small) at c.copy_piece.ensures.once in
    record {
      within = le;
      room = c.loop-done.invariant.room ∙ sym whole;
      as_long = whole ∙ c.loop-done.invariant.as_long;
      even = next_even c.args.size c.loop-done.done (length c.args.buffer.now) c.min-want.result least even;
      faults = omega (arith, c.in-Ok.ensures.counts);
      wants = omega (arith, c.in-Ok.ensures.counts);
      fails = fails_join _ _ _ _ _ c.loop-done.invariant.fails c.in-Ok.ensures.fails;
      order = order_step _ _ _ _ c.args.image.now c.args.device.now (length c.args.buffer.now) c.args.size even.0 _ _ even.1 some least c.requires.fits c.loop-done.invariant.told once c.loop-done.invariant.order;
      copies = copies_step _ _ _ _ c.args.image.now c.args.device.now (length c.args.buffer.now) c.args.size even.0 _ _ even.1 some least c.requires.fits c.loop-done.invariant.told once c.loop-done.invariant.copies;
      writes = writes_join _ _ _ _ _ _ _ c.loop-done.invariant.writes (writes_wider _ _ _ _ _ _ _ _ (omega arith) le (rw (length-take-le c.min-want.result c.loop-done.buffer small) at c.copy_piece.ensures.writes));
      told = λ told. copied_step _ _ _ _ _ (length c.args.buffer.now) c.args.size even.0 _ _ _ even.1 (c.requires.fits.room told) some piece n le (always_now _ _ _ (c.loop-done.invariant.writes.all told)) (c.loop-done.invariant.told told) (c.in-Ok.ensures.ends told);
      message = λ told.
          subst (λ (m : List ℕ). Holds256 c.update.new.self m)
          (message_step _ _ _ _ _ (length c.args.buffer.now) c.args.size even.0 _ _ _ even.1 (c.requires.fits.room told) some piece n le (always_now _ _ _ (c.loop-done.invariant.writes.all told)) (c.loop-done.invariant.told told) (c.in-Ok.ensures.ends told))
          (c.update.ensures _ (c.loop-done.invariant.message told));
    }

pub returns-in-Ok-sync-clause-writes : goal.returns-in-Ok-sync-clause-writes
returns-in-Ok-sync-clause-writes g c =
    writes_join _ _ _ _ _ _ _ c.loop-done.invariant.writes (writes_sync {T = Unit {0}} _ _ _ c.args.device.now 0 c.args.size (Ok tt) c.in-Ok-sync.ensures.past)

pub returns-in-Ok-sync-clause-ends : goal.returns-in-Ok-sync-clause-ends
returns-in-Ok-sync-clause-ends g c = λ told.
    whole_written _ _ _ _ _ _ _ _ _ (omega (arith, c.loop-done.invariant.within)) (c.loop-done.invariant.told told)
    (always_now _ _ _ ((returns-in-Ok-sync-clause-writes g c).all told)) (c.in-Ok-sync.ensures.past told).after (c.finalize.ensures _ (c.loop-done.invariant.message told))

pub returns-in-Ok-sync-clause-order : goal.returns-in-Ok-sync-clause-order
returns-in-Ok-sync-clause-order g c =
    order_sync {T = Unit {0}} _ _ _ _ _ c.args.device.now (Ok tt) c.loop-done.invariant.order c.in-Ok-sync.ensures.past

pub returns-in-Ok-sync-clause-copies : goal.returns-in-Ok-sync-clause-copies
returns-in-Ok-sync-clause-copies g c =
    copies_sync {T = Unit {0}} _ _ c.args.device.now _ _ _ _ _ (Ok tt) c.loop-done.invariant.copies c.in-Ok-sync.ensures.past

pub returns-in-Ok-sync-clause-fails : goal.returns-in-Ok-sync-clause-fails
returns-in-Ok-sync-clause-fails g c =
    fails_join _ _ _ _ _ c.loop-done.invariant.fails (fails_call {T = Unit {0}} _ _ _ (Sync c.args.device.now) (Ok tt) c.in-Ok-sync.ensures.past)

pub returns-in-Err-sync-clause-writes : goal.returns-in-Err-sync-clause-writes
returns-in-Err-sync-clause-writes g c =
    writes_join _ _ _ _ _ _ _ c.loop-done.invariant.writes (writes_sync {T = Unit {0}} _ _ _ c.args.device.now 0 c.args.size (Err c.in-Err-sync.stop) c.in-Err-sync.ensures.past)

pub returns-in-Err-sync-clause-order : goal.returns-in-Err-sync-clause-order
returns-in-Err-sync-clause-order g c =
    order_sync {T = Unit {0}} _ _ _ _ _ c.args.device.now (Err c.in-Err-sync.stop) c.loop-done.invariant.order c.in-Err-sync.ensures.past

pub returns-in-Err-sync-clause-copies : goal.returns-in-Err-sync-clause-copies
returns-in-Err-sync-clause-copies g c =
    copies_sync {T = Unit {0}} _ _ c.args.device.now _ _ _ _ _ (Err c.in-Err-sync.stop) c.loop-done.invariant.copies c.in-Err-sync.ensures.past

pub returns-in-Err-sync-clause-fails : goal.returns-in-Err-sync-clause-fails
returns-in-Err-sync-clause-fails g c =
    rw (c.whole_stop.ensures, whole_stop_fault (Unit {0}) Digest c.in-Err-sync.stop Fault.Sync)
    (fails_join _ _ _ _ _ c.loop-done.invariant.fails (fails_call {T = Unit {0}} _ _ _ (Sync c.args.device.now) (Err c.in-Err-sync.stop) c.in-Err-sync.ensures.past))

pub returns-in-Err-clause-held : goal.returns-in-Err-clause-held
returns-in-Err-clause-held g c = held_writes _ _ _ _ _ _ (returns-in-Err-clause-writes g c)

pub returns-in-Ok-sync-clause-held : goal.returns-in-Ok-sync-clause-held
returns-in-Ok-sync-clause-held g c = held_writes _ _ _ _ _ _ (returns-in-Ok-sync-clause-writes g c)

pub returns-in-Err-sync-clause-held : goal.returns-in-Err-sync-clause-held
returns-in-Err-sync-clause-held g c = held_writes _ _ _ _ _ _ (returns-in-Err-sync-clause-writes g c)
