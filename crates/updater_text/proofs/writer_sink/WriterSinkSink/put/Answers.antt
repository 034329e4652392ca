use Rattle.std.proofs.Common.{◌≡◌, ◌-◌, length, take, drop, arith}
use Rattle.std.proofs.lemmas.List.{length-drop, take_all}
use Rattle.updater_text.proofs.Puts.{writes_more, writes_stop, writes_stop_none}
use Rattle.updater_text.proofs.writer_sink.WriterSinkSink.put.Goals as goal

pub returns-then-count-eq0 : goal.returns-then-count-eq0
returns-then-count-eq0 g c =
    let all : take (length c.args.bytes.now - c.loop-done.done) (drop c.loop-done.done c.args.bytes.now) ≡ drop c.loop-done.done c.args.bytes.now = take_all _ _ (omega (arith, length-drop c.loop-done.done c.args.bytes.now)) in
    rw c.fail.ensures.writer
    (writes_stop_none _ _ _ _ _ _ c.in-Ok.count _ c.loop-done.invariant.so_far (rw all at c.in-Ok.ensures.bytes) c.if-count-eq0.true c.fail.ensures.faults)

pub loop-done-preserved : goal.loop-done-preserved
loop-done-preserved g c =
    let all : take (length c.args.bytes.now - c.loop-done.done) (drop c.loop-done.done c.args.bytes.now) ≡ drop c.loop-done.done c.args.bytes.now = take_all _ _ (omega (arith, length-drop c.loop-done.done c.args.bytes.now)) in
    record {
      within = omega (arith, length-drop c.loop-done.done c.args.bytes.now, rw all at c.in-Ok.ensures.bound);
      so_far = writes_more _ _ _ _ _ _ _ c.loop-done.invariant.so_far (rw all at c.in-Ok.ensures.bytes);
    }

pub returns-in-Err : goal.returns-in-Err
returns-in-Err g c =
    rw c.fail-in-Err.ensures.writer
    (writes_stop _ _ _ _ _ _ _ c.loop-done.invariant.so_far c.in-Err.ensures.bytes c.fail-in-Err.ensures.faults)
