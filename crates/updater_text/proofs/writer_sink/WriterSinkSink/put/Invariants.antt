use Rattle.std.proofs.Common.{length, ◌-◌, ◌≤◌, take, true}
use Rattle.updater_text.specs.Sinks.{Put}
use Rattle.updater_text.proofs.writer_sink.WriterSinkSink.put.Given as goal

abbrev pub invariant-loop-done : goal.invariant-loop-done
invariant-loop-done g l = record {
  within : l.done ≤ length l.bytes;
  so_far : Put (record { told = g.W.Write.contents l.fn.self.writer; faults = l.fn.self.faults }) (record { told = g.W.Write.contents l.self.writer; faults = l.self.faults }) (take l.done l.bytes) true;
}

abbrev pub decreases-loop-done : goal.decreases-loop-done
decreases-loop-done g l = length l.bytes - l.done
