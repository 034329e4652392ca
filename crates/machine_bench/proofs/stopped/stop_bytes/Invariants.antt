use Rattle.std.proofs.Common.{◌≡◌, ◌<◌, ◌≤◌, ℕ}
use Rattle.std.specs.Prelude.{slice_index}
use Rattle.machine_bench.specs.Stopped.{byte_after_stop}
use Rattle.machine_bench.proofs.stopped.stop_bytes.Given as goal

abbrev pub invariant-loop-at : goal.invariant-loop-at
invariant-loop-at l = record {
  done : (k : ℕ) → k < l.at → slice_index l.bytes k ≡ byte_after_stop l.pick l.spans l.path k (slice_index l.initial.bytes k);
  rest : (k : ℕ) → l.at ≤ k → slice_index l.bytes k ≡ slice_index l.initial.bytes k;
}
