use Rattle.std.proofs.Common.{ℕ, ◌-◌, ◌*◌, ◌≡◌, ◌<◌, ◌≤◌, length, take, IsTrue, None}
use Rattle.sha2.specs.Hashers.{Holds256}
use Rattle.machine.specs.World.{readable}
use Rattle.machine.specs.Past.{Fails, world_now}
use Rattle.machine.specs.Frames.{ChangesOnly}
use Rattle.raw_writer.specs.Whole.{pieces, CopiesInOrder, WritesInOrder}
use Rattle.raw_writer.proofs.Copied.{CopiedSoFar}
use Rattle.raw_writer.proofs.whole.write_whole.Given as goal

abbrev pub invariant-loop-done : goal.invariant-loop-done
invariant-loop-done g l =
    let past = g.M.Machine.past in
    record {
      within : l.done ≤ l.size;
      room : l.room ≡ length l.buffer;
      as_long : length l.buffer ≡ length l.fn.buffer;
      even : l.done < l.size → (k : ℕ) × (l.done ≡ k * length l.fn.buffer);
      faults : g.M.Machine.faults l.fn.m ≤ g.M.Machine.faults l.m;
      wants : g.M.Machine.wants l.fn.m ≤ g.M.Machine.wants l.m;
      fails : Fails g.M.Machine.tells (past l.fn.m) (past l.m) None;
      order : WritesInOrder g.M.Machine.tells (pieces l.device (length l.fn.buffer) l.size) (past l.fn.m) (past l.m);
      copies : CopiesInOrder g.M.Machine.tells l.image l.device (length l.fn.buffer) l.size (past l.fn.m) (past l.m);
      writes : ChangesOnly g.M.Machine.tells l.device 0 l.size (past l.fn.m) (past l.m);
      told : IsTrue g.M.Machine.tells → CopiedSoFar l.image l.device (length l.fn.buffer) l.done (world_now (past l.fn.m)) (world_now (past l.m));
      message : IsTrue g.M.Machine.tells → Holds256 l.hasher (take l.done (readable (world_now (past l.fn.m)) l.image));
    }

abbrev pub decreases-loop-done : goal.decreases-loop-done
decreases-loop-done g l = l.size - l.done
