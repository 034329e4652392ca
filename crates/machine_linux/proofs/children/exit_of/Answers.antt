use Rattle.std.proofs.Common.{refl}
use Rattle.machine_linux.proofs.Fronts.{kept_of}
use Rattle.machine_linux.proofs.children.exit_of.Goals.{then-out, else-out}
use Rattle.machine_linux.proofs.children.exit_of.Goals as goal

pub returns-clause-kept : goal.returns-clause-kept
returns-clause-kept c =
    rw c.from_vec.ensures
    (rw c.from_vec-2.ensures
    (kept_of c.ended_of.result c.args.out.bytes.items c.args.err.bytes.items c.args.out.cut c.args.err.cut c.if-out.result c.args.out.is_front c.args.err.is_front
    (elim c.if-out.branch [
      | then-out w ↦ rw w.result-is (rw w.if-out.true refl)
      | else-out w ↦ rw w.result-is (rw w.if-out.false refl)
    ])))
