use Rattle.std.proofs.Common.{refl}
use Rattle.rauc_cli.proofs.Behind.{ran_quiet}
use Rattle.rauc_cli.proofs.run.run_command.Goals as goal

pub returns-in-WriteSlot-clause-runs : goal.returns-in-WriteSlot-clause-runs
returns-in-WriteSlot-clause-runs g c =
    rw c.in-WriteSlot.is (ran_quiet _ _ _ _ _ _ _ c.run_write_slot.result c.quiet.result c.quiet.ensures refl (rw (c.as_str-in-WriteSlot.ensures, c.as_str-in-WriteSlot-2.ensures) at c.run_write_slot.ensures.ended) (rw (c.as_str-in-WriteSlot.ensures, c.as_str-in-WriteSlot-2.ensures) at c.run_write_slot.ensures.texts))

pub returns-in-Info-clause-runs : goal.returns-in-Info-clause-runs
returns-in-Info-clause-runs g c =
    rw c.in-Info.is (ran_quiet _ _ _ _ _ _ _ c.run_info.result c.quiet-in-Info.result c.quiet-in-Info.ensures refl (rw c.as_str-in-Info.ensures at c.run_info.ensures.ended) c.run_info.ensures.texts)

pub returns-in-Status-clause-runs : goal.returns-in-Status-clause-runs
returns-in-Status-clause-runs g c =
    rw c.in-Status.is (ran_quiet _ _ _ _ _ _ _ c.run_status.result c.quiet-in-Status.result c.quiet-in-Status.ensures refl c.run_status.ensures.ended c.run_status.ensures.texts)

pub returns-in-Mark-clause-runs : goal.returns-in-Mark-clause-runs
returns-in-Mark-clause-runs g c =
    rw c.in-Mark.is (ran_quiet _ _ _ _ _ _ _ c.run_mark.result c.quiet-in-Mark.result c.quiet-in-Mark.ensures refl (rw c.slot_word.ensures at c.run_mark.ensures.ended) (rw c.slot_word.ensures at c.run_mark.ensures.texts))
