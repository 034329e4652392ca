use Rattle.std.proofs.Common.{◌∙◌}
use Rattle.boot_backends.proofs.Callers.{primary_cause, primary_told}
use Rattle.boot_backends.proofs.reading.primary.Goals as goal

pub slot_in-requires : goal.slot_in-requires
slot_in-requires g c = c.deref.ensures.value ∙ c.in_ok-names.ensures

pub returns-clause-tells : goal.returns-clause-tells
returns-clause-tells g c = λ told.
    primary_told c.args.system.now.boot c.args.system.now.slots _ _ c.in_ok-read.read c.slot_in.result
    c.slot_in.ensures (c.in_ok-read.ensures.tells told)

pub returns-clause-causes : goal.returns-clause-causes
returns-clause-causes g c = λ told.
    primary_cause c.args.system.now.boot c.args.system.now.slots _ c.in_ok-read.read c.slot_in.result
    c.slot_in.ensures (c.in_ok-read.ensures.causes told)
