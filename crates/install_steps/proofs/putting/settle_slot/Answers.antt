use Rattle.system_conf.specs.Reads.{system_configuration}
use Rattle.install_steps.proofs.SlotsSettled.{settles_done}
use Rattle.install_steps.proofs.putting.settle_slot.Goals as goal

pub returns-in-Ok-clause-settles : goal.returns-in-Ok-clause-settles
returns-in-Ok-clause-settles g c =
    settles_done _ (system_configuration c.args.system.now) c.args.slot c.as_slice.result.now c.index-as_slice-slot.result c.as_str-device.result.now _ _ c.requires c.as_slice.ensures c.index-as_slice-slot.is c.as_str-device.ensures c.in-Ok.ensures.past
