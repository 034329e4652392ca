use Rattle.std.proofs.Common.{ap}
use Rattle.machine.specs.declared.world.World.{World}
use Rattle.system_conf.specs.Reads.{system_configuration}
use Rattle.slot_writer.specs.Slots.{put_answer}
use Rattle.slot_writer.proofs.Putting.{puts_after, puts_refused}
use Rattle.slot_writer.proofs.write.write_at.Goals as goal

pub returns-in-Ok-clause-put : goal.returns-in-Ok-clause-put
returns-in-Ok-clause-put g c =
    puts_after _ (system_configuration c.args.system.now) c.args.image.now _ _ _ _ _ _ _ c.write_on.result c.in-Ok.ensures.checks
    (λ same. ap (λ (w : World). put_answer (system_configuration c.args.system.now) c.args.at c.args.image.now w) same)
    c.write_on.ensures.put

pub returns-in-Err-clause-put : goal.returns-in-Err-clause-put
returns-in-Err-clause-put g c =
    puts_refused _ (system_configuration c.args.system.now) c.args.image.now _ _ _ _ c.in-Err.stop c.in-Err.ensures.checks
