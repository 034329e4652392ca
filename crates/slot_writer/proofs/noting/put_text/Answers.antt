use Rattle.slot_writer.proofs.Replacing.{steps_put}
use Rattle.slot_writer.proofs.noting.put_text.Goals as goal

pub returns-in-Ok-clause-steps : goal.returns-in-Ok-clause-steps
returns-in-Ok-clause-steps g c =
    steps_put _ _ c.args.path.now c.args.text.now _ _ _ _ c.replace.result c.in-Ok.ensures.checks c.replace.ensures.replaces c.replace.ensures.put c.replace.ensures.none c.replace.ensures.fails
