use Rattle.system_conf.specs.Reads.{system_configuration}
use Rattle.install_facts.specs.Facts.{facts_content}
use Rattle.install_steps.proofs.DoneSteps.{does_bad, does_primary}
use Rattle.install_steps.proofs.doing.do_step.Goals as goal

pub returns-in-Bad-clause-does : goal.returns-in-Bad-clause-does
returns-in-Bad-clause-does g c =
    does_bad _ (system_configuration c.args.system.now) (facts_content c.args.facts.now) c.in-Bad.root _ _ c.args.step.now c.mark_root_bad.result c.without_image-in-Bad.result c.without_image-in-Bad.ensures c.in-Bad.is c.mark_root_bad.ensures.marks c.mark_root_bad.ensures.down

pub returns-in-Primary-clause-does : goal.returns-in-Primary-clause-does
returns-in-Primary-clause-does g c =
    does_primary _ (system_configuration c.args.system.now) (facts_content c.args.facts.now) c.in-Primary.root _ _ c.args.step.now c.make_root_primary.result c.without_image-in-Primary.result c.without_image-in-Primary.ensures c.in-Primary.is c.make_root_primary.ensures.marks
