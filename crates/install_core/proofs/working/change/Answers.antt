use Rattle.system_conf.specs.Reads.{system_configuration}
use Rattle.install_facts.specs.Facts.{facts_content}
use Rattle.install_core.proofs.Packed.{changes_if}
use Rattle.install_core.proofs.working.change.Goals as goal

pub returns-in-Ok-clause-changes : goal.returns-in-Ok-clause-changes
returns-in-Ok-clause-changes g c =
    changes_if _ (system_configuration c.args.system.now) (facts_content c.args.facts.now) _ _ _ _ _ c.do_prepared-done.result c.installed.result c.do_prepared-done.ensures.runs c.installed.ensures
