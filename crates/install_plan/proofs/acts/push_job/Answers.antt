use Rattle.std.proofs.Common.{sym}
use Rattle.system_conf.specs.Reads.{system_configuration}
use Rattle.install_facts.specs.Facts.{facts_content}
use Rattle.install_plan.specs.Works.{work_content}
use Rattle.install_plan.proofs.Shape.{hook_file_there, work_stands}
use Rattle.install_plan.proofs.acts.push_job.Goals as goal

pub push_unless_skipped-requires : goal.push_unless_skipped-requires
push_unless_skipped-requires c =
    hook_file_there (system_configuration c.args.system.now) c.args.facts.now c.args.at c.in-Some.work c.args.facts.now.manifest.hooked (sym c.in-Some.ensures)

pub push_work_note-requires : goal.push_work_note-requires
push_work_note-requires c =
    (work_stands (system_configuration c.args.system.now) (facts_content c.args.facts.now) c.args.at (work_content c.in-Some.work) (sym c.in-Some.ensures)).within
