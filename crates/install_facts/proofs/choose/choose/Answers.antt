use Rattle.std.proofs.Common.{◌∙◌}
use Rattle.machine.proofs.Failing.{fails_join}
use Rattle.machine.proofs.Joins.{now_unchanged, unchanged_join}
use Rattle.manifest.specs.Reads.{image_contents}
use Rattle.system_conf.specs.Reads.{system_configuration}
use Rattle.install_facts.specs.Facts.{known_content}
use Rattle.install_facts.proofs.Choosing.{has_places, timed_after}
use Rattle.install_facts.proofs.Failing.{then_in}
use Rattle.install_facts.proofs.choose.choose.Goals as goal

pub choose_time-requires : goal.choose_time-requires
choose_time-requires g c =
    has_places c.args.system.now.slots _ (image_contents c.args.known.now.manifest.images) c.in-Ok-jobs_for.jobs _ c.requires c.in-Ok-jobs_for.ensures.placed

pub returns-in-Ok-jobs_for-clause-unchanged : goal.returns-in-Ok-jobs_for-clause-unchanged
returns-in-Ok-jobs_for-clause-unchanged g c = unchanged_join _ _ _ _ c.in-Ok-jobs_for.ensures.looks.unchanged c.choose_time.ensures.unchanged

pub returns-in-Ok-jobs_for-clause-answers : goal.returns-in-Ok-jobs_for-clause-answers
returns-in-Ok-jobs_for-clause-answers g c = λ told.
    timed_after (system_configuration c.args.system.now) (known_content c.args.known.now) c.in-Ok-jobs_for.jobs _ (g.M.Machine.past c.jobs_for.new.m) (g.M.Machine.past c.choose_time.new.m) c.choose_time.result
    (c.in-Ok-jobs_for.ensures.looks.fails.grows told) (c.choose_time.ensures.fails.grows told) (c.in-Ok-jobs_for.ensures.silent told)
    (now_unchanged _ _ _ c.choose_time.ensures.unchanged told ∙ now_unchanged _ _ _ c.in-Ok-jobs_for.ensures.looks.unchanged told)
    (c.in-Ok-jobs_for.ensures.looks.answers told) (c.choose_time.ensures.answers told)

pub returns-in-Ok-jobs_for-clause-fails : goal.returns-in-Ok-jobs_for-clause-fails
returns-in-Ok-jobs_for-clause-fails g c = fails_join _ _ _ _ _ c.in-Ok-jobs_for.ensures.looks.fails c.choose_time.ensures.fails

pub returns-in-Ok-jobs_for-clause-failing : goal.returns-in-Ok-jobs_for-clause-failing
returns-in-Ok-jobs_for-clause-failing g c = then_in _ _ _ _ _ _ c.in-Ok-jobs_for.ensures.looks.fails c.choose_time.ensures.fails c.choose_time.ensures.failing
