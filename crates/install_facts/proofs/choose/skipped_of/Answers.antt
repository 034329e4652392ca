use Rattle.std.proofs.lemmas.Option.{slice_get-get_or}
use Rattle.install_facts.proofs.choose.skipped_of.Goals as goal

pub is_skipped-requires : goal.is_skipped-requires
is_skipped-requires c = c.requires.slots c.loop-job.job-index _ (slice_get-get_or c.args.jobs.now c.loop-job.job-index _ c.loop-job-test.true)
