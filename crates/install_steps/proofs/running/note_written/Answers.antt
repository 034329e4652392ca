use Rattle.install_steps.proofs.EndsNoted.{written_nowhere, written_there}
use Rattle.install_steps.proofs.running.note_written.Goals as goal

pub returns-then-job-ends : goal.returns-then-job-ends
returns-then-job-ends c = written_there c.args.step.now c.in-Put.job c.in-Put.put c.args.written c.args.ends.now c.in-Put.is _

pub returns-else-job-ends : goal.returns-else-job-ends
returns-else-job-ends c = written_nowhere c.args.step.now c.in-Put.job c.in-Put.put c.args.written c.args.ends.now c.in-Put.is c.if-job-ends.false
