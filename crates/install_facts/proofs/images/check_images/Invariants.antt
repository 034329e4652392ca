use Rattle.std.proofs.Common.{◌≡◌, ◌≤◌, IsTrue, None, take}
use Rattle.conf_forms.specs.Lists.{first_of}
use Rattle.machine.specs.Frames.{Unchanged}
use Rattle.machine.specs.Past.{Fails, world_now}
use Rattle.manifest.specs.Reads.{manifest_content}
use Rattle.raw_writer.specs.Checking.{AsksLengths}
use Rattle.system_conf.specs.Reads.{system_configuration}
use Rattle.install_facts.specs.Facts.{image_refusal}
use Rattle.install_facts.proofs.images.check_images.Given as goal

abbrev pub invariant-loop-job : goal.invariant-loop-job
invariant-loop-job g l = record {
  faults : g.M.Machine.faults l.fn.m ≤ g.M.Machine.faults l.m;
  wants : g.M.Machine.wants l.fn.m ≤ g.M.Machine.wants l.m;
  unchanged : Unchanged g.M.Machine.tells (g.M.Machine.past l.fn.m) (g.M.Machine.past l.m);
  fails : Fails g.M.Machine.tells (g.M.Machine.past l.fn.m) (g.M.Machine.past l.m) None;
  asks : AsksLengths g.M.Machine.tells (g.M.Machine.past l.fn.m) (g.M.Machine.past l.m);
  told : IsTrue g.M.Machine.tells → first_of (image_refusal (system_configuration l.system) (manifest_content l.manifest) (world_now (g.M.Machine.past l.fn.m))) (take l.job-index l.jobs) ≡ None;
}
