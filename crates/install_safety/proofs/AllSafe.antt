-- The list of every install is safe.
use Rattle.std.proofs.Common.{◌≡◌}
use Rattle.boot_backends.specs.Honest.{Honest}
use Rattle.machine.specs.Past.{Held, Past, world_now}
use Rattle.machine.specs.declared.world.World.{World}
use Rattle.running_system.proofs.SlotDevices.{alone_in}
use Rattle.status_file.specs.Truth.{stored_book}
use Rattle.system_conf.specs.Configuration.{Configuration}
use Rattle.install_facts.specs.Facts.{FactsContent}
use Rattle.install_plan.specs.Acts.{acts_of, steps_in}
use Rattle.install_plan.proofs.JobWork.{is_work}
use Rattle.install_steps.proofs.SlotsApart.{slots_apart}
use Rattle.install_safety.specs.Lists.{AreInstallable, ListsAreSafe, Within}
use Rattle.install_safety.specs.Safe.{TargetsSafe}
use Rattle.install_safety.specs.TrueRecords.{RecordsSafe}
use Rattle.install_safety.proofs.Idle.{slot_idle}
use Rattle.install_safety.proofs.KeptSlots.{AreApart}
use Rattle.install_safety.proofs.Order.{phases}
use Rattle.install_safety.proofs.Phases.{phase_safe}
use Rattle.install_safety.proofs.Records.{records_stand}
use Rattle.install_safety.proofs.Standing.{stand_safe}

-- what tells the jobs apart
pub are_apart : (c : Configuration) (f : FactsContent) → AreInstallable c f → AreApart c f
are_apart c f can = record {
  devices = alone_in c.slots can.slots;
  own = slots_apart c.slots f can.sound.placed can.classes;
  idle = λ k x there. slot_idle c f can.sound can.slots can.root k x.job (is_work c f k x there).job;
  filed = λ k x there. can.filed x.job.image x.image (is_work c f k x there).image;
}

module _ (c : Configuration) (f : FactsContent) (can : AreInstallable c f) (a z : Past) (book : stored_book c (world_now a) ≡ f.book) (within : Within c f f.book (steps_in (acts_of c f)) a z) (v : World) (held : Held a z v) where
  targets : Honest c.boot a z → TargetsSafe c f (world_now a) v
  targets honest =
      let apart = are_apart c f can in
      phase_safe c f (world_now a) held.0 v ((phases c f apart.devices apart.own f.book a z honest within).each held.0 held.1) held.2

  records : RecordsSafe c f (world_now a) v
  records =
      let apart = are_apart c f can in
      stand_safe c f apart (world_now a) held.0 v (records_stand c f apart a z book within held.0 held.1 can.sound.now) held.2

pub lists_are_safe : ListsAreSafe
lists_are_safe c f can a z book within v held = (targets c f can a z book within v held, records c f can a z book within v held)
