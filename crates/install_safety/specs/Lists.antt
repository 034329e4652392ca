-- The list of every install is safe, however far it was done: a theorem without code.
use Rattle.std.specs.Prelude.{◌≡◌, ◌⊎◌, ◌||◌, true, List, [], ◌∷◌, is_some, map, slice_get, Some, ℕ}
use Rattle.boot_backends.specs.Honest.{Honest}
use Rattle.keyfile.specs.Groups.{all_distinct}
use Rattle.machine.specs.Past.{Held, Past, world_now}
use Rattle.machine.specs.declared.world.World.{World}
use Rattle.manifest.specs.Contents.{ImageContent}
use Rattle.slot_graph.specs.declared.state.Booted.TheVariants as booted
use Rattle.slot_status.specs.Records.{RecordContent}
use Rattle.status_file.specs.Truth.{stored_book}
use Rattle.system_conf.specs.Configuration.{Configuration}
use Rattle.system_conf.specs.Parents.{IsRoot}
use Rattle.system_conf.specs.Sound.{AreSlotsSound}
use Rattle.install_facts.specs.Facts.{AreSound, FactsContent}
use Rattle.install_plan.specs.Acts.{acts_of, steps_in}
use Rattle.install_plan.specs.declared.step.Step.{Step}
use Rattle.install_steps.specs.Steps.{Begun, Did, changed}
use Rattle.install_safety.specs.Safe.{TargetsSafe}
use Rattle.install_safety.specs.TrueRecords.{RecordsSafe}

-- z is a past within these steps, which began in a: within one of them, after those before it, or after all
abbrev pub Within : Configuration → FactsContent → List RecordContent → List Step → Past → Past → Type 0
Within c f book [] a z = z ≡ a
Within c f book (s ∷ steps) a z = Begun c f book s a z ⊎ ((b : Past) × Did c f book s a b × Within c f (changed f s book) steps b z)

-- the facts of an install: sound, with one image of each class, each with a file unless a hook installs it; what is booted is a root
pub record AreInstallable (c : Configuration) (f : FactsContent) : Type 0 where
  pub sound : AreSound c f
  pub slots : AreSlotsSound c.slots
  pub root : (at : ℕ) → f.booted ≡ booted.Slot at → IsRoot c.slots at
  pub classes : all_distinct (map (λ i. i.class) f.content.images) ≡ true
  pub filed : (at : ℕ) (image : ImageContent) → slice_get f.content.images at ≡ Some image → (is_some image.file || image.install) ≡ true

-- however far the list of an install was done since a, and wherever it stopped, the slots and the records are safe
abbrev pub ListsAreSafe : Type 0
ListsAreSafe =
    (c : Configuration) (f : FactsContent) → AreInstallable c f
    → (a z : Past) → stored_book c (world_now a) ≡ f.book → Within c f f.book (steps_in (acts_of c f)) a z
    → (v : World) → Held a z v → (Honest c.boot a z → TargetsSafe c f (world_now a) v) × RecordsSafe c f (world_now a) v
