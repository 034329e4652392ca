-- What steps leave alone that later ones need.
use Rattle.std.specs.Prelude.{◌≡◌, ◌≢◌, ◌≤◌, ℕ, IsTrue, List, length, slice_get, Some}
use Rattle.keyfile.specs.Groups.{Text}
use Rattle.machine.specs.Spares.{has_file}
use Rattle.system_conf.specs.Configuration.{Configuration}
use Rattle.install_facts.specs.declared.report.Note.{Note}
use Rattle.install_plan.specs.declared.step.Step.{Step}
use Rattle.install_plan.specs.declared.step.Step.TheVariants as step

-- a step leaves the file at a path alone
abbrev pub LeavesFile : Configuration → Text → Step → Type 0
LeavesFile c path (step.Run child caller) = IsTrue (has_file child.spares path)
LeavesFile c path other = Unit {0}

-- so does each of these
abbrev pub AllLeave : Configuration → Text → List Step → Type 0
AllLeave c path steps = (j : ℕ) (s : Step) → slice_get steps j ≡ Some s → LeavesFile c path s

-- the image that a step puts is no status file, and each step leaves it alone
abbrev pub PutsSteady : Configuration → List Step → Step → Type 0
PutsSteady c steps (step.Put job put) = (c.status_file ≢ Some put.image) × AllLeave c put.image steps
PutsSteady c steps other = Unit {0}

abbrev pub StaySteady : Configuration → List Step → Type 0
StaySteady c steps = (j : ℕ) (s : Step) → slice_get steps j ≡ Some s → PutsSteady c steps s

-- the notes are as short as a report takes them
abbrev pub AreShort : List Note → Type 0
AreShort notes = (j : ℕ) (n : Note) → slice_get notes j ≡ Some n → length n.text ≤ 279
