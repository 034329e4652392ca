-- The gathering of the facts of an install, as calls over a machine.
use Rattle.std.specs.Prelude.{◌≡◌, ◌⊎◌, Bool, IsTrue, List, [], ◌∷◌, codes, true, false, Option, Result, Ok, Err, if◌then◌else◌}
use Rattle.keyfile.specs.Groups.{Text}
use Rattle.machine.specs.Past.{Past, moments_since, world_now}
use Rattle.machine.specs.Runs.{has_failed, runs_since}
use Rattle.machine.specs.declared.stops.Stop.{Stop}
use Rattle.machine.specs.declared.stops.Stop.TheVariants.{Refused, Outside, NoMemory}
use Rattle.machine.specs.declared.world.Child.{Child}
use Rattle.machine.specs.declared.world.World.{World}
use Rattle.manifest.specs.Contents.{Content}
use Rattle.slot_graph.specs.declared.state.Booted.{Booted}
use Rattle.slot_graph.specs.declared.state.Booted.TheVariants as booted
use Rattle.running_system.specs.Running.{what_runs}
use Rattle.status_file.specs.Clock.{clock_since}
use Rattle.status_file.specs.Status.{IsStored, is_unread, status_bytes}
use Rattle.status_file.specs.declared.reading.StatusRead.{StatusRead}
use Rattle.system_conf.specs.Configuration.{Configuration}
use Rattle.updater_text.specs.Sinks.{Shown}
use Rattle.child_steps.specs.Bundle.{bundle_at}
use Rattle.child_steps.specs.Hooks.{check_hook}
use Rattle.child_steps.specs.declared.bundle.BundleRefusal.{BundleRefusal}
use Rattle.install_facts.specs.declared.choose.Chosen.{Chosen}
use Rattle.install_facts.specs.declared.facts.Facts.{Facts}
use Rattle.install_facts.specs.declared.know.Known.{Known}
use Rattle.install_facts.specs.declared.refusal.InstallRefusal.{InstallRefusal}
use Rattle.install_facts.specs.Failing.{is_early_call, is_first_call, is_later_call, is_target_call}
use Rattle.install_facts.specs.Stops.{is_early}
use Rattle.install_facts.specs.declared.report.Note.{Note}
use Rattle.install_facts.specs.declared.request.Request.{Request}
use Rattle.install_facts.specs.Facts.{FactsContent, KnownContent, Told, accepted_in, booted_known, facts_in, facts_of}
use Rattle.install_facts.specs.Notes.{AddsNotes, note}

-- the child that decides whether a bundle is installed, where its manifest names one
abbrev pub checks_with : Configuration → Content → List Child
checks_with c content = if content.install_check then check_hook c content ∷ [] else []

abbrev pub checks_by : Configuration → Result Content BundleRefusal → List Child
checks_by c (Ok content) = checks_with c content
checks_by c (Err why) = []

-- by the bundle that is mounted in a world
abbrev pub checks_in : Configuration → World → List Child
checks_in c w = checks_by c (bundle_at c w)

-- the facts or the first refusal, by what was done since old
abbrev pub facts_since : Configuration → Request → Past → Past → Told FactsContent
facts_since c r old new = facts_of c r (world_now old) (world_now new) (runs_since (world_now old) (world_now new)) (clock_since old new)

-- the same where it is known what is booted, and so far as the bundle is accepted
abbrev pub facts_since_for : Configuration → Request → Booted → Past → Past → Told FactsContent
facts_since_for c r b old new = facts_in c r b (world_now old) (world_now new) (runs_since (world_now old) (world_now new)) (clock_since old new)

abbrev pub accepted_since : Configuration → Request → Booted → Past → Past → Told KnownContent
accepted_since c r b old new = accepted_in c r b (world_now old) (runs_since (world_now old) (world_now new))

abbrev pub facts_made : Known → Chosen → Facts
facts_made k x = record { booted = k.booted; states = x.states; manifest = k.manifest; jobs = x.jobs; skipped = x.skipped; book = k.read.book; book_unread = k.read.unread; now = x.now }

-- what is known, where the bundle was accepted
abbrev pub known_if : Known → Result (Unit {0}) (Stop InstallRefusal) → Result Known (Stop InstallRefusal)
known_if known (Ok x) = Ok known
known_if known (Err stop) = Err stop

-- the facts, where the jobs were chosen
abbrev pub facts_if : Known → Result Chosen (Stop InstallRefusal) → Result Facts (Stop InstallRefusal)
facts_if known (Ok chosen) = Ok (facts_made known chosen)
facts_if known (Err stop) = Err stop

-- what is booted and what the status file says are told by a world
abbrev pub FirstTold : Configuration → Option Text → World → Result (Booted × StatusRead) (Stop InstallRefusal) → Type 0
FirstTold c given w (Ok p) = (booted_known (what_runs c.slots given w) ≡ Ok p.0) × IsStored c w p.1
FirstTold c given w (Err (Refused why)) = booted_known (what_runs c.slots given w) ≡ Err why
FirstTold c given w (Err (Outside kind)) = Unit {0}
FirstTold c given w (Err NoMemory) = Unit {0}

-- ---- notes

-- of the manifest, and of the targets
abbrev pub accepted_note : Note
accepted_note = note 30 (codes "manifest accepted")

abbrev pub chosen_note : Note
chosen_note = note 40 (codes "targets chosen")

-- that of the targets, where these were chosen
abbrev pub notes_if : {T : Type 0} → Result T (Stop InstallRefusal) → List Note
notes_if (Ok x) = chosen_note ∷ []
notes_if (Err stop) = []

-- those that were put: none before the manifest was accepted, and the last where all was done; where a call failed, it tells which
abbrev pub GatherNotes : Bool → Configuration → Past → Past → Result Facts (Stop InstallRefusal) → List Note → Type 0
GatherNotes tells c old new (Ok facts) notes = notes ≡ accepted_note ∷ chosen_note ∷ []
GatherNotes tells c old new (Err (Refused why)) notes = notes ≡ (if is_early why then [] else accepted_note ∷ [])
GatherNotes tells c old new (Err (Outside kind)) notes =
    ((notes ≡ []) × (IsTrue tells → has_failed (is_early_call c) (moments_since old new) ≡ true))
    ⊎ ((notes ≡ accepted_note ∷ []) × (IsTrue tells → has_failed is_target_call (moments_since old new) ≡ true))
GatherNotes tells c old new (Err NoMemory) notes = (notes ≡ []) ⊎ (notes ≡ accepted_note ∷ [])

-- the report took them
pub record Noted (before after : Shown → List Note → Type 0) (Are : List Note → Type 0) : Type 0 where
  pub notes : List Note
  pub are : Are notes
  pub added : AddsNotes before after notes

-- ---- the status file

-- it could not be read, where it is known what is booted; else it was not to be read
abbrev pub unread_by : Configuration → Booted → World → Bool
unread_by c booted.Unknown w = false
unread_by c b w = is_unread c.slots (status_bytes c w)

abbrev pub unread_in : Configuration → Option Text → World → Bool
unread_in c given w = unread_by c (what_runs c.slots given w) w

-- what is told of that: by the world; where a call failed, by which it was
abbrev pub UnreadTold : Configuration → Option Text → Past → Past → Result Facts (Stop InstallRefusal) → Bool → Type 0
UnreadTold c given old new (Ok facts) unread = unread ≡ unread_in c given (world_now old)
UnreadTold c given old new (Err (Refused why)) unread = unread ≡ unread_in c given (world_now old)
UnreadTold c given old new (Err (Outside kind)) unread =
    ((unread ≡ false) × (has_failed (is_first_call c) (moments_since old new) ≡ true))
    ⊎ ((unread ≡ unread_in c given (world_now old)) × (has_failed (is_later_call c) (moments_since old new) ≡ true))
UnreadTold c given old new (Err NoMemory) unread = (unread ≡ false) ⊎ (unread ≡ unread_in c given (world_now old))
