-- How an install goes, from the mount of its bundle to the unmount.
use Rattle.std.specs.Prelude.{◌≡◌, ◌⊎◌, ◌++◌, ℕ, Bool, false, IsTrue, List, [], ◌∷◌, codes, Option, Some, None, Result, Ok, Err, IfOk, ⊤}
use Rattle.updater_text.specs.Sinks.{Shown}
use Rattle.keyfile.specs.Groups.{Text}
use Rattle.machine.specs.declared.stops.Stop.{Stop}
use Rattle.machine.specs.declared.stops.Stop.TheVariants.{Refused, Outside, NoMemory}
use Rattle.machine.specs.Faults.{fault_cause}
use Rattle.machine.specs.Past.{Fails, Past, world_now}
use Rattle.machine.specs.Runs.{OnlyRuns}
use Rattle.machine.specs.Stops.{StopCounted, stop_fault}
use Rattle.system_conf.specs.Configuration.{Configuration}
use Rattle.system_conf.specs.declared.slot.Slot.{Slot}
use Rattle.child_steps.specs.Children.{helper_spares, mounting, umount_child}
use Rattle.child_steps.specs.Closing.{ClosingEnds}
use Rattle.child_steps.specs.Mounting.{MountEnds}
use Rattle.child_steps.specs.declared.close.Closing.{Closing}
use Rattle.child_steps.specs.declared.close.Closing.TheVariants as closing
use Rattle.child_steps.specs.declared.mounted.Mounted.{Mounted}
use Rattle.child_steps.specs.declared.refusal.MountRefusal.{MountRefusal}
use Rattle.install_facts.specs.Answers.{TellsIf}
use Rattle.install_facts.specs.Causes.{install_cause}
use Rattle.install_facts.specs.Facts.{AreSound, FactsContent, facts_content, image_refusal}
use Rattle.install_facts.specs.Gathering.{GatherNotes, UnreadTold, checks_in, facts_since}
use Rattle.install_facts.specs.Notes.{note}
use Rattle.install_facts.specs.declared.facts.Facts.{Facts}
use Rattle.install_facts.specs.declared.refusal.InstallRefusal.{InstallRefusal}
use Rattle.install_facts.specs.declared.refusal.InstallRefusal.TheVariants.{Mount}
use Rattle.install_facts.specs.declared.report.Note.{Note}
use Rattle.install_facts.specs.declared.request.Request.{Request}
use Rattle.install_plan.specs.Acts.{acts_of, notes_in, steps_in}
use Rattle.install_steps.specs.Progress.{Progress, ends_after}
use Rattle.install_steps.specs.declared.running.Installed.{Installed}
use Rattle.install_steps.specs.declared.running.JobEnd.{JobEnd}
use Rattle.conf_forms.specs.Lists.{first_of}
use Rattle.manifest.specs.Reads.{manifest_content}
use Rattle.machine.specs.declared.world.World.{World}
use Rattle.install_core.specs.Preparing.{ends_of}
use Rattle.install_core.specs.declared.ending.InstallEnd.{InstallEnd}

-- ---- the answer

-- what an install came to, before it was put into words
abbrev pub Answer : Type 0
Answer = Result Installed (Stop InstallRefusal)

-- a stop of the mount
abbrev pub mount_stop : Stop MountRefusal → Stop InstallRefusal
mount_stop (Refused why) = Refused (Mount why)
mount_stop (Outside kind) = Outside kind
mount_stop NoMemory = NoMemory

-- the line of a refusal, and of a call that failed
abbrev pub line_of : List Slot → Stop InstallRefusal → Option Text
line_of slots (Refused why) = Some (install_cause slots why)
line_of slots (Outside kind) = Some (fault_cause kind)
line_of slots NoMemory = None

-- a stop with its line; where the line finds no memory, that is the stop
abbrev pub IsStopped : List Slot → Stop InstallRefusal → Answer → Option Text → Type 0
IsStopped slots stop result line =
    ((result ≡ Err stop) × (line ≡ line_of slots stop)) ⊎ ((result ≡ Err NoMemory) × (line ≡ None))

-- the answer as it is given, with its line
abbrev pub IsEnd : List Slot → Answer → InstallEnd → Type 0
IsEnd slots (Ok installed) end = (end.result ≡ Ok installed) × (end.line ≡ None)
IsEnd slots (Err stop) end = IsStopped slots stop end.result end.line

-- ---- a bundle that is mounted

-- the facts were gathered since the past a, or there is a first reason not to go on
pub record Gathers (tells : Bool) (c : Configuration) (r : Request) (a g : Past) (facts : Result Facts (Stop InstallRefusal)) (unread : Bool) (notes : List Note) : Type 0 where
  pub kept : OnlyRuns tells (helper_spares c []) (checks_in c (world_now a)) a g
  pub answers : IsTrue tells → TellsIf facts_content (facts_since c r a g) facts
  pub sound : IfOk facts (λ f. AreSound c (facts_content f))
  pub file : IsTrue tells → UnreadTold c r.given_boot a g facts unread
  pub noted : GatherNotes tells c a g facts notes
  pub fails : Fails tells a g (stop_fault facts)

-- no image of the jobs is refused in a world
abbrev pub ImagesFit : Configuration → World → Facts → Type 0
ImagesFit c w f = first_of (image_refusal c (manifest_content f.manifest) w) f.jobs ≡ None

-- what was done, where all of it was
abbrev pub installed_if : List JobEnd → Result ⊤ (Stop InstallRefusal) → Answer
installed_if ends (Ok x) = Ok (record { jobs = ends })
installed_if ends (Err stop) = Err stop

-- the steps of the list were done, all or up to one that stopped
pub record Changes (tells : Bool) (c : Configuration) (f : FactsContent) (g z : Past) (answer : Answer) (notes : List Note) : Type 0 where
  pub done : Result ⊤ (Stop InstallRefusal)
  pub progress : Progress tells c f (acts_of c f) g z done
  pub is : answer ≡ installed_if (ends_after (steps_in progress.done) (ends_of f)) done
  pub noted : notes ≡ notes_in progress.done

-- memory was out before the first step, and nothing was done
pub record Unprepared (tells : Bool) (g z : Past) (answer : Answer) (notes : List Note) : Type 0 where
  pub is : answer ≡ Err NoMemory
  pub nothing : IsTrue tells → z ≡ g
  pub none : notes ≡ []

-- one or the other
abbrev pub ChangesIf : Bool → Configuration → FactsContent → Past → Past → Answer → List Note → Type 0
ChangesIf tells c f g z answer notes = Changes tells c f g z answer notes ⊎ Unprepared tells g z answer notes

-- what came of the facts
abbrev pub Follows : Bool → Configuration → Past → Past → Result Facts (Stop InstallRefusal) → Answer → List Note → Type 0
Follows tells c g z (Ok facts) answer notes = ChangesIf tells c (facts_content facts) g z answer notes
Follows tells c g z (Err stop) answer notes = (answer ≡ Err stop) × (IsTrue tells → z ≡ g) × (notes ≡ [])

-- the counts of that: where nothing was done, they stay
abbrev pub CountedIf : Result Facts (Stop InstallRefusal) → ℕ → ℕ → ℕ → ℕ → Answer → Type 0
CountedIf (Ok facts) faults faults' wants wants' answer = StopCounted faults faults' wants wants' answer
CountedIf (Err stop) faults faults' wants wants' answer = (answer ≡ Err stop) × (faults' ≡ faults) × (wants' ≡ wants)

-- the facts were gathered, and then the steps done
pub record Works (tells : Bool) (c : Configuration) (r : Request) (a z : Past) (answer : Answer) (unread : Bool) (notes : List Note) : Type 0 where
  pub gathered : Past
  pub facts : Result Facts (Stop InstallRefusal)
  pub before : List Note
  pub after : List Note
  pub gathers : Gathers tells c r a gathered facts unread before
  pub follows : Follows tells c gathered z facts answer after
  pub all : notes ≡ before ++ after

-- ---- all of it

abbrev pub first_note : Note
first_note = note 0 (codes "installing")

abbrev pub mounted_note : Note
mounted_note = note 20 (codes "bundle mounted")

-- the bundle was not mounted, and nothing else was done
pub record StaysUnmounted (tells : Bool) (c : Configuration) (r : Request) (old new : Past) (answer : Answer) (closed : Closing) (unread : Bool) (notes : List Note) : Type 0 where
  pub stop : Stop MountRefusal
  pub ends : IsTrue tells → MountEnds c r.bundle old new (Err stop)
  pub kept : OnlyRuns tells (helper_spares c []) (mounting c r.bundle) old new
  pub fails : Fails tells old new (stop_fault {T = Mounted} (Err stop))
  pub is : answer ≡ Err (mount_stop stop)
  pub closes : closed ≡ closing.NotMounted
  pub file : unread ≡ false
  pub noted : notes ≡ first_note ∷ []

-- a bundle that is mounted was worked with, and then unmounted, whatever came of that
pub record WorkedOn (tells : Bool) (c : Configuration) (r : Request) (mounted new : Past) (answer : Answer) (closed : Closing) (unread : Bool) (notes : List Note) : Type 0 where
  pub worked : Past
  pub later : List Note
  pub works : Works tells c r mounted worked answer unread later
  pub spares : OnlyRuns tells (umount_child c).spares (umount_child c ∷ []) worked new
  pub closes : IsTrue tells → ClosingEnds (umount_child c) worked new closed
  pub noted : notes ≡ mounted_note ∷ later

-- the bundle was mounted, and then that was done
pub record IsMounted (tells : Bool) (c : Configuration) (r : Request) (old new : Past) (answer : Answer) (closed : Closing) (unread : Bool) (notes : List Note) : Type 0 where
  pub mounted : Past
  pub bundle : Mounted
  pub later : List Note
  pub ends : IsTrue tells → MountEnds c r.bundle old mounted (Ok bundle)
  pub kept : OnlyRuns tells (helper_spares c []) (mounting c r.bundle) old mounted
  pub fails : Fails tells old mounted None
  pub worked_on : WorkedOn tells c r mounted new answer closed unread later
  pub noted : notes ≡ first_note ∷ later

-- one or the other
abbrev pub Course : Bool → Configuration → Request → Past → Past → Answer → Closing → Bool → List Note → Type 0
Course tells c r old new answer closed unread notes =
    StaysUnmounted tells c r old new answer closed unread notes ⊎ IsMounted tells c r old new answer closed unread notes

-- the install went so, with this answer, and the report took its notes
pub record Installs (tells : Bool) (c : Configuration) (r : Request) (old new : Past) (stood stands : Shown → List Note → Type 0) (end : InstallEnd) : Type 0 where
  pub answer : Answer
  pub notes : List Note
  pub course : Course tells c r old new answer end.closing end.book_unread notes
  pub is : IsEnd c.slots answer end
  pub added : (start : Shown) (before : List Note) → stood start before → stands start (before ++ notes)
