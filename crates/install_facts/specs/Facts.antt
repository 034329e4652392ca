-- What an install has to know before it changes anything, and the first reason not to go on.
use Rattle.std.specs.Prelude.{◌≡◌, ◌<◌, ℕ, ℤ, ◌==◌, Bool, false, not, ◌&&◌, ◌||◌, List, [], ◌∷◌, ◌++◌, codes, map, length, slice_get, bytes_eq, is_some, Option, Some, None, option_and_then, option_map, Result, Ok, Err, if◌then◌else◌}
use Rattle.std.specs.Option.{option_map_or}
use Rattle.conf_forms.specs.Lists.{first_of, or_else}
use Rattle.keyfile.specs.Groups.{Text}
use Rattle.machine.specs.declared.world.RunNote.{RunNote}
use Rattle.machine.specs.declared.world.World.{World}
use Rattle.manifest.specs.Contents.{Content, ImageContent}
use Rattle.manifest.specs.Reads.{manifest_content}
use Rattle.manifest.specs.declared.image.ImageFile.{ImageFile}
use Rattle.system_conf.specs.Configuration.{Configuration}
use Rattle.system_conf.specs.declared.slot.Slot.{Slot}
use Rattle.slot_graph.specs.Booted.{states_of}
use Rattle.slot_graph.specs.Jobs.{ArePlaced, assigned}
use Rattle.slot_graph.specs.declared.assigning.AssignRefusal.{AssignRefusal}
use Rattle.slot_graph.specs.declared.job.Job.{Job}
use Rattle.slot_graph.specs.declared.mounted.Mount.{Mount}
use Rattle.slot_graph.specs.declared.state.Booted.{Booted}
use Rattle.slot_graph.specs.declared.state.Booted.TheVariants as booted
use Rattle.slot_graph.specs.declared.state.SlotState.{SlotState}
use Rattle.slot_status.specs.Records.{RecordContent, record_at}
use Rattle.slot_status.specs.Refusals.{ready_refusal}
use Rattle.slot_status.specs.declared.refusal.StatusRefusal.{StatusRefusal}
use Rattle.status_file.specs.Status.{book_in, is_unread, status_bytes}
use Rattle.running_system.specs.Running.{is_mounted, what_is_mounted, what_runs}
use Rattle.raw_writer.specs.Checking.{check_of}
use Rattle.child_steps.specs.Bundle.{bundle_at}
use Rattle.child_steps.specs.Children.{mount_point}
use Rattle.child_steps.specs.Checks.{check_answer}
use Rattle.child_steps.specs.declared.bundle.BundleRefusal.{BundleRefusal}
use Rattle.child_steps.specs.declared.refusal.CheckRefusal.{CheckRefusal}
use Rattle.raw_writer.specs.declared.check.PutRefusal.{PutRefusal}
use Rattle.install_facts.specs.declared.facts.Facts.{Facts}
use Rattle.install_facts.specs.declared.know.Known.{Known}
use Rattle.install_facts.specs.declared.choose.Chosen.{Chosen}
use Rattle.install_facts.specs.declared.refusal.InstallRefusal.{InstallRefusal}
use Rattle.install_facts.specs.declared.refusal.InstallRefusal.TheVariants.{BootedUnknown, Bundle, Compatible, Check, Assign, MountsUnread, Mounted, Image, Status}
use Rattle.install_facts.specs.declared.request.Request.{Request}

-- ---- answers in order

-- an answer, or none where it needs what is not there yet
abbrev pub Told : Type 0 → Type 0
Told A = Option (Result A InstallRefusal)

-- what follows an answer: nothing after a refusal
abbrev pub after : {A B : Type 0} → Told A → (A → Told B) → Told B
after None next = None
after (Some (Err why)) next = Some (Err why)
after (Some (Ok a)) next = next a

-- this, unless there is a refusal
abbrev pub unless : {A : Type 0} → Option InstallRefusal → A → Result A InstallRefusal
unless None a = Ok a
unless (Some why) a = Err why

-- ---- what is booted, what the status file says, and the manifest

pub record KnownContent : Type 0 where
  pub booted : Booted
  pub book : List RecordContent
  pub unread : Bool
  pub content : Content

abbrev pub known_content : Known → KnownContent
known_content k = record { booted = k.booted; book = k.read.book; unread = k.read.unread; content = manifest_content k.manifest }

-- where it is known what is booted, and the manifest is read
abbrev pub known_with : Booted → List RecordContent → Bool → Result Content BundleRefusal → Result KnownContent InstallRefusal
known_with b book unread (Ok content) = Ok (record { booted = b; book = book; unread = unread; content = content })
known_with b book unread (Err why) = Err (Bundle why)

-- in a world
abbrev pub known_in : Configuration → Booted → World → Result KnownContent InstallRefusal
known_in c b w = known_with b (book_in c.slots (status_bytes c w)) (is_unread c.slots (status_bytes c w)) (bundle_at c w)

-- what is booted has to be known first
abbrev pub booted_known : Booted → Result Booted InstallRefusal
booted_known booted.Unknown = Err BootedUnknown
booted_known booted.External = Ok booted.External
booted_known (booted.Slot root) = Ok (booted.Slot root)

-- ---- whether the bundle is for this system

-- by the hook that decides: it has ended so; where it was not run, there is no answer
abbrev pub checked : Result (Unit {0}) CheckRefusal → Result (Unit {0}) InstallRefusal
checked (Ok x) = Ok tt
checked (Err why) = Err (Check why)

abbrev pub check_told : List RunNote → Told (Unit {0})
check_told [] = None
check_told (note ∷ later) = Some (checked (check_answer note.exit))

-- by what both say they are
abbrev pub compatible_with : Text → Text → Bool → Result (Unit {0}) InstallRefusal
compatible_with system bundle ignored = if ignored || bytes_eq system bundle then Ok tt else Err (Compatible system bundle)

-- a hook decides, where the manifest names one
abbrev pub acceptance : Configuration → Request → Content → List RunNote → Told (Unit {0})
acceptance c r content notes = if content.install_check then check_told notes
    else Some (compatible_with c.compatible content.bundle.compatible r.ignore_compatible)

-- ---- where the images go

-- the image and the slot of a job
abbrev pub image_of : Content → Job → Option ImageContent
image_of content job = slice_get content.images job.image

abbrev pub slot_of : Configuration → Job → Option Slot
slot_of c job = slice_get c.slots job.slot

-- this holds of the image and the slot of a job; where one is not there, it does not
abbrev pub job_has : Configuration → Content → Job → (ImageContent → Slot → Bool) → Bool
job_has c content job test = option_map_or (λ image. option_map_or (test image) (slot_of c job) false) (image_of content job) false

-- the slot's device is mounted, and it is not one that may be while a hook installs the image
abbrev pub in_the_way : List Mount → ImageContent → Slot → Bool
in_the_way mounts image slot = is_mounted mounts slot.device && not (slot.allow_mounted && image.install)

abbrev pub is_blocked : Configuration → Content → List Mount → Job → Bool
is_blocked c content mounts job = job_has c content job (in_the_way mounts)

-- the slot of a job that is so
abbrev pub blocked : Configuration → Content → List Mount → Job → Option ℕ
blocked c content mounts job = if is_blocked c content mounts job then Some job.slot else None

-- the first of these
abbrev pub mounted_refusal : Configuration → Content → List Mount → List Job → Option InstallRefusal
mounted_refusal c content mounts jobs = option_map Mounted (first_of (blocked c content mounts) jobs)

-- all jobs, where no slot is in the way
abbrev pub free_jobs : Configuration → Content → List Job → Option (List Mount) → Result (List Job) InstallRefusal
free_jobs c content jobs None = Err MountsUnread
free_jobs c content jobs (Some mounts) = unless (mounted_refusal c content mounts jobs) jobs

-- those of the images, where each goes to a slot
abbrev pub jobs_assigned : Result (List Job) AssignRefusal → Result (List Job) InstallRefusal
jobs_assigned (Ok jobs) = Ok jobs
jobs_assigned (Err why) = Err (Assign why)

abbrev pub jobs_with : Configuration → Content → Result (List Job) AssignRefusal → Option (List Mount) → Result (List Job) InstallRefusal
jobs_with c content (Ok jobs) mounts = free_jobs c content jobs mounts
jobs_with c content (Err why) mounts = Err (Assign why)

abbrev pub jobs_in : Configuration → KnownContent → World → Result (List Job) InstallRefusal
jobs_in c k w = jobs_with c k.content (assigned c.slots (states_of c.slots k.booted) k.content.images) (what_is_mounted w)

-- ---- whether the images fit

-- the path of an image's file: its name in the mount point
abbrev pub image_path : Configuration → ImageFile → Text
image_path c f = mount_point c ++ (codes "/" ++ f.name)

-- the device that has to have room, unless a hook installs the image
abbrev pub device_for : ImageContent → Slot → Option Text
device_for image slot = if image.install then None else Some slot.device

abbrev pub as_refused : ℕ → ImageFile → Result ℕ PutRefusal → Option InstallRefusal
as_refused at f (Ok size) = None
as_refused at f (Err why) = Some (Image at f.name why)

-- the file is there with its stated size, and has room
abbrev pub file_refusal : Configuration → World → ℕ → ImageContent → Slot → ImageFile → Option InstallRefusal
file_refusal c w at image slot f = as_refused at f (check_of w (image_path c f) (Some f.size) (device_for image slot))

-- an image without a file is its hook's matter
abbrev pub fit_refusal : Configuration → World → ℕ → ImageContent → Slot → Option InstallRefusal
fit_refusal c w at image slot = option_and_then (file_refusal c w at image slot) image.file

abbrev pub image_refusal : Configuration → Content → World → Job → Option InstallRefusal
image_refusal c content w job =
    option_and_then (λ image. option_and_then (fit_refusal c w job.image image) (slot_of c job)) (image_of content job)

-- all of them fit
abbrev pub all_fit : Configuration → Content → World → List Job → Result (Unit {0}) InstallRefusal
all_fit c content w jobs = unless (first_of (image_refusal c content w) jobs) tt

-- the jobs, where all fit
abbrev pub fits : Configuration → Content → World → Result (List Job) InstallRefusal → Result (List Job) InstallRefusal
fits c content w (Ok jobs) = unless (first_of (image_refusal c content w) jobs) jobs
fits c content w (Err why) = Err why

abbrev pub fitting_jobs : Configuration → KnownContent → World → Result (List Job) InstallRefusal
fitting_jobs c k w = fits c k.content w (jobs_in c k w)

-- ---- whether the status file can note it

-- the slot and the root of each job stand among so many
pub record HasPlaces (count : ℕ) (jobs : List Job) : Type 0 where
  pub slots : (j : ℕ) (job : Job) → slice_get jobs j ≡ Some job → job.slot < count
  pub roots : (j : ℕ) (job : Job) → slice_get jobs j ≡ Some job → job.root < count

-- the slot of each job, and then the root over each
abbrev pub first_not_ready : List Job → List RecordContent → ℤ → Option StatusRefusal
first_not_ready jobs book seconds =
    or_else (first_of (λ job. ready_refusal book job.slot seconds) jobs) (first_of (λ job. ready_refusal book job.root seconds) jobs)

-- where there is a time, all of them can note it
abbrev pub IsReady : List Job → List RecordContent → Option ℤ → Type 0
IsReady jobs book None = Unit {0}
IsReady jobs book (Some seconds) = first_not_ready jobs book seconds ≡ None

abbrev pub not_ready : List Job → List RecordContent → ℤ → Option InstallRefusal
not_ready jobs book seconds = option_map Status (first_not_ready jobs book seconds)

-- the time that is noted: none where there is no status file; without an answer where the clock gave none
abbrev pub time_told : List Job → List RecordContent → Option Text → Option ℤ → Told (Option ℤ)
time_told jobs book None clock = Some (Ok None)
time_told jobs book (Some path) None = None
time_told jobs book (Some path) (Some seconds) = Some (unless (not_ready jobs book seconds) (Some seconds))

-- ---- which images are in their slots already

-- the record says that the slot holds just this image
abbrev pub holds_image : RecordContent → ImageFile → Bool
holds_image r f =
    option_map_or (bytes_eq (codes "ok")) r.status false
    && (option_map_or (λ d. bytes_eq d.0 f.digest.0) r.digest false && option_map_or (λ n. n == f.size) r.size false)

-- such a slot is left alone, where it is not installed again
abbrev pub is_skipped_in : RecordContent → ImageContent → Slot → Bool
is_skipped_in r image slot = not slot.install_same && option_map_or (holds_image r) image.file false

abbrev pub is_skipped : Configuration → Content → List RecordContent → Job → Bool
is_skipped c content book job = job_has c content job (is_skipped_in (record_at book job.slot))

-- ---- all of it

pub record ChosenContent : Type 0 where
  pub jobs : List Job
  pub skipped : List Bool
  pub now : Option ℤ

abbrev pub chosen_content : Chosen → ChosenContent
chosen_content x = record { jobs = x.jobs; skipped = x.skipped; now = x.now }

abbrev pub chosen_with : Configuration → KnownContent → List Job → Option ℤ → ChosenContent
chosen_with c k jobs now = record { jobs = jobs; skipped = map (is_skipped c k.content k.book) jobs; now = now }

-- with the time that is noted
abbrev pub timed_jobs : Configuration → KnownContent → List Job → Option ℤ → Told ChosenContent
timed_jobs c k jobs clock = after (time_told jobs k.book c.status_file clock) (λ now. Some (Ok (chosen_with c k jobs now)))

-- which image goes to which slot, and when, by what is known, by a world and by what the clock said
abbrev pub chosen_of : Configuration → KnownContent → World → Option ℤ → Told ChosenContent
chosen_of c k w clock = after (Some (fitting_jobs c k w)) (λ jobs. timed_jobs c k jobs clock)

pub record FactsContent : Type 0 where
  pub booted : Booted
  pub states : List SlotState
  pub content : Content
  pub jobs : List Job
  pub skipped : List Bool
  pub book : List RecordContent
  pub unread : Bool
  pub now : Option ℤ

abbrev pub facts_content : Facts → FactsContent
facts_content f = record { booted = f.booted; states = f.states; content = manifest_content f.manifest; jobs = f.jobs; skipped = f.skipped; book = f.book; unread = f.book_unread; now = f.now }

-- whatever a machine tells: each image has a slot; there is a state, a record and a time where there has to be one; and the records can note that time
pub record AreSound (c : Configuration) (f : FactsContent) : Type 0 where
  pub placed : ArePlaced c.slots f.states f.content.images f.jobs
  pub states : f.states ≡ states_of c.slots f.booted
  pub skipped : length f.skipped ≡ length f.jobs
  pub book : length f.book ≡ length c.slots
  pub now : is_some f.now ≡ is_some c.status_file
  pub ready : IsReady f.jobs f.book f.now

abbrev pub facts_from : Configuration → KnownContent → ChosenContent → FactsContent
facts_from c k x = record { booted = k.booted; states = states_of c.slots k.booted; content = k.content; jobs = x.jobs; skipped = x.skipped; book = k.book; unread = k.unread; now = x.now }

-- what is known, where the bundle is accepted
abbrev pub accepted_in : Configuration → Request → Booted → World → List RunNote → Told KnownContent
accepted_in c r b w notes = after (Some (known_in c b w)) (λ k. after (acceptance c r k.content notes) (λ accepted. Some (Ok k)))

-- the facts, where it is known what is booted
abbrev pub facts_in : Configuration → Request → Booted → World → World → List RunNote → Option ℤ → Told FactsContent
facts_in c r b w v notes clock = after (accepted_in c r b w notes) (λ k. after (chosen_of c k v clock) (λ x. Some (Ok (facts_from c k x))))

-- the facts or the first refusal: by the world before, by the children that were run since, by the world after them, and by what the clock said; without an answer, a call failed or memory ran out
abbrev pub facts_of : Configuration → Request → World → World → List RunNote → Option ℤ → Told FactsContent
facts_of c r w v notes clock = after (Some (booted_known (what_runs c.slots r.given_boot w))) (λ b. facts_in c r b w v notes clock)
