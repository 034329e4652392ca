-- Which image goes to which slot, and why one goes to none.
use Rattle.std.specs.Prelude.{◌≡◌, ◌<◌, ℕ, ◌==◌, Bool, true, false, ◌&&◌, List, [], ◌∷◌, filter, length, map, Option, Some, None, option_and_then, option_map, slice_get, Result, Ok, Err, Vec, if◌then◌else◌}
use Rattle.std.specs.List.{enumerate_from, list_any, range_with_len}
use Rattle.std.specs.Option.{option_map_or}
use Rattle.std.specs.Str.{bytes_eq}
use Rattle.std.specs.Global.{Global}
use Rattle.updater_text.specs.declared.stops.Lack.{Lack}
use Rattle.updater_text.specs.declared.stops.Lack.TheVariants as lack
use Rattle.keyfile.specs.Groups.{Text}
use Rattle.conf_forms.specs.Lists.{or_else}
use Rattle.manifest.specs.Contents.{ImageContent}
use Rattle.system_conf.specs.Parents.{IsRootOf}
use Rattle.system_conf.specs.Slots.{root_over}
use Rattle.system_conf.specs.declared.slot.Slot.{Slot}
use Rattle.system_conf.specs.declared.slot.SlotKind.{SlotKind}
use Rattle.system_conf.specs.declared.slot.SlotKind.TheVariants as slot
use Rattle.slot_graph.specs.Archives.{is_archive_name}
use Rattle.slot_graph.specs.Targets.{IsTarget, targets_of}
use Rattle.slot_graph.specs.declared.job.Job.{Job}
use Rattle.slot_graph.specs.declared.assigning.AssignRefusal.{AssignRefusal}
use Rattle.slot_graph.specs.declared.assigning.AssignRefusal.TheVariants as refusal
use Rattle.slot_graph.specs.declared.state.SlotState.{SlotState}

-- ---- the slots of a class

-- the slot at a place is of this class
abbrev pub is_of_class : List Slot → Text → ℕ → Bool
is_of_class slots class at = option_map_or (λ s. bytes_eq s.class class) (slice_get slots at) false

-- the slot at a place lies under one of the targets
abbrev pub in_target_group : List Slot → List ℕ → ℕ → Bool
in_target_group slots targets at = list_any (λ target. target == root_over slots at) targets

-- the places of the slots of a class in the groups of the targets, in slot order
unfoldable pub places_for : List Slot → List ℕ → Text → List ℕ
places_for slots targets class = filter (λ at. is_of_class slots class at && in_target_group slots targets at) (range_with_len 0 (length slots))

-- ---- one image

-- the name of an image's file, where that is an archive by it
abbrev pub archive_name : ImageContent → Option Text
archive_name image = option_and_then (λ file. if is_archive_name file.name then Some file.name else None) image.file

-- a type that is known and not written to
abbrev pub is_unwritten : SlotKind → Bool
is_unwritten (slot.Unwritten word) = true
is_unwritten _ = false

-- why an image is not written to a slot, each named by its place: its file is an archive, or the slot's type is not written to
abbrev pub write_refusal : ℕ → ImageContent → ℕ → Slot → Option AssignRefusal
write_refusal image content at s =
    or_else (option_map (refusal.ArchiveImage image) (archive_name content)) (if is_unwritten s.kind then Some (refusal.WrongType at image) else None)

-- why it does not go there: the slot is read-only, or no hook installs the image and it is not written
abbrev pub refusal_for : ℕ → ImageContent → ℕ → Slot → Option AssignRefusal
refusal_for image content at s =
    if s.readonly then Some (refusal.ReadOnly at)
    else (if content.install then None else write_refusal image content at s)

abbrev pub unless_refused : Option AssignRefusal → Job → Result Job AssignRefusal
unless_refused None job = Ok job
unless_refused (Some why) job = Err why

-- the job of an image by the places of the slots of its class, of which there has to be one
abbrev pub job_among : List Slot → ℕ → ImageContent → List ℕ → Result Job AssignRefusal
job_among slots image content [] = Err (refusal.NoTarget content.class)
job_among slots image content (at ∷ []) =
    unless_refused (option_and_then (refusal_for image content at) (slice_get slots at)) (record { image = image; slot = at; root = root_over slots at })
job_among slots image content (at ∷ more) = Err (refusal.ManyTargets content.class)

-- the job of the image at a place
unfoldable pub job_of : List Slot → List ℕ → ℕ → ImageContent → Result Job AssignRefusal
job_of slots targets image content = job_among slots image content (places_for slots targets content.class)

-- ---- all images

-- a value before others
abbrev pub and_more : {A R : Type 0} → A → Result (List A) R → Result (List A) R
and_more x (Ok xs) = Ok (x ∷ xs)
and_more x (Err why) = Err why

-- all values, or the first refusal
abbrev pub all_or_first : {A R : Type 0} → List (Result A R) → Result (List A) R
all_or_first [] = Ok []
all_or_first (Ok x ∷ more) = and_more x (all_or_first more)
all_or_first (Err why ∷ more) = Err why

-- the jobs of all images in their order, or the refusal of the first that has none
unfoldable pub jobs_of : List Slot → List ℕ → List ImageContent → Result (List Job) AssignRefusal
jobs_of slots targets images = all_or_first (map (λ p. job_of slots targets p.0 p.1) (enumerate_from 0 images))

-- the same for the targets by the states of the slots
abbrev pub assigned : List Slot → List SlotState → List ImageContent → Result (List Job) AssignRefusal
assigned slots states images = jobs_of slots (targets_of slots states) images

-- the call answered these jobs or this refusal, or was out of memory
abbrev pub AssignsAll : Result (List Job) AssignRefusal → Result (Vec Job Global) (Lack AssignRefusal) → Type 0
AssignsAll meaning (Ok jobs) = meaning ≡ Ok jobs.items
AssignsAll meaning (Err (lack.Refused why)) = meaning ≡ Err why
AssignsAll meaning (Err lack.NoMemory) = Unit {0}

-- ---- what holds of jobs

-- the slot at a place lies under this root, which is a target
pub record IsUnderTarget (slots : List Slot) (states : List SlotState) (at root : ℕ) : Type 0 where
  pub under : IsRootOf slots at root
  pub target : (class : Text) × IsTarget slots states class root

-- the slot at a place has the class of the image at a place
abbrev pub HasItsClass : List Slot → List ImageContent → ℕ → ℕ → Type 0
HasItsClass slots images image at = option_map (λ s. s.class) (slice_get slots at) ≡ option_map (λ i. i.class) (slice_get images image)

-- a job's slot is the one slot of its image's class under a target, and that is its root
pub record IsPlaced (slots : List Slot) (states : List SlotState) (images : List ImageContent) (job : Job) : Type 0 where
  pub image : job.image < length images
  pub slot : job.slot < length slots
  pub root : job.root ≡ root_over slots job.slot
  pub class : HasItsClass slots images job.image job.slot
  pub under : IsUnderTarget slots states job.slot job.root
  pub only : (other root : ℕ) → HasItsClass slots images job.image other → IsUnderTarget slots states other root → other ≡ job.slot

-- each image has a job, in their order
pub record ArePlaced (slots : List Slot) (states : List SlotState) (images : List ImageContent) (jobs : List Job) : Type 0 where
  pub count : length jobs ≡ length images
  pub order : (at : ℕ) (job : Job) → slice_get jobs at ≡ Some job → job.image ≡ at
  pub each : (at : ℕ) (job : Job) → slice_get jobs at ≡ Some job → IsPlaced slots states images job
