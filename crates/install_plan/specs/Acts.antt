-- What an install does from its first change on, as one list that is made before.
use Rattle.std.specs.Prelude.{ℕ, ◌+◌, ◌*◌, ◌/◌, ◌==◌, Bool, false, not, ◌&&◌, ◌||◌, List, [], ◌∷◌, ◌++◌, codes, filter, length, map, slice_get, is_some, Option, None, option_and_then, option_map, reverse, if◌then◌else◌}
use Rattle.std.specs.List.{flat_map, list_any, range_with_len, slice_index_or}
use Rattle.std.specs.Option.{option_map_or, option_to_list}
use Rattle.keyfile.specs.Groups.{Text}
use Rattle.machine.specs.declared.world.Spares.{Spares}
use Rattle.manifest.specs.Contents.{ImageContent}
use Rattle.manifest.specs.declared.image.ImageFile.{ImageFile}
use Rattle.raw_writer.specs.declared.put.PutJob.{PutJob}
use Rattle.running_system.specs.Running.{is_in_use}
use Rattle.slot_graph.specs.declared.job.Job.{Job}
use Rattle.slot_graph.specs.declared.state.SlotState.TheVariants as state
use Rattle.system_conf.specs.Configuration.{Configuration}
use Rattle.system_conf.specs.declared.slot.Slot.{Slot}
use Rattle.child_steps.specs.Hooks.{handler_child, handler_program, install_spares, slot_hook}
use Rattle.child_steps.specs.declared.handlers.HandlerKind.{HandlerKind}
use Rattle.child_steps.specs.declared.handlers.HandlerKind.TheVariants as handler_kind
use Rattle.child_steps.specs.declared.hooks.HookKind.{HookKind}
use Rattle.child_steps.specs.declared.hooks.HookKind.TheVariants as hook_kind
use Rattle.install_facts.specs.Facts.{FactsContent, image_of, image_path, slot_of}
use Rattle.install_facts.specs.Notes.{note}
use Rattle.install_facts.specs.declared.report.Note.{Note}
use Rattle.install_plan.specs.declared.step.Act.{Act}
use Rattle.install_plan.specs.declared.step.Act.TheVariants.{Do, Tell}
use Rattle.install_plan.specs.declared.step.Caller.TheVariants as caller
use Rattle.install_plan.specs.declared.step.Step.{Step}
use Rattle.install_plan.specs.declared.step.Step.TheVariants as step

-- ---- the jobs

-- a job with its image and its slot, and whether it is skipped
pub record Work : Type 0 where
  pub at : ℕ
  pub job : Job
  pub image : ImageContent
  pub slot : Slot
  pub skipped : Bool

-- the work at a place
abbrev pub work_at : Configuration → FactsContent → ℕ → Option Work
work_at c f at =
    option_and_then (λ job. option_and_then (λ image. option_map
    (λ slot. record { at = at; job = job; image = image; slot = slot; skipped = slice_index_or f.skipped at false })
    (slot_of c job)) (image_of f.content job)) (slice_get f.jobs at)

-- RAUC alone writes the slot: no hook installs the image or comes after it
abbrev pub is_alone : Work → Bool
is_alone x = not x.skipped && not (x.image.install || x.image.post)

-- ---- what hooks and handlers have to leave alone

-- the device of the slot at a place, where that runs
abbrev pub running_device : Configuration → FactsContent → ℕ → List Text
running_device c f at = if is_in_use (slice_index_or f.states at state.Inactive) then option_to_list (option_map (λ s. s.device) (slice_get c.slots at)) else []

-- those of the slots that run
abbrev pub running_devices : Configuration → FactsContent → List Text
running_devices c f = flat_map (running_device c f) (range_with_len 0 (length c.slots))

-- that of the job at a place, where this holds of it
abbrev pub device_if : (Work → Bool) → Configuration → FactsContent → ℕ → List Text
device_if test c f at = option_map_or (λ x. if test x then x.slot.device ∷ [] else []) (work_at c f at) []

abbrev pub alone_device : Configuration → FactsContent → ℕ → List Text
alone_device = device_if is_alone

abbrev pub skipped_device : Configuration → FactsContent → ℕ → List Text
skipped_device = device_if (λ x. x.skipped)

-- those of the jobs before a place that are put and that RAUC alone writes
abbrev pub put_devices : Configuration → FactsContent → ℕ → List Text
put_devices c f before = flat_map (alone_device c f) (range_with_len 0 before)

-- those of the jobs that are skipped
abbrev pub skipped_devices : Configuration → FactsContent → List Text
skipped_devices c f = flat_map (skipped_device c f) (range_with_len 0 (length f.jobs))

-- all of these, with the jobs before a place put
abbrev pub spares_at : Configuration → FactsContent → ℕ → Spares
spares_at c f at = install_spares c (running_devices c f ++ (put_devices c f at ++ skipped_devices c f))

-- ---- the programs

-- a handler, where one is configured, with the jobs before a place put
abbrev pub handler_acts : Configuration → FactsContent → HandlerKind → ℕ → List Act
handler_acts c f which at =
    if is_some (handler_program c which)
    then Do (step.Run (handler_child c f.booted f.jobs which (spares_at c f at)) (caller.Handler which)) ∷ []
    else []

-- a hook of an image, where it names that one
abbrev pub hook_acts : Configuration → FactsContent → Work → HookKind → Bool → List Act
hook_acts c f x which named =
    if named
    then Do (step.Run (slot_hook c f.content x.job which (spares_at c f x.at)) (caller.Hook which x.job.slot)) ∷ []
    else []

-- ---- one job

-- what is put where
abbrev pub put_of : Configuration → Work → ImageFile → PutJob
put_of c x file = record { image = image_path c file; device = x.slot.device; size = file.size; digest = file.digest; index = None; active_device = None; active_index = None }

-- the image is put, unless a hook installs it
abbrev pub put_acts : Configuration → Work → List Act
put_acts c x = if x.image.install then [] else option_map_or (λ file. Do (step.Put x.at (put_of c x file)) ∷ []) x.image.file []

-- what hooks wrote is made to last
abbrev pub settle_acts : Work → List Act
settle_acts x = if x.image.install || x.image.post then Do (step.Settle x.job.slot) ∷ [] else []

-- the block index of an image that is put is kept, where there is a place for it
abbrev pub index_acts : Configuration → Work → List Act
index_acts c x = if not x.image.install && (x.image.adaptive && is_some c.data_directory) then Do (step.Index x.at) ∷ [] else []

-- a job that is not skipped
abbrev pub work_acts : Configuration → FactsContent → Work → List Act
work_acts c f x =
    Do (step.Begin x.job.slot) ∷ (hook_acts c f x hook_kind.Pre x.image.pre
    ++ (hook_acts c f x hook_kind.Install x.image.install
    ++ (put_acts c x
    ++ (hook_acts c f x hook_kind.Post x.image.post
    ++ (settle_acts x
    ++ (index_acts c x
    ++ Do (step.Done x.at) ∷ []))))))

-- how far the install is once so many of the jobs are done, in percent
abbrev pub percent_of : ℕ → ℕ → ℕ
percent_of done all = 40 + 50 * done / all

-- what became of a slot
abbrev pub slot_text : Text → Bool → Text
slot_text name skipped = codes "slot " ++ (name ++ (codes " " ++ (if skipped then codes "kept" else codes "written")))

abbrev pub work_note : Configuration → FactsContent → Work → Note
work_note c f x =
    note (percent_of (x.at + 1) (length f.jobs)) (slot_text x.slot.name x.skipped)

-- any job, and the note of it
abbrev pub job_acts_of : Configuration → FactsContent → Work → List Act
job_acts_of c f x = (if x.skipped then [] else work_acts c f x) ++ Tell (work_note c f x) ∷ []

-- the job at a place
abbrev pub job_acts : Configuration → FactsContent → ℕ → List Act
job_acts c f at = option_map_or (job_acts_of c f) (work_at c f at) []

-- ---- the roots

abbrev pub has_bootname : Configuration → ℕ → Bool
has_bootname c root = option_map_or (λ s. is_some s.bootname) (slice_get c.slots root) false

-- each once, in the order of their first places
abbrev pub each_once : List ℕ → List ℕ
each_once [] = []
each_once (x ∷ xs) = x ∷ filter (λ y. not (y == x)) (each_once xs)

-- a root at the end, where it has a bootname and does not stand there yet
abbrev pub with_root : Configuration → List ℕ → ℕ → List ℕ
with_root c roots root = if has_bootname c root && not (list_any (λ r. r == root) roots) then roots ++ root ∷ [] else roots

-- the roots over the slots of the jobs that have a bootname
abbrev pub target_roots : Configuration → FactsContent → List ℕ
target_roots c f = each_once (filter (has_bootname c) (map (λ job. job.root) f.jobs))

abbrev pub bad_acts : List ℕ → List Act
bad_acts roots = map (λ root. Do (step.Bad root)) roots

abbrev pub primary_acts : ℕ → List Act
primary_acts root = Do (step.Primary root) ∷ Do (step.Activated root) ∷ []

-- from the last to the first, so that the first is primary in the end
abbrev pub root_acts : List ℕ → List Act
root_acts roots = flat_map primary_acts (reverse roots)

-- ---- all of it

abbrev pub jobs_acts : Configuration → FactsContent → List Act
jobs_acts c f = flat_map (job_acts c f) (range_with_len 0 (length f.jobs))

unfoldable pub acts_of : Configuration → FactsContent → List Act
acts_of c f =
    handler_acts c f handler_kind.Pre 0
    ++ (bad_acts (target_roots c f)
    ++ (jobs_acts c f
    ++ (root_acts (target_roots c f)
    ++ (Tell (note 95 (codes "target activated"))
    ∷ (handler_acts c f handler_kind.Post (length f.jobs)
    ++ Tell (note 100 (codes "done")) ∷ [])))))

-- the steps among acts, and the notes
abbrev pub steps_in : List Act → List Step
steps_in [] = []
steps_in (Do s ∷ acts) = s ∷ steps_in acts
steps_in (Tell n ∷ acts) = steps_in acts

abbrev pub notes_in : List Act → List Note
notes_in [] = []
notes_in (Do s ∷ acts) = notes_in acts
notes_in (Tell n ∷ acts) = n ∷ notes_in acts
