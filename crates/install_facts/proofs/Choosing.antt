-- Which image goes to which slot, and when.
use Rattle.std.proofs.Common.{◌∙◌, Bool, IsTrue, ℤ, ◌≡◌, ◌<◌, ℕ, List, length, Option, Some, None, Result, Ok, Err, refl, sym, ap, subst, slice_get, option_map}
use Rattle.std.proofs.lemmas.List.FromFn.{length-map-range_with_len}
use Rattle.std.proofs.lemmas.Option.{slice_get_within}
use Rattle.conf_forms.specs.Lists.{first_of}
use Rattle.machine.specs.declared.stops.Stop.{Stop}
use Rattle.machine.specs.declared.stops.Stop.TheVariants.{Refused, Outside, NoMemory}
use Rattle.machine.specs.Past.{Grows, Past, world_now}
use Rattle.machine.specs.Stops.{stop_fault}
use Rattle.machine.proofs.Failing.{fails_join}
use Rattle.machine.proofs.Joins.{now_unchanged, unchanged_join}
use Rattle.slot_graph.specs.Booted.{state_of, states_of}
use Rattle.slot_graph.specs.declared.state.Booted.{Booted}
use Rattle.status_file.specs.Clock.{clock_since}
use Rattle.status_file.proofs.Clocks.{clock_after}
use Rattle.install_facts.specs.declared.choose.Chosen.{Chosen}
use Rattle.machine.specs.declared.world.World.{World}
use Rattle.manifest.specs.Contents.{ImageContent}
use Rattle.slot_graph.specs.Jobs.{ArePlaced, assigned}
use Rattle.slot_graph.specs.declared.assigning.AssignRefusal.{AssignRefusal}
use Rattle.slot_graph.specs.declared.job.Job.{Job}
use Rattle.slot_graph.specs.declared.state.SlotState.{SlotState}
use Rattle.running_system.specs.Running.{what_is_mounted}
use Rattle.system_conf.specs.Configuration.{Configuration}
use Rattle.system_conf.specs.Parents.{IsRoot}
use Rattle.system_conf.specs.declared.slot.Slot.{Slot}
use Rattle.install_facts.specs.Answers.{Looked, Tells, TellsIf}
use Rattle.install_facts.specs.Facts.{all_fit, image_refusal, fitting_jobs, free_jobs, ChosenContent, Told, after, chosen_content, chosen_of, timed_jobs, HasPlaces, KnownContent, fits, jobs_assigned, jobs_with, unless}
use Rattle.install_facts.specs.declared.refusal.InstallRefusal.{InstallRefusal}

-- a slot that is the root over another is one of the slots
root_within : (slots : List Slot) (root : ℕ) → IsRoot slots root → root < length slots
root_within slots root is = go (slice_get slots root) refl is
  where
    go : (o : Option Slot) → slice_get slots root ≡ o → option_map (λ slot. slot.parent) o ≡ Some None → root < length slots
    go (Some slot) at e = slice_get_within slots root slot at
    go None at e = absurd (cc)

-- there is a state of each slot
pub as_many : (states : List SlotState) (slots : List Slot) (b : Booted) → states ≡ states_of slots b → length states ≡ length slots
as_many states slots b is = ap (λ (ss : List SlotState). length ss) is ∙ length-map-range_with_len (state_of slots b) 0 (length slots)

-- the slots and roots of jobs that are placed have records
pub has_places : (slots : List Slot) (states : List SlotState) (images : List ImageContent) (jobs : List Job) (count : ℕ) → count ≡ length slots → ArePlaced slots states images jobs → HasPlaces count jobs
has_places slots states images jobs count all placed = record {
  slots = λ j job is. subst (λ (n : ℕ). job.slot < n) (sym all) (placed.each j job is).slot;
  roots = λ j job is. subst (λ (n : ℕ). job.root < n) (sym all) (root_within slots job.root (placed.each j job is).under.under.0);
}

-- the jobs are assigned, no slot is in the way, and then the images are looked at
module _ (t : Bool) (c : Configuration) (k : KnownContent) (states : List SlotState) (jobs : List Job) (a m z : Past) (x : Unit {0}) (known : states ≡ states_of c.slots k.booted)
    (assigns : jobs_assigned (assigned c.slots states k.content.images) ≡ Ok jobs)
    (free : Looked {R = InstallRefusal} t (Tells {T = Unit {0}} (λ x. jobs) (free_jobs c k.content jobs (what_is_mounted (world_now a)))) a m (Ok x)) where
  as_assigned : (r : Result (List Job) AssignRefusal) → jobs_assigned r ≡ Ok jobs → r ≡ Ok jobs
  as_assigned (Ok js) e = cc
  as_assigned (Err other) e = absurd (cc)

  -- what is asked for is whether the images fit
  fitting_here : IsTrue t → fitting_jobs c k (world_now a) ≡ unless (first_of (image_refusal c k.content (world_now m)) jobs) jobs
  fitting_here told =
      ap (λ (ss : List SlotState). fits c k.content (world_now a) (jobs_with c k.content (assigned c.slots ss k.content.images) (what_is_mounted (world_now a)))) (sym known)
      ∙ ap (λ (r : Result (List Job) AssignRefusal). fits c k.content (world_now a) (jobs_with c k.content r (what_is_mounted (world_now a)))) (as_assigned (assigned c.slots states k.content.images) assigns)
      ∙ ap (λ (r : Result (List Job) InstallRefusal). fits c k.content (world_now a) r) (free.answers told)
      ∙ ap (λ (w : World). unless (first_of (image_refusal c k.content w) jobs) jobs) (sym (now_unchanged t a m free.unchanged told))

  all_fit_ok : (refusal : Option InstallRefusal) (u v : Unit {0}) → unless refusal u ≡ Ok v → unless refusal jobs ≡ Ok jobs
  all_fit_ok None u v e = refl
  all_fit_ok (Some why) u v e = absurd (cc)

  all_fit_err : (refusal : Option InstallRefusal) (u : Unit {0}) (why : InstallRefusal) → unless refusal u ≡ Err why → unless refusal jobs ≡ Err why
  all_fit_err None u why e = absurd (cc)
  all_fit_err (Some other) u why e = cc

  pub fitting_looked : (v : Unit {0}) → Looked {R = InstallRefusal} t (Tells {T = Unit {0}} (λ x. x) (all_fit c k.content (world_now m) jobs)) m z (Ok v) → Looked t (Tells (λ x. x) (fitting_jobs c k (world_now a))) a z (Ok jobs)
  fitting_looked v looked = record {
    unchanged = unchanged_join t a m z free.unchanged looked.unchanged;
    answers = λ told. fitting_here told ∙ all_fit_ok (first_of (image_refusal c k.content (world_now m)) jobs) tt v (looked.answers told);
    fails = fails_join t a m z None free.fails looked.fails;
  }

  unfit_told : (stop : Stop InstallRefusal) → IsTrue t → Tells {T = Unit {0}} (λ x. x) (all_fit c k.content (world_now m) jobs) (Err stop) → Tells {T = List Job} (λ x. x) (fitting_jobs c k (world_now a)) (Err stop)
  unfit_told (Refused why) told e = fitting_here told ∙ all_fit_err (first_of (image_refusal c k.content (world_now m)) jobs) tt why e
  unfit_told (Outside kind) told e = tt
  unfit_told NoMemory told e = tt

  pub unfit_looked : (stop : Stop InstallRefusal) → Looked {R = InstallRefusal} t (Tells {T = Unit {0}} (λ x. x) (all_fit c k.content (world_now m) jobs)) m z (Err stop) → Looked t (Tells {T = List Job} (λ x. x) (fitting_jobs c k (world_now a))) a z (Err stop)
  unfit_looked stop looked = record {
    unchanged = unchanged_join t a m z free.unchanged looked.unchanged;
    answers = λ told. unfit_told stop told (looked.answers told);
    fails = fails_join t a m z (stop_fault {T = Unit {0}} (Err stop)) free.fails looked.fails;
  }

-- ---- and the time

module _ (c : Configuration) (k : KnownContent) (jobs : List Job) (a m z : Past) where
  -- what follows the jobs
  pub timed_after : (result : Result Chosen (Stop InstallRefusal)) → Grows a m → Grows m z → clock_since a m ≡ None → world_now z ≡ world_now a → fitting_jobs c k (world_now a) ≡ Ok jobs
      → TellsIf chosen_content (timed_jobs c k jobs (clock_since m z)) result → TellsIf chosen_content (chosen_of c k (world_now a) (clock_since a z)) result
  timed_after result am mz silent same fit told =
      let said : clock_since a z ≡ clock_since m z = clock_after a m z silent am mz in
      let is : chosen_of c k (world_now a) (clock_since a z) ≡ timed_jobs c k jobs (clock_since m z) =
      ap (λ (clock : Option ℤ). chosen_of c k (world_now a) clock) said
      ∙ ap (λ (r : Result (List Job) InstallRefusal). after (Some r) (λ js. timed_jobs c k js (clock_since m z))) fit in
      subst (λ (o : Told ChosenContent). TellsIf chosen_content o result) (sym is) told
