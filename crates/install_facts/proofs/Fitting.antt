-- The image and the slot of a job, and whether they fit.
use Rattle.std.proofs.Common.{◌≡◌, ◌<◌, ◌≤◌, ◌+◌, ℕ, Bool, List, length, get_or, take, Option, Some, None, Ok, Err, IsTrue, option_map, option_and_then, refl, sym, ◌∙◌, ap, subst, slice_get}
use Rattle.std.proofs.lemmas.Option.{slice_get-get_or, slice_get-map, slice_get_past}
use Rattle.conf_forms.specs.Lists.{first_of}
use Rattle.conf_forms.proofs.FirstOf.{first_of_hit, first_of_more}
use Rattle.machine.specs.declared.stops.Stop.{Stop}
use Rattle.machine.specs.declared.stops.Stop.TheVariants.{Refused, Outside, NoMemory}
use Rattle.machine.specs.Frames.{Unchanged}
use Rattle.machine.specs.Past.{Fails, Past, world_now}
use Rattle.machine.specs.Stops.{stop_fault}
use Rattle.machine.proofs.Failing.{fails_join}
use Rattle.machine.proofs.Joins.{now_unchanged, unchanged_join}
use Rattle.machine.specs.declared.world.World.{World}
use Rattle.manifest.specs.Contents.{Content, ImageContent}
use Rattle.manifest.specs.Reads.{image_content, image_contents}
use Rattle.manifest.specs.declared.image.Image.{Image}
use Rattle.slot_graph.specs.declared.job.Job.{Job}
use Rattle.system_conf.specs.Configuration.{Configuration}
use Rattle.system_conf.specs.declared.slot.Slot.{Slot}
use Rattle.install_facts.specs.Answers.{Looked, Tells}
use Rattle.install_facts.specs.Facts.{all_fit, fit_refusal, image_refusal, unless}
use Rattle.install_facts.specs.declared.refusal.InstallRefusal.{InstallRefusal}

-- what stands at a place of a list that was read
pub found_in : {A : Type 0} (ys xs : List A) (i : ℕ) (x : A) → ys ≡ xs → i < length ys → x ≡ get_or ys i x → slice_get xs i ≡ Some x
found_in {A = A} ys xs i x same within is = ap (λ (zs : List A). slice_get zs i) (sym same) ∙ slice_get-get_or ys i x within ∙ ap Some (sym is)

pub past_in : {A : Type 0} (ys xs : List A) (i : ℕ) → ys ≡ xs → length ys ≤ i → slice_get xs i ≡ None
past_in {A = A} ys xs i same past = ap (λ (zs : List A). slice_get zs i) (sym same) ∙ slice_get_past ys i past

module _ (c : Configuration) (content : Content) (w : World) (job : Job) where
  -- no such image, no such slot: nothing to look at
  pub no_image : slice_get content.images job.image ≡ None → image_refusal c content w job ≡ None
  no_image none = ap (λ (o : Option ImageContent). option_and_then (λ image. option_and_then (fit_refusal c w job.image image) (slice_get c.slots job.slot)) o) none

  pub no_slot : (image : ImageContent) → slice_get content.images job.image ≡ Some image → slice_get c.slots job.slot ≡ None → image_refusal c content w job ≡ None
  no_slot image is none =
      ap (λ (o : Option ImageContent). option_and_then (λ image. option_and_then (fit_refusal c w job.image image) (slice_get c.slots job.slot)) o) is
      ∙ ap (λ (o : Option Slot). option_and_then (fit_refusal c w job.image image) o) none

  pub with_slot : (image : ImageContent) (slot : Slot) → slice_get content.images job.image ≡ Some image → slice_get c.slots job.slot ≡ Some slot → image_refusal c content w job ≡ fit_refusal c w job.image image slot
  with_slot image slot is at =
      ap (λ (o : Option ImageContent). option_and_then (λ image. option_and_then (fit_refusal c w job.image image) (slice_get c.slots job.slot)) o) is
      ∙ ap (λ (o : Option Slot). option_and_then (fit_refusal c w job.image image) o) at

-- the image at a place, as it was read
pub image_read : (images : List Image) (i : ℕ) (image : Image) → slice_get images i ≡ Some image → slice_get (image_contents images) i ≡ Some (image_content image)
image_read images i image is = slice_get-map image_content images i ∙ ap (option_map image_content) is

pub image_past : (images : List Image) (i : ℕ) → slice_get images i ≡ None → slice_get (image_contents images) i ≡ None
image_past images i none = slice_get-map image_content images i ∙ ap (option_map image_content) none

-- ---- one job after another

unless_ok : {A : Type 0} (refusal : Option InstallRefusal) (a b : A) → unless refusal a ≡ Ok b → refusal ≡ None
unless_ok None a b e = refl
unless_ok (Some why) a b e = absurd (cc)

unless_err : {A : Type 0} (refusal : Option InstallRefusal) (a : A) (why : InstallRefusal) → unless refusal a ≡ Err why → refusal ≡ Some why
unless_err None a why e = absurd (cc)
unless_err (Some x) a why e = cc

module _ (t : Bool) (c : Configuration) (content : Content) (jobs : List Job) (i : ℕ) (job : Job) (a m z : Past) where
  abbrev none_so_far : Type 0
  none_so_far = IsTrue t → first_of (image_refusal c content (world_now a)) (take i jobs) ≡ None

  -- the job at the next place fits
  pub one_fits : (x : Unit {0}) → Unchanged t a m → none_so_far → i < length jobs → Looked {R = InstallRefusal} t (Tells {T = Unit {0}} (λ x. x) (unless (image_refusal c content (world_now m) (get_or jobs i job)) tt)) m z (Ok x) → IsTrue t → first_of (image_refusal c content (world_now a)) (take (i + 1) jobs) ≡ None
  one_fits x unchanged none within looked told =
      first_of_more (image_refusal c content (world_now a)) jobs i job (none told) within
      (subst (λ (w : World). image_refusal c content w (get_or jobs i job) ≡ None) (now_unchanged t a m unchanged told)
      (unless_ok (image_refusal c content (world_now m) (get_or jobs i job)) tt x (looked.answers told)))

  refused_told : (stop : Stop InstallRefusal) → (IsTrue t → first_of (image_refusal c content (world_now a)) (take i jobs) ≡ None) → i < length jobs → world_now m ≡ world_now a → IsTrue t → Tells {T = Unit {0}} (λ x. x) (unless (image_refusal c content (world_now m) (get_or jobs i job)) tt) (Err stop)
      → Tells {T = Unit {0}} (λ x. x) (all_fit c content (world_now a) jobs) (Err stop)
  refused_told (Refused why) none within same told e =
      ap (λ (o : Option InstallRefusal). unless o tt)
      (first_of_hit (image_refusal c content (world_now a)) jobs i job why (none told) within
      (subst (λ (w : World). image_refusal c content w (get_or jobs i job) ≡ Some why) same (unless_err (image_refusal c content (world_now m) (get_or jobs i job)) tt why e)))
  refused_told (Outside kind) none within same told e = tt
  refused_told NoMemory none within same told e = tt

  -- it does not, or that is not known
  pub one_refused : (stop : Stop InstallRefusal) → Unchanged t a m → Fails t a m None → none_so_far → i < length jobs → Looked {R = InstallRefusal} t (Tells {T = Unit {0}} (λ x. x) (unless (image_refusal c content (world_now m) (get_or jobs i job)) tt)) m z (Err stop)
      → Looked t (Tells {T = Unit {0}} (λ x. x) (all_fit c content (world_now a) jobs)) a z (Err stop)
  one_refused stop unchanged fine none within looked = record {
    unchanged = unchanged_join t a m z unchanged looked.unchanged;
    answers = λ told. refused_told stop none within (now_unchanged t a m unchanged told) told (looked.answers told);
    fails = fails_join t a m z (stop_fault {T = Unit {0}} (Err stop)) fine looked.fails;
  }
