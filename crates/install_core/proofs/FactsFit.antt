-- The images of facts that were gathered fit.
use Rattle.std.proofs.Common.{◌≡◌, List, Option, Some, None, Result, Ok, Err, refl, subst}
use Rattle.std.specs.Prelude.{IfOk}
use Rattle.conf_forms.specs.Lists.{first_of}
use Rattle.machine.specs.declared.stops.Stop.{Stop}
use Rattle.machine.specs.declared.world.World.{World}
use Rattle.machine.specs.Past.{Past, world_now}
use Rattle.machine.specs.Runs.{runs_since}
use Rattle.manifest.specs.Contents.{Content}
use Rattle.running_system.specs.Running.{what_runs}
use Rattle.slot_graph.specs.declared.job.Job.{Job}
use Rattle.status_file.specs.Clock.{clock_since}
use Rattle.system_conf.specs.Configuration.{Configuration}
use Rattle.install_facts.specs.Answers.{TellsIf}
use Rattle.install_facts.specs.Facts.{ChosenContent, FactsContent, Told, accepted_in, after, booted_known, chosen_of, chosen_with, facts_content, facts_from, facts_in, fits, fitting_jobs, image_refusal, jobs_in, time_told, timed_jobs, unless}
use Rattle.install_facts.specs.Gathering.{facts_since}
use Rattle.install_facts.specs.declared.facts.Facts.{Facts}
use Rattle.install_facts.specs.declared.refusal.InstallRefusal.{InstallRefusal}
use Rattle.install_facts.specs.declared.request.Request.{Request}
use Rattle.install_core.specs.Course.{ImagesFit}

told_one : {A : Type 0} (x y : A) → Some x ≡ Some y → x ≡ y
told_one x y e = cc

abbrev as_ok : {A : Type 0} → A → Result A InstallRefusal
as_ok x = Ok x

ok_one : {A : Type 0} (x y : A) → as_ok x ≡ as_ok y → x ≡ y
ok_one x y e = cc

-- where all of it gives an answer, so does its first part
pub after_ok : {A B : Type 0} (o : Told A) (next : A → Told B) (b : B) → after o next ≡ Some (Ok b) → (a : A) × (o ≡ Some (Ok a)) × (next a ≡ Some (Ok b))
after_ok None next b e = absurd (cc)
after_ok (Some (Err why)) next b e = absurd (cc)
after_ok (Some (Ok a)) next b e = (a, refl, e)

unless_ok : {A : Type 0} (refusal : Option InstallRefusal) (a b : A) → unless refusal a ≡ Ok b → (refusal ≡ None) × (a ≡ b)
unless_ok None a b e = (refl, ok_one a b e)
unless_ok (Some why) a b e = absurd (cc)

fits_ok : (c : Configuration) (content : Content) (w : World) (assigned : Result (List Job) InstallRefusal) (jobs : List Job) → fits c content w assigned ≡ Ok jobs → first_of (image_refusal c content w) jobs ≡ None
fits_ok c content w (Ok js) jobs e =
    let both = unless_ok (first_of (image_refusal c content w) js) js jobs e in
    subst (λ (list : List Job). first_of (image_refusal c content w) list ≡ None) both.1 both.0
fits_ok c content w (Err why) jobs e = absurd (cc)

module _ (c : Configuration) (r : Request) (a g : Past) where
  fit_in : (f : FactsContent) → facts_since c r a g ≡ Some (Ok f) → first_of (image_refusal c f.content (world_now g)) f.jobs ≡ None
  fit_in f told =
      let notes = runs_since (world_now a) (world_now g) in
      let clock = clock_since a g in
      let b = after_ok (Some (booted_known (what_runs c.slots r.given_boot (world_now a)))) (λ b. facts_in c r b (world_now a) (world_now g) notes clock) f told in
      let k = after_ok (accepted_in c r b.0 (world_now a) notes) (λ k. after (chosen_of c k (world_now g) clock) (λ x. Some (Ok (facts_from c k x)))) f b.2 in
      let x = after_ok (chosen_of c k.0 (world_now g) clock) (λ x. Some (Ok (facts_from c k.0 x))) f k.2 in
      let jobs = after_ok (Some (fitting_jobs c k.0 (world_now g))) (λ jobs. timed_jobs c k.0 jobs clock) x.0 x.1 in
      let now = after_ok (time_told jobs.0 k.0.book c.status_file clock) (λ now. Some (Ok (chosen_with c k.0 jobs.0 now))) x.0 jobs.2 in
      let none = fits_ok c k.0.content (world_now g) (jobs_in c k.0 (world_now g)) jobs.0 (told_one (fitting_jobs c k.0 (world_now g)) (Ok jobs.0) jobs.1) in
      let chosen : chosen_with c k.0 jobs.0 now.0 ≡ x.0 = ok_one (chosen_with c k.0 jobs.0 now.0) x.0 (told_one (Ok (chosen_with c k.0 jobs.0 now.0)) (Ok x.0) now.2) in
      let made : facts_from c k.0 x.0 ≡ f = ok_one (facts_from c k.0 x.0) f (told_one (Ok (facts_from c k.0 x.0)) (Ok f) x.2) in
      subst (λ (o : FactsContent). first_of (image_refusal c o.content (world_now g)) o.jobs ≡ None) made
      (subst (λ (y : ChosenContent). first_of (image_refusal c k.0.content (world_now g)) y.jobs ≡ None) chosen none)

  -- what was gathered fits in the world in which it was
  pub images_fit : (facts : Result Facts (Stop InstallRefusal)) → TellsIf facts_content (facts_since c r a g) facts → IfOk facts (ImagesFit c (world_now g))
  images_fit (Ok facts) told = fit_in (facts_content facts) told
  images_fit (Err stop) told = tt
