-- Success is answered after all steps alone.
use Rattle.std.proofs.Common.{◌≡◌, inl, inr, Bool, List, ◌++◌, Result, Ok, Err, Some, IsTrue, sym, ◌∙◌, ap, subst}
use Rattle.std.specs.Prelude.{⊤}
use Rattle.std.proofs.lemmas.List.{append-nil}
use Rattle.machine.specs.declared.stops.Stop.{Stop}
use Rattle.machine.specs.declared.stops.Stop.TheVariants.{NoMemory}
use Rattle.machine.specs.Past.{Past}
use Rattle.system_conf.specs.Configuration.{Configuration}
use Rattle.system_conf.specs.declared.slot.Slot.{Slot}
use Rattle.child_steps.specs.declared.mounted.Mounted.{Mounted}
use Rattle.child_steps.specs.Mounting.{MountEnds}
use Rattle.updater_text.specs.Sinks.{Shown}
use Rattle.install_facts.specs.Answers.{TellsIf}
use Rattle.install_facts.specs.Facts.{FactsContent, facts_content}
use Rattle.install_facts.specs.Gathering.{facts_since}
use Rattle.install_facts.specs.declared.facts.Facts.{Facts}
use Rattle.install_facts.specs.declared.refusal.InstallRefusal.{InstallRefusal}
use Rattle.install_facts.specs.declared.report.Note.{Note}
use Rattle.install_facts.specs.declared.request.Request.{Request}
use Rattle.install_plan.specs.Acts.{acts_of, steps_in}
use Rattle.install_plan.specs.declared.step.Act.{Act}
use Rattle.install_steps.specs.Progress.{Progress, ends_after}
use Rattle.install_steps.specs.Steps.{Run}
use Rattle.install_steps.specs.declared.running.Installed.{Installed}
use Rattle.install_core.specs.Course.{Answer, Course, Follows, Installs, IsEnd, installed_if}
use Rattle.install_core.specs.Done.{DoneAtSuccess, IsDone}
use Rattle.install_core.specs.Preparing.{ends_of}
use Rattle.install_core.specs.declared.ending.InstallEnd.{InstallEnd}

abbrev done_with : Installed → Answer
done_with installed = Ok installed

no_stop : (stop : Stop InstallRefusal) (y : Installed) (answer : Answer) → answer ≡ Err stop → answer ≡ done_with y → ⊥
no_stop stop y answer is e = cc

same_jobs : (x y : Installed) → done_with x ≡ done_with y → y.jobs ≡ x.jobs
same_jobs x y e = ap (λ (i : Installed). i.jobs) (sym (one x y e))
  where
    one : (x y : Installed) → done_with x ≡ done_with y → x ≡ y
    one x y e = cc

-- the answer is the success that is given
succeeded_with : (slots : List Slot) (answer : Answer) (end : InstallEnd) (installed : Installed) → IsEnd slots answer end → end.result ≡ done_with installed → answer ≡ done_with installed
succeeded_with slots (Ok other) end installed is e = sym is.0 ∙ e
succeeded_with slots (Err stop) end installed (inl h) e = sym h.0 ∙ e
succeeded_with slots (Err stop) end installed (inr h) e = absurd (no_stop NoMemory installed end.result h.0 e)

module _ (t : Bool) (c : Configuration) (r : Request) (old mounted g z : Past) (bundle : Mounted) (mounts : IsTrue t → MountEnds c r.bundle old mounted (Ok bundle)) (answer : Answer) (installed : Installed) (is : answer ≡ done_with installed) where
  whole : (f : FactsContent) (gathers : IsTrue t → facts_since c r mounted g ≡ Some (Ok f)) (done : Result ⊤ (Stop InstallRefusal)) (p : Progress t c f (acts_of c f) g z done) → answer ≡ installed_if (ends_after (steps_in p.done) (ends_of f)) done → IsDone t c r old installed
  whole f gathers (Ok x) p so =
      let all : p.done ≡ acts_of c f = sym (p.order ∙ ap (λ (rest : List Act). p.done ++ rest) p.comes_to.0 ∙ append-nil p.done) in record {
        mounted = mounted;
        gathered = g;
        worked = p.reached;
        bundle = bundle;
        facts = f;
        mounts = mounts;
        gathers = gathers;
        ran = λ told. subst (λ (acts : List Act). Run c f f.book (steps_in acts) g p.reached) all (p.ran told);
        jobs = same_jobs (record { jobs = ends_after (steps_in p.done) (ends_of f) }) installed (sym so ∙ is) ∙ ap (λ (acts : List Act). ends_after (steps_in acts) (ends_of f)) all;
      }
  whole f gathers (Err stop) p so = absurd (no_stop stop installed answer so is)

  followed : (facts : Result Facts (Stop InstallRefusal)) (notes : List Note) → (IsTrue t → TellsIf facts_content (facts_since c r mounted g) facts) → Follows t c g z facts answer notes → IsDone t c r old installed
  followed (Err stop) notes told h = absurd (no_stop stop installed answer h.0 is)
  followed (Ok facts) notes told (inr h) = absurd (no_stop NoMemory installed answer h.is is)
  followed (Ok facts) notes told (inl h) = whole (facts_content facts) told h.done h.progress h.is

-- where success is answered, all was done
pub done_at_success : (t : Bool) (c : Configuration) (r : Request) (old new : Past) (stood stands : Shown → List Note → Type 0) (end : InstallEnd) → Installs t c r old new stood stands end → DoneAtSuccess t c r old end
done_at_success t c r old new stood stands end went = record {
  done = λ installed e. by_course installed (succeeded_with c.slots went.answer end installed went.is e) went.course;
}
  where
    by_course : (installed : Installed) → went.answer ≡ done_with installed → Course t c r old new went.answer end.closing end.book_unread went.notes → IsDone t c r old installed
    by_course installed is (inl h) = absurd (no_stop _ installed went.answer h.is is)
    by_course installed is (inr h) =
        let works = h.worked_on.works in
        followed t c r old h.mounted works.gathered h.worked_on.worked h.bundle h.ends went.answer installed is works.facts works.after works.gathers.answers works.follows
