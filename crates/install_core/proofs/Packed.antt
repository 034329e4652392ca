-- The parts of an install, put together.
use Rattle.std.proofs.Common.{◌≡◌, Option, inl, ℕ, zero, suc, Bool, List, [], ◌∷◌, ◌++◌, length, take, drop, Result, refl, sym, ◌∙◌, ap, subst}
use Rattle.std.specs.Prelude.{⊤}
use Rattle.std.proofs.Math.Seq.{take-append_seam}
use Rattle.machine.specs.declared.stops.Stop.{Stop}
use Rattle.machine.specs.Past.{Past}
use Rattle.raw_writer.specs.declared.put.Written.{Written}
use Rattle.slot_status.specs.Changes.{changed_at}
use Rattle.system_conf.specs.Configuration.{Configuration}
use Rattle.updater_text.specs.Sinks.{Shown}
use Rattle.install_facts.specs.Facts.{FactsContent}
use Rattle.install_facts.specs.Gathering.{Noted}
use Rattle.install_facts.specs.declared.refusal.InstallRefusal.{InstallRefusal}
use Rattle.install_facts.specs.declared.report.Note.{Note}
use Rattle.install_plan.specs.Acts.{acts_of, notes_in, steps_in}
use Rattle.install_plan.specs.declared.step.Act.{Act}
use Rattle.install_plan.specs.declared.step.Step.{Step}
use Rattle.install_plan.specs.declared.step.Step.TheVariants as step
use Rattle.install_steps.specs.Doing.{written_by}
use Rattle.install_steps.specs.Progress.{RunsActs, ends_after, with_written}
use Rattle.install_steps.specs.declared.running.JobEnd.{JobEnd}
use Rattle.install_core.specs.Course.{Answer, ChangesIf, installed_if}
use Rattle.install_core.specs.Preparing.{ends_of}

-- ---- the ends of the jobs

length-changed_at : {A : Type 0} (at : ℕ) (change : A → A) (xs : List A) → length (changed_at at change xs) ≡ length xs
length-changed_at at change [] = refl
length-changed_at zero change (x ∷ xs) = refl
length-changed_at (suc at) change (x ∷ xs) = ap suc (length-changed_at at change xs)

length-with_written : (s : Step) (written : Option Written) (ends : List JobEnd) → length (with_written s written ends) ≡ length ends
length-with_written (step.Put job put) written ends = length-changed_at job (λ (e : JobEnd). record e { written = written }) ends
length-with_written (step.Run child caller) written ends = refl
length-with_written (step.Bad root) written ends = refl
length-with_written (step.Begin slot) written ends = refl
length-with_written (step.Settle slot) written ends = refl
length-with_written (step.Index job) written ends = refl
length-with_written (step.Done job) written ends = refl
length-with_written (step.Primary root) written ends = refl
length-with_written (step.Activated root) written ends = refl

-- there is one of each job still
length-ends_after : (steps : List Step) (ends : List JobEnd) → length (ends_after steps ends) ≡ length ends
length-ends_after [] ends = refl
length-ends_after (s ∷ steps) ends = length-ends_after steps (with_written s (written_by s) ends) ∙ length-with_written s (written_by s) ends

-- a list of the same length was written in the place of another
written_back : {A : Type 0} (xs ys : List A) → length ys ≡ length xs → take (length xs) (ys ++ drop (length ys) xs) ≡ ys
written_back xs ys same = ap (λ (n : ℕ). take n (ys ++ drop (length ys) xs)) (sym same) ∙ take-append_seam ys (drop (length ys) xs)

-- ---- the steps

module _ (t : Bool) (c : Configuration) (f : FactsContent) (past : Past × Past) (stood stands : Shown → List Note → Type 0) (result : Result ⊤ (Stop InstallRefusal)) where
  -- what was done of a list is what was done of an equal one, and its ends are written back
  pub runs_same : (acts other : List Act) (before held start after : List JobEnd) → RunsActs t c f acts past (before, after) stood stands result → acts ≡ other → before ≡ held → held ≡ start
      → RunsActs t c f other past (start, take (length held) (after ++ drop (length after) held)) stood stands result
  runs_same acts other before held start after runs is here from =
      let long : length after ≡ length held = ap (λ (es : List JobEnd). length es) runs.ends_are ∙ length-ends_after (steps_in runs.progress.done) before ∙ ap (λ (es : List JobEnd). length es) here in
      subst (λ (es : List JobEnd). RunsActs t c f other past (start, es) stood stands result) (sym (written_back held after long))
      (subst (λ (es : List JobEnd). RunsActs t c f other past (es, after) stood stands result) (here ∙ from)
      (subst (λ (list : List Act). RunsActs t c f list past (before, after) stood stands result) is runs))

-- the steps were done, with these ends
pub changes_if : (t : Bool) (c : Configuration) (f : FactsContent) (g z : Past) (stood stands : Shown → List Note → Type 0) (ends : List JobEnd) (done : Result ⊤ (Stop InstallRefusal)) (answer : Answer)
    → RunsActs t c f (acts_of c f) (g, z) (ends_of f, ends) stood stands done → answer ≡ installed_if ends done → Noted stood stands (ChangesIf t c f g z answer)
changes_if t c f g z stood stands ends done answer runs is = record {
  notes = notes_in runs.progress.done;
  are = inl (record { done = done; progress = runs.progress; is = is ∙ ap (λ (es : List JobEnd). installed_if es done) runs.ends_are; noted = refl });
  added = runs.notes;
}
