-- Acts that are done one after another: one more, and where one stops.
use Rattle.std.proofs.Common.{◌≡◌, ℕ, ◌+◌, Bool, List, [], ◌∷◌, ◌++◌, drop, get_or, length, take, Some, None, Result, Ok, Err, IsTrue, refl, sym, ◌∙◌, ap, subst, append_assoc, slice_get}
use Rattle.std.specs.Prelude.{⊤}
use Rattle.std.proofs.lemmas.List.{append-nil, drop_more, take_more, take-append-drop}
use Rattle.std.proofs.lemmas.Option.{get_or_from_slice_get, slice_get_within}
use Rattle.machine.specs.Past.{Fails, Past, world_now}
use Rattle.machine.specs.Stops.{stop_fault}
use Rattle.machine.specs.declared.stops.Stop.{Stop}
use Rattle.machine.specs.declared.stops.Stop.TheVariants.{Refused}
use Rattle.machine.proofs.Failing.{fails_join}
use Rattle.slot_status.specs.Records.{RecordContent}
use Rattle.system_conf.specs.Configuration.{Configuration}
use Rattle.updater_text.specs.Sinks.{Shown}
use Rattle.install_facts.specs.Facts.{FactsContent}
use Rattle.install_facts.specs.Notes.{AddsNotes}
use Rattle.install_facts.specs.declared.refusal.InstallRefusal.{InstallRefusal}
use Rattle.install_facts.specs.declared.report.Note.{Note}
use Rattle.install_plan.specs.Acts.{notes_in, steps_in}
use Rattle.install_plan.specs.declared.step.Act.{Act}
use Rattle.install_plan.specs.declared.step.Act.TheVariants.{Do, Tell}
use Rattle.install_plan.specs.declared.step.Step.{Step}
use Rattle.install_plan.specs.declared.step.Step.TheVariants as step
use Rattle.install_steps.specs.Causes.{StepCause}
use Rattle.install_steps.specs.Doing.{CanDo, written_by}
use Rattle.install_steps.specs.Progress.{CanAct, CanDoAll, DoesAct, DoesNoted, FitsAll, TellsNote, RunsActs, ends_after, facts_after, with_written}
use Rattle.install_steps.specs.Steady.{AreShort, StaySteady}
use Rattle.install_steps.specs.Steps.{Begun, Did, Run, book_after, changed}
use Rattle.install_steps.specs.declared.running.JobEnd.{JobEnd}
use Rattle.install_steps.proofs.StepsSteady.{all_fit_still, at_place}

-- ---- steps and notes among acts

steps_append : (xs ys : List Act) → steps_in (xs ++ ys) ≡ steps_in xs ++ steps_in ys
steps_append [] ys = refl
steps_append (Do s ∷ xs) ys = ap (λ (ss : List Step). s ∷ ss) (steps_append xs ys)
steps_append (Tell n ∷ xs) ys = steps_append xs ys

notes_append : (xs ys : List Act) → notes_in (xs ++ ys) ≡ notes_in xs ++ notes_in ys
notes_append [] ys = refl
notes_append (Do s ∷ xs) ys = notes_append xs ys
notes_append (Tell n ∷ xs) ys = ap (λ (ns : List Note). n ∷ ns) (notes_append xs ys)

-- ---- the book, whatever book the facts have

-- the facts with another book
abbrev with : FactsContent → List RecordContent → FactsContent
with f book = record f { book = book }

-- the book after acts
abbrev book_so_far : FactsContent → List Act → List RecordContent
book_so_far f done = book_after f (steps_in done) f.book

-- what steps and their causes say does not go by the book of the facts
after_same : (f : FactsContent) (b : List RecordContent) (steps : List Step) (book : List RecordContent) → book_after (with f b) steps book ≡ book_after f steps book
after_same f b [] book = refl
after_same f b (s ∷ steps) book = after_same f b steps (changed f s book)

begun_same : (c : Configuration) (f : FactsContent) (b : List RecordContent) (s : Step) (a z : Past) → Begun c (with f b) b s a z → Begun c f b s a z
begun_same c f b s a z h = record { part = h.part; keeps = h.keeps; reads = h.reads }

did_same : (c : Configuration) (f : FactsContent) (b : List RecordContent) (s : Step) (a z : Past) → Did c (with f b) b s a z → Did c f b s a z
did_same c f b s a z h = record { begun = begun_same c f b s a z h.begun; after = h.after; marks = h.marks; reads = h.reads }

cause_same : (c : Configuration) (f : FactsContent) (b : List RecordContent) (s : Step) (a z : Past) (stop : Stop InstallRefusal) → StepCause c (with f b) s (world_now a) (world_now z) stop → StepCause c f s (world_now a) (world_now z) stop
cause_same c f b (step.Put job put) a z (Refused why) h = record { found = h.found; written = h.written; other = h.other; is = h.is }
cause_same c f b s a z stop h = h

-- ---- one more step

book_more : (f : FactsContent) (steps : List Step) (s : Step) (book : List RecordContent) → book_after f (steps ++ s ∷ []) book ≡ changed f s (book_after f steps book)
book_more f [] s book = refl
book_more f (x ∷ steps) s book = book_more f steps s (changed f x book)

ends_more : (steps : List Step) (s : Step) (ends : List JobEnd) → ends_after (steps ++ s ∷ []) ends ≡ with_written s (written_by s) (ends_after steps ends)
ends_more [] s ends = refl
ends_more (x ∷ steps) s ends = ends_more steps s (with_written x (written_by x) ends)

run_more : (c : Configuration) (f : FactsContent) (steps : List Step) (s : Step) (book : List RecordContent) (a b z : Past) → Run c f book steps a b → Did c f (book_after f steps book) s b z → Run c f book (steps ++ s ∷ []) a z
run_more c f [] s book a b z same did = (z, subst (λ (p : Past). Did c f book s p z) same did, refl)
run_more c f (x ∷ steps) s book a b z ran did = (ran.0, ran.1, run_more c f steps s (changed f x book) ran.0 b z ran.2 did)

-- a step can be done after those before it
can_at : (c : Configuration) (f : FactsContent) (before after : List Step) (s : Step) → CanDoAll c f (before ++ s ∷ after) → CanDo c (with f (book_after f before f.book)) s
can_at c f [] after s can = can.0
can_at c f (x ∷ before) after s can =
    subst (λ (book : List RecordContent). CanDo c (with f book) s) (after_same f (changed f x f.book) before (changed f x f.book)) (can_at c (facts_after f x) before after s can.1)

adds_more : (a b c : Shown → List Note → Type 0) (xs ys : List Note) → AddsNotes a b xs → AddsNotes b c ys → AddsNotes a c (xs ++ ys)
adds_more a b c xs ys ab bc start notes stood = subst (λ (ns : List Note). c start ns) (append_assoc notes xs ys) (bc start (notes ++ xs) (ab start notes stood))

-- ---- the acts so far

-- these acts were done since the first past, with the facts, the ends of the jobs and the report that they leave; and all steps fit
pub record SoFar (t : Bool) (c : Configuration) (f : FactsContent) (steps : List Step) (done : List Act) (old new : Past) (facts : FactsContent) (ends now : List JobEnd) (stood stands : Shown → List Note → Type 0) : Type 0 where
  pub facts_are : facts ≡ with f (book_so_far f done)
  pub ran : IsTrue t → Run c f f.book (steps_in done) old new
  pub fits : FitsAll t new steps
  pub fails : Fails t old new None
  pub ends_are : now ≡ ends_after (steps_in done) ends
  pub notes : AddsNotes stood stands (notes_in done)

no_stop : (stop : Stop InstallRefusal) → ◌≡◌ {A = Result ⊤ (Stop InstallRefusal)} (Err stop) (Ok tt) → ⊥
no_stop stop is = cc

module _ (t : Bool) (c : Configuration) (f : FactsContent) (acts done : List Act) (old new : Past) (facts : FactsContent) (ends now : List JobEnd) (stood stands : Shown → List Note → Type 0) (so_far : SoFar t c f (steps_in acts) done old new facts ends now stood stands) where
  -- all were done
  pub all_done : done ≡ acts → RunsActs t c f acts (old, new) (ends, now) stood stands (Ok tt)
  all_done all = record {
    progress = record {
      done = done;
      rest = [];
      reached = new;
      order = sym all ∙ sym (append-nil done);
      ran = so_far.ran;
      comes_to = (refl, λ told. refl);
      fails = so_far.fails;
    };
    ends_are = so_far.ends_are;
    notes = so_far.notes;
  }

  -- a step is the next act
  module _ (later : List Act) (s : Step) (order : acts ≡ done ++ Do s ∷ later) where
    steps_are : steps_in acts ≡ steps_in done ++ s ∷ steps_in later
    steps_are = ap steps_in order ∙ steps_append done (Do s ∷ later)

    more_are : steps_in (done ++ Do s ∷ []) ≡ steps_in done ++ s ∷ []
    more_are = steps_append done (Do s ∷ [])

    can_step : CanDoAll c f (steps_in acts) → CanAct t c facts new (Do s)
    can_step can = (
      subst (λ (x : FactsContent). CanDo c x s) (sym so_far.facts_are) (can_at c f (steps_in done) (steps_in later) s (subst (λ (ss : List Step). CanDoAll c f ss) steps_are can)),
      so_far.fits.each (steps_in done) (steps_in later) s steps_are,
    )

    begun_next : (z : Past) → Begun c facts facts.book s new z → Begun c f (book_so_far f done) s new z
    begun_next z begun = begun_same c f (book_so_far f done) s new z (subst (λ (x : FactsContent). Begun c x x.book s new z) so_far.facts_are begun)

    did_next : (z : Past) → Did c facts facts.book s new z → Did c f (book_so_far f done) s new z
    did_next z did = did_same c f (book_so_far f done) s new z (subst (λ (x : FactsContent). Did c x x.book s new z) so_far.facts_are did)

    cause_next : (z : Past) (stop : Stop InstallRefusal) → StepCause c facts s (world_now new) (world_now z) stop → StepCause c f s (world_now new) (world_now z) stop
    cause_next z stop cause = cause_same c f (book_so_far f done) s new z stop (subst (λ (x : FactsContent). StepCause c x s (world_now new) (world_now z) stop) so_far.facts_are cause)

    module _ (facts' : FactsContent) (z : Past) (now' : List JobEnd) (stands' : Shown → List Note → Type 0) where
      facts_next : facts' ≡ facts_after facts s → facts' ≡ with f (book_so_far f (done ++ Do s ∷ []))
      facts_next is =
          let longer = ap (λ (ss : List Step). book_after f ss f.book) more_are ∙ book_more f (steps_in done) s f.book in
          is ∙ ap (λ (x : FactsContent). facts_after x s) so_far.facts_are ∙ ap (λ (b : List RecordContent). with f b) (sym longer)

      step_more : StaySteady c (steps_in acts) → DoesNoted t c (facts, facts') s (new, z) (now, now') stands stands' (Ok tt) → SoFar t c f (steps_in acts) (done ++ Do s ∷ []) old z facts' ends now' stood stands'
      step_more steady does = record {
        facts_are = facts_next does.facts;
        ran = λ told. subst (λ (ss : List Step). Run c f f.book ss old z) (sym more_are) (run_more c f (steps_in done) s f.book old new z (so_far.ran told) (did_next z (does.does.did told)));
        fits = all_fit_still t c f (book_so_far f done) s new z (λ told. begun_next z (does.does.begun told)) (steps_in acts) (length (steps_in done)) (at_place (steps_in acts) (steps_in done) (steps_in later) s steps_are) steady so_far.fits;
        fails = fails_join t old new z None so_far.fails does.does.fails;
        ends_are =
            does.ends_are ∙ ap (with_written s (written_by s)) so_far.ends_are
            ∙ sym (ap (λ (ss : List Step). ends_after ss ends) more_are ∙ ends_more (steps_in done) s ends);
        notes = subst (λ (ns : List Note). AddsNotes stood stands' ns) (sym (notes_append done (Do s ∷ []))) (adds_more stood stands stands' (notes_in done) [] so_far.notes does.notes);
      }

      step_stops : (stop : Stop InstallRefusal) → DoesNoted t c (facts, facts') s (new, z) (now, now') stands stands' (Err stop) → RunsActs t c f acts (old, z) (ends, now') stood stands' (Err stop)
      step_stops stop does = record {
        progress = record {
          done = done;
          rest = Do s ∷ later;
          reached = new;
          order = order;
          ran = so_far.ran;
          comes_to = record { at = s; later = later; order = refl; begun = λ told. begun_next z (does.does.begun told); cause = λ told. cause_next z stop (does.does.cause told) };
          fails = fails_join t old new z (stop_fault {T = ⊤} (Err stop)) so_far.fails does.does.fails;
        };
        ends_are = does.ends_stay ∙ so_far.ends_are;
        notes = subst (λ (ns : List Note). AddsNotes stood stands' ns) (append-nil (notes_in done)) (adds_more stood stands stands' (notes_in done) [] so_far.notes does.notes);
      }

  -- a note is
  module _ (n : Note) (facts' : FactsContent) (z : Past) (now' : List JobEnd) (stands' : Shown → List Note → Type 0) where
    note_more : TellsNote (facts, facts') n (new, z) (now, now') stands stands' (Ok tt) → SoFar t c f (steps_in acts) (done ++ Tell n ∷ []) old z facts' ends now' stood stands'
    note_more tells =
        let same : steps_in done ≡ steps_in (done ++ Tell n ∷ []) = sym (steps_append done (Tell n ∷ []) ∙ append-nil (steps_in done)) in
        let back : new ≡ z = sym tells.past_is in
        record {
          facts_are = tells.facts ∙ so_far.facts_are ∙ ap (λ (ss : List Step). with f (book_after f ss f.book)) same;
          ran = λ told. subst (λ (p : Past). Run c f f.book (steps_in (done ++ Tell n ∷ [])) old p) back (subst (λ (ss : List Step). Run c f f.book ss old new) same (so_far.ran told));
          fits = subst (λ (p : Past). FitsAll t p (steps_in acts)) back so_far.fits;
          fails = subst (λ (p : Past). Fails t old p None) back so_far.fails;
          ends_are = tells.ends_are ∙ so_far.ends_are ∙ ap (λ (ss : List Step). ends_after ss ends) same;
          notes = subst (λ (ns : List Note). AddsNotes stood stands' ns) (sym (notes_append done (Tell n ∷ []))) (adds_more stood stands stands' (notes_in done) (n ∷ []) so_far.notes tells.notes);
        }

  -- any act is
  module _ (later : List Act) where
    pub can_act : (act : Act) → acts ≡ done ++ act ∷ later → CanDoAll c f (steps_in acts) → AreShort (notes_in acts) → CanAct t c facts new act
    can_act (Do s) order can short = can_step later s order can
    can_act (Tell n) order can short = short (length (notes_in done)) n (at_place (notes_in acts) (notes_in done) (notes_in later) n (ap notes_in order ∙ notes_append done (Tell n ∷ later)))

    module _ (facts' : FactsContent) (z : Past) (now' : List JobEnd) (stands' : Shown → List Note → Type 0) where
      pub act_more : (act : Act) → acts ≡ done ++ act ∷ later → StaySteady c (steps_in acts) → DoesAct t c (facts, facts') act (new, z) (now, now') stands stands' (Ok tt) → SoFar t c f (steps_in acts) (done ++ act ∷ []) old z facts' ends now' stood stands'
      act_more (Do s) order steady does = step_more later s order facts' z now' stands' steady does
      act_more (Tell n) order steady tells = note_more n facts' z now' stands' tells

      pub act_stops : (act : Act) (stop : Stop InstallRefusal) → acts ≡ done ++ act ∷ later → DoesAct t c (facts, facts') act (new, z) (now, now') stands stands' (Err stop) → RunsActs t c f acts (old, z) (ends, now') stood stands' (Err stop)
      act_stops (Do s) stop order does = step_stops later s order facts' z now' stands' stop does
      act_stops (Tell n) stop order tells = let bad : ⊥ = no_stop stop tells.done in absurd bad

-- the act at a place, in a loop over them
pub act_order : (acts : List Act) (n : ℕ) (act : Act) → slice_get acts n ≡ Some act → acts ≡ take n acts ++ act ∷ drop (n + 1) acts
act_order acts n act at =
    let here : get_or acts n act ≡ act = get_or_from_slice_get acts n act act at in
    sym (take-append-drop n acts) ∙ ap (λ (xs : List Act). take n acts ++ xs) (drop_more acts n act (slice_get_within acts n act at)) ∙ ap (λ (x : Act). take n acts ++ x ∷ drop (n + 1) acts) here

pub longer_by : (acts : List Act) (n : ℕ) (act : Act) → slice_get acts n ≡ Some act → take n acts ++ act ∷ [] ≡ take (n + 1) acts
longer_by acts n act at =
    let here : get_or acts n act ≡ act = get_or_from_slice_get acts n act act at in
    sym (take_more acts n act (slice_get_within acts n act at) ∙ ap (λ (x : Act). take n acts ++ x ∷ []) here)
