-- An install, as the program runs it.
use Rattle.std.proofs.Common.{◌≡◌, inl, inr, ℕ, Bool, true, false, List, [], ◌∷◌, ◌++◌, codes, decimal, Option, Some, None, Result, Ok, Err, IsTrue, IfOk, refl, sym, ◌∙◌, ap, subst}
use Rattle.std.proofs.lemmas.List.{append-nil}
use Rattle.updater_text.specs.Sinks.{Put, Shown, WritesText}
use Rattle.updater_text.specs.declared.stops.NoMemory.{NoMemory}
use Rattle.machine.specs.declared.stops.Fault.{Fault}
use Rattle.machine.specs.declared.stops.Stop.{Stop}
use Rattle.machine.specs.declared.stops.Stop.TheVariants as stop
use Rattle.machine.specs.Faults.{fault_cause}
use Rattle.machine.specs.Frames.{Unchanged}
use Rattle.machine.specs.Past.{Fails, Grows, Moment, Past, moments_since}
use Rattle.machine.specs.Runs.{first_failed_but}
use Rattle.machine.proofs.Failing.{fails_join, fails_none}
use Rattle.machine.proofs.Joins.{unchanged_join, unchanged_none}
use Rattle.machine.proofs.Moments.{grows_refl, grows_trans}
use Rattle.child_steps.specs.declared.close.Closing.{Closing}
use Rattle.child_steps.specs.declared.close.Closing.TheVariants as closing
use Rattle.system_conf.specs.Configuration.{Configuration}
use Rattle.install_facts.specs.declared.facts.Facts.{Facts}
use Rattle.install_facts.specs.declared.refusal.InstallRefusal.{InstallRefusal}
use Rattle.install_facts.specs.declared.report.Note.{Note}
use Rattle.install_facts.specs.declared.request.Request.{Request}
use Rattle.install_core.specs.Course.{Answer, Course, Follows, Works, first_note}
use Rattle.install_core.specs.Done.{DoneAtSuccess}
use Rattle.install_core.specs.Faults.{FaultTold}
use Rattle.install_core.specs.Untouched.{LeavesUntouched}
use Rattle.install_notes.specs.Lines.{Tells, note_line, note_lines}
use Rattle.install_notes.specs.declared.telling.Told.{Told}
use Rattle.rauc_cli.specs.declared.outcome.Outcome.{Outcome}
use Rattle.rauc_cli.specs.declared.outcome.Outcome.TheVariants as end
use Rattle.rauc_cli.specs.declared.outcome.Report.{Report}
use Rattle.rauc_cli.specs.Lines.{install_report, install_warnings, installed_line, outside, report_by}
use Rattle.rauc_cli.specs.Plans.{IsPlanned, ReportsBy, install_plan}
use Rattle.rauc_cli.specs.Ends.{Ended, InstallTexts, NoteLines, RunsBy, behind}

-- ---- its plan: each failed call is told by the report itself

all_pass : (ms : List Moment) → first_failed_but (λ call. true) ms ≡ None
all_pass [] = refl
all_pass (m ∷ ms) = all_pass ms

module _ (c : Configuration) (r : Request) (a b : Past) (report : Report) where
  planned : (install_plan c r a b).Reports report → IsPlanned (install_plan c r a b) a b report
  planned h = subst (λ (o : Option Fault). ReportsBy (install_plan c r a b) o report) (sym (all_pass (moments_since a b))) h

  reported : IsPlanned (install_plan c r a b) a b report → (install_plan c r a b).Reports report
  reported h = subst (λ (o : Option Fault). ReportsBy (install_plan c r a b) o report) (all_pass (moments_since a b)) h

-- a call failed before it
pub failed_install : (t : Bool) (c : Configuration) (r : Request) (a b : Past) (kind : Fault) (result : Result Report NoMemory) → Unchanged t a b → Fails t a b (Some kind) → IfOk result (λ r. r ≡ outside kind) → Ended t (install_plan c r a b) a b result
failed_install t c r a b kind (Ok report) unchanged fails is = record {
  on_the_way = λ told. record { grows = fails.grows told; each = λ u h. tt };
  reported = λ told.
      planned c r a b report (inr (record {
        kind = kind;
        unchanged = subst (λ (x : Bool). Unchanged x a b) told unchanged;
        fails = subst (λ (x : Bool). Fails x a b (Some kind)) told fails;
        is = is;
      }));
  at_the_end = λ told none. tt;
}
failed_install t c r a b kind (Err memory) unchanged fails is = record {
  on_the_way = λ told. record { grows = fails.grows told; each = λ u h. tt };
  reported = λ told. tt;
  at_the_end = λ told. tt;
}

-- what changes nothing came before it
module _ (c : Configuration) (r : Request) (a b z : Past) (unchanged : Unchanged true a b) (fine : Fails true a b None) (report : Report) where
  from_start : (install_plan c r b z).Reports report → (install_plan c r a z).Reports report
  from_start (inl h) = inl (record {
    loaded = h.loaded;
    unchanged = unchanged_join true a b h.loaded unchanged h.unchanged;
    fine = fails_join true a b h.loaded None fine h.fine;
    notes = h.notes;
    end = h.end;
    ends = h.ends;
    is = h.is;
  })
  from_start (inr h) = inr (record {
    kind = h.kind;
    unchanged = unchanged_join true a b z unchanged h.unchanged;
    fails = fails_join true a b z (Some h.kind) fine h.fails;
    is = h.is;
  })

pub install_later : (t : Bool) (c : Configuration) (r : Request) (a b z : Past) (result : Result Report NoMemory) → Unchanged t a b → Fails t a b None → Ended t (install_plan c r b z) b z result → Ended t (install_plan c r a z) a z result
install_later t c r a b z (Ok report) unchanged fine rest = record {
  on_the_way = λ told. record { grows = grows_trans a b z (fine.grows told) (rest.on_the_way told).grows; each = λ u h. tt };
  reported = λ told.
      let unchanged1 = subst (λ (x : Bool). Unchanged x a b) told unchanged in
      let fine1 = subst (λ (x : Bool). Fails x a b None) told fine in
      planned c r a z report (from_start c r a b z unchanged1 fine1 report (reported c r b z report (rest.reported told)));
  at_the_end = λ told none. tt;
}
install_later t c r a b z (Err memory) unchanged fine rest = record {
  on_the_way = λ told. record { grows = grows_trans a b z (fine.grows told) (rest.on_the_way told).grows; each = λ u h. tt };
  reported = λ told. tt;
  at_the_end = λ told. tt;
}

-- ---- its texts

-- these outcomes an install may have
abbrev IsOfInstall : Outcome → Type 0
IsOfInstall end.Done = Unit {0}
IsOfInstall (end.Install why) = Unit {0}
IsOfInstall (end.Outside kind) = Unit {0}
IsOfInstall end.NoMemory = Unit {0}
IsOfInstall outcome = ⊥

of_install : (last : List ℕ) (notes : List Note) (warnings : List ℕ) (line : Option (List ℕ)) (result : Answer) → IsOfInstall (report_by last notes warnings line result).outcome
of_install last notes warnings line (Ok installed) = tt
of_install last notes warnings line (Err (stop.Refused why)) = tt
of_install last notes warnings line (Err (stop.Outside kind)) = tt
of_install last notes warnings line (Err stop.NoMemory) = tt

pub no_install : (bundle : List ℕ) (report : Report) (outcome : Outcome) → InstallTexts bundle report → report.outcome ≡ outcome → IsOfInstall outcome
no_install bundle report outcome texts is =
    let e = texts.end in
    subst (λ (o : Outcome). IsOfInstall o) (sym (ap (λ (r : Report). r.outcome) texts.is) ∙ is)
    (of_install (installed_line bundle) texts.notes (install_warnings e.book_unread e.closing) e.line e.result)

-- a call failed before it
pub install_outside : (bundle : List ℕ) (kind : Fault) → InstallTexts bundle (outside kind)
install_outside bundle kind = record {
  slots = [];
  answer = Err (stop.Outside kind);
  notes = [];
  end = record { result = Err (stop.Outside kind); closing = closing.NotMounted; book_unread = false; line = Some (fault_cause kind) };
  line = inl (refl, refl);
  is = refl;
}

-- ---- its notes, and then its report

same_grow : (a b : Past) → b ≡ a → Grows a b
same_grow a b same = subst (λ (p : Past). Grows a p) (sym same) (grows_refl a)

module _ (c : Configuration) (r : Request) (answer : Answer) where
  followed : (g z : Past) (facts : Result Facts (Stop InstallRefusal)) (notes : List Note) → Follows true c g z facts answer notes → Grows g z
  followed g z (Ok facts) notes (inl h) = h.progress.fails.grows refl
  followed g z (Ok facts) notes (inr h) = same_grow g z (h.nothing refl)
  followed g z (Err why) notes h = same_grow g z (h.1 refl)

  worked : (a z : Past) (unread : Bool) (notes : List Note) → Works true c r a z answer unread notes → Grows a z
  worked a z unread notes h = grows_trans a h.gathered z (h.gathers.fails.grows refl) (followed h.gathered z h.facts h.after h.follows)

  course_grows : (a b : Past) (closed : Closing) (unread : Bool) (notes : List Note) → Course true c r a b answer closed unread notes → Grows a b
  course_grows a b closed unread notes (inl h) = h.fails.grows refl
  course_grows a b closed unread notes (inr h) =
      let inner = h.worked_on in
      grows_trans a h.mounted b (h.fails.grows refl)
      (grows_trans h.mounted inner.worked b (worked h.mounted inner.worked unread inner.later inner.works) (inner.spares.all refl).grows)

-- there is a first note, so that there are lines
begins : (t : Bool) (c : Configuration) (r : Request) (answer : Answer) (a b : Past) (closed : Closing) (unread : Bool) (notes : List Note) → Course t c r a b answer closed unread notes → (later : List Note) × (notes ≡ first_note ∷ later)
begins t c r answer a b closed unread notes (inl h) = ([], h.noted)
begins t c r answer a b closed unread notes (inr h) = (h.later, h.noted)

no_line : (note : Note) → note_line note ≡ [] → ⊥
no_line note none = absurd (after (decimal note.percent) none)
  where
    after : (digits : List ℕ) → digits ++ (codes "% " ++ (note.text ++ codes "\n")) ≡ [] → ⊥
    after [] e = let bad : ⊥ = cc in bad
    after (d ∷ digits) e = let bad : ⊥ = cc in bad

some_lines : (notes later : List Note) → notes ≡ first_note ∷ later → note_lines notes ≡ [] → ⊥
some_lines notes later is none = no_line first_note (first_empty (note_line first_note) (note_lines later) (sym (ap note_lines is) ∙ none))
  where
    first_empty : (line rest : List ℕ) → line ++ rest ≡ [] → line ≡ []
    first_empty [] rest e = refl
    first_empty (c ∷ line) rest e = let bad : ⊥ = cc in absurd bad

writes_put : (a b : Shown) (text : List ℕ) (whole : Bool) → (text ≡ [] → ⊥) → Put a b text whole → WritesText a b text true whole
writes_put a b [] whole some put = absurd (some refl)
writes_put a b (x ∷ xs) whole some put = put

-- a report behind the notes
behind_notes : (last : List ℕ) (notes : List Note) (warnings : List ℕ) (line : Option (List ℕ)) (result : Answer) (report : Report) → report ≡ report_by last [] warnings line result → record report { out = note_lines notes ++ report.out } ≡ report_by last notes warnings line result
behind_notes last notes warnings line (Ok installed) report is = ap (λ (r : Report). record r { out = note_lines notes ++ r.out }) is
behind_notes last notes warnings line (Err why) report is =
    ap (λ (r : Report). record r { out = note_lines notes ++ r.out }) is
    ∙ ap (λ (lines : List ℕ). record (report_by last [] warnings line (Err why)) { out = lines }) (append-nil (note_lines notes))

module _ (t : Bool) (c : Configuration) (r : Request) (a b : Past) (out out' : Shown) (told : Told) (tells : Tells t c r a b out out' told.whole told.end) where
  abbrev said : Report
  said = install_report (installed_line r.bundle) tells.notes told.end

  pub all_said : (result : Result Report NoMemory) → IfOk result (λ r'. r' ≡ install_report (installed_line r.bundle) [] told.end) → IfOk (behind (note_lines tells.notes) result) (λ r'. r' ≡ said)
  all_said (Ok report) is = behind_notes (installed_line r.bundle) tells.notes (install_warnings told.end.book_unread told.end.closing) told.end.line told.end.result report is
  all_said (Err memory) is = tt

  texts_of : (result : Result Report NoMemory) → IfOk result (λ r'. r' ≡ said) → IfOk result (InstallTexts r.bundle)
  texts_of (Ok report) is = record { slots = c.slots; answer = tells.answer; notes = tells.notes; end = told.end; line = tells.is; is = is }
  texts_of (Err memory) is = tt

  told_of : DoneAtSuccess t c r a told.end → LeavesUntouched t c r a b told.end → FaultTold t a b told.end → (result : Result Report NoMemory) → IfOk result (λ r'. r' ≡ said) → IsTrue t → IfOk result (IsPlanned (install_plan c r a b) a b)
  told_of done untouched fails (Err memory) is sure = tt
  told_of done untouched fails (Ok report) is sure =
      planned c r a b report (inl (record {
        loaded = a;
        unchanged = unchanged_none true a;
        fine = fails_none true a;
        notes = tells.notes;
        end = told.end;
        ends = record {
          answer = tells.answer;
          course = subst (λ (x : Bool). Course x c r a b tells.answer told.end.closing told.end.book_unread tells.notes) sure tells.course;
          is = tells.is;
          done = subst (λ (x : Bool). DoneAtSuccess x c r a told.end) sure done;
          untouched = subst (λ (x : Bool). LeavesUntouched x c r a b told.end) sure untouched;
          fails = subst (λ (x : Bool). FaultTold x a b told.end) sure fails;
        };
        is = is;
      }))

  unit_end : (result : Result Report NoMemory) → IfOk result (λ r'. first_failed_but (λ call. true) (moments_since a b) ≡ None → Unit {0})
  unit_end (Ok report) = λ none. tt
  unit_end (Err memory) = tt

  pub runs_install : DoneAtSuccess t c r a told.end → LeavesUntouched t c r a b told.end → FaultTold t a b told.end → (result : Result Report NoMemory) → IfOk result (λ r'. r' ≡ install_report (installed_line r.bundle) [] told.end)
      → RunsBy t (install_plan c r a b) (InstallTexts r.bundle) NoteLines a b out out' (record { report = result; whole = told.whole })
  runs_install done untouched fails result is =
      let first = begins t c r tells.answer a b told.end.closing told.end.book_unread tells.notes tells.course in
      let full = all_said result is in
      record {
        lines = note_lines tells.notes;
        are = (tells.notes, refl);
        put = writes_put out out' (note_lines tells.notes) told.whole (some_lines tells.notes first.0 first.1) tells.put;
        ended = record {
          on_the_way = λ sure.
              let course = subst (λ (x : Bool). Course x c r a b tells.answer told.end.closing told.end.book_unread tells.notes) sure tells.course in
              record { grows = course_grows c r tells.answer a b told.end.closing told.end.book_unread tells.notes course; each = λ u h. tt };
          reported = λ sure. told_of done untouched fails (behind (note_lines tells.notes) result) full sure;
          at_the_end = λ sure. unit_end (behind (note_lines tells.notes) result);
        };
        texts = texts_of (behind (note_lines tells.notes) result) full;
      }

-- by a request and a last line that were made for it
pub runs_asked : (t : Bool) (c : Configuration) (q r : Request) (last : List ℕ) (a b : Past) (out out' : Shown) (told : Told) (result : Result Report NoMemory) → q ≡ r → last ≡ installed_line r.bundle
    → Tells t c q a b out out' told.whole told.end → DoneAtSuccess t c q a told.end → LeavesUntouched t c q a b told.end → FaultTold t a b told.end → IfOk result (λ r'. r' ≡ install_report last [] told.end)
    → RunsBy t (install_plan c r a b) (InstallTexts r.bundle) NoteLines a b out out' (record { report = result; whole = told.whole })
runs_asked t c q r last a b out out' told result same is tells done untouched fails says =
    runs_install t c r a b out out' told
    (subst (λ (x : Request). Tells t c x a b out out' told.whole told.end) same tells)
    (subst (λ (x : Request). DoneAtSuccess t c x a told.end) same done)
    (subst (λ (x : Request). LeavesUntouched t c x a b told.end) same untouched) fails result
    (subst (λ (l : List ℕ). IfOk result (λ r'. r' ≡ install_report l [] told.end)) is says)
