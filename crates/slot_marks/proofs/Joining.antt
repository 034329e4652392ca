-- A slot is chosen, and then marked.
use Rattle.std.proofs.Common.{◌≡◌, ℕ, ℤ, Bool, false, List, Option, Some, None, Result, Ok, Err, IsTrue, refl, sym, ◌∙◌, ap, subst}
use Rattle.std.specs.Prelude.{⊤, OnOk}
use Rattle.boot_commands.specs.declared.command.Mark.TheVariants as boot
use Rattle.machine.specs.declared.stops.Fault.{Fault}
use Rattle.machine.specs.declared.stops.Stop.{Stop}
use Rattle.machine.specs.declared.stops.Stop.TheVariants.{Refused, Outside, NoMemory}
use Rattle.machine.specs.declared.world.World.{World}
use Rattle.machine.specs.Frames.{Unchanged}
use Rattle.machine.specs.Past.{Always, Fails, Grows, Past, world_now}
use Rattle.machine.specs.Stops.{Settles, stop_fault}
use Rattle.machine.specs.World.{file}
use Rattle.machine.proofs.Failing.{fails_join, fails_none}
use Rattle.machine.proofs.Joins.{unchanged_none}
use Rattle.machine.proofs.Moments.{always_joins, always_weaker}
use Rattle.system_conf.specs.declared.slot.Slot.{Slot}
use Rattle.system_conf.specs.Configuration.{Configuration}
use Rattle.boot_backends.specs.declared.refusal.BootRefusal.{BootRefusal}
use Rattle.boot_backends.specs.Marked.{names_of}
use Rattle.boot_backends.specs.Systems.{Keeps, Leaves, MarkEnds}
use Rattle.slot_status.specs.Refusals.{ready_refusal}
use Rattle.status_file.specs.Clock.{clock_since}
use Rattle.status_file.specs.Status.{book_in}
use Rattle.status_file.proofs.Clocks.{clock_after, clock_stays}
use Rattle.slot_marks.specs.declared.naming.Action.{Action}
use Rattle.slot_marks.specs.declared.naming.Action.TheVariants as action
use Rattle.slot_marks.specs.declared.naming.Marked.{Marked}
use Rattle.slot_marks.specs.declared.noting.Noted.{Noted}
use Rattle.slot_marks.specs.declared.refusal.MarkRefusal.{MarkRefusal}
use Rattle.slot_marks.specs.declared.refusal.MarkRefusal.TheVariants as mark
use Rattle.slot_marks.specs.Answers.{LeadsAt, LeadsTo, MarkAnswers, MarkRan, Marks, NotedAnswers, OfChosen, PlainAnswers}
use Rattle.slot_marks.specs.Marking.{Chooses, MarksName, boot_stop, bootname_text, mark_of, marked_at}
use Rattle.slot_marks.specs.Noting.{HasPut, MarksAndPuts, PreparedBy, Prepares, PutEnds, activated_text, if_ready, new_text}
use Rattle.slot_marks.proofs.Marking.{keeps_after, keeps_unchanged, led_after, led_unchanged, left_after, world_same}
use Rattle.slot_marks.proofs.FilesPut.{with_after, with_unchanged}

same_fault : (T R : Type 0) (stop : Stop MarkRefusal) → stop_fault {T = T} (Err stop) ≡ stop_fault {T = R} (Err stop)
same_fault T R (Refused why) = refl
same_fault T R (Outside kind) = refl
same_fault T R NoMemory = refl

fails_as : (T R : Type 0) (t : Bool) (a b : Past) (stop : Stop MarkRefusal) → Fails t a b (stop_fault {T = T} (Err stop)) → Fails t a b (stop_fault {T = R} (Err stop))
fails_as T R t a b stop f = subst (λ (k : Option Fault). Fails t a b k) (same_fault T R stop) f

-- ---- nothing was changed

to_unchanged : (s : Configuration) (path : List ℕ) (at : ℕ) (a b : Past) (text : Option (List ℕ)) → Always a b (λ u. u ≡ world_now a) → LeadsTo s path at a b text
to_unchanged s path at a b (Some text) same = with_unchanged s (bootname_text s.slots at) path text a b same
to_unchanged s path at a b None same = same

at_unchanged : (s : Configuration) (act : Action) (noted : Option (List ℕ)) (a b : Past) (at : ℕ) → Always a b (λ u. u ≡ world_now a) → LeadsAt s act noted a b at
at_unchanged s act None a b at same = led_unchanged s.boot (names_of s.slots) (mark_of act) (bootname_text s.slots at) a b same
at_unchanged s act (Some path) a b at same = to_unchanged s path at a b (new_text s.slots (file (world_now a) path) at (clock_since a b)) same

marks_quiet : (t : Bool) (s : Configuration) (act : Action) (noted : Option (List ℕ)) (choice : Result ℕ MarkRefusal) (a b : Past) (stop : Stop MarkRefusal) → Unchanged t a b → (IsTrue t → MarkAnswers s act noted choice (clock_since a b) (world_now a) (world_now b) (Err stop)) → Fails t a b (stop_fault {T = Marked} (Err stop)) → Marks t s act noted choice a b (Err stop)
marks_quiet t s act noted choice a b stop unchanged answers fails = record {
  answers = answers;
  leaves = λ told. tt;
  others = λ told. kept choice (unchanged.all told);
  leads = λ told. led choice (unchanged.all told);
  fails = fails;
}
  where
    kept : (choice : Result ℕ MarkRefusal) → Always a b (λ u. u ≡ world_now a) → OfChosen choice a b (λ at. Keeps s (bootname_text s.slots at) a b)
    kept (Ok at) same = keeps_unchanged s.boot (names_of s.slots) (bootname_text s.slots at) a b same
    kept (Err why) same = same

    led : (choice : Result ℕ MarkRefusal) → Always a b (λ u. u ≡ world_now a) → OfChosen choice a b (LeadsAt s act noted a b)
    led (Ok at) same = at_unchanged s act noted a b at same
    led (Err why) same = same

outside_answers : (s : Configuration) (act : Action) (noted : Option (List ℕ)) (at : ℕ) (clock : Option ℤ) (w v : World) (kind : Fault) → MarkAnswers s act noted (Ok at) clock w v (Err (Outside kind))
outside_answers s act None at clock w v kind = tt
outside_answers s act (Some path) at clock w v kind = tt

memory_answers : (s : Configuration) (act : Action) (noted : Option (List ℕ)) (choice : Result ℕ MarkRefusal) (clock : Option ℤ) (w v : World) → MarkAnswers s act noted choice clock w v (Err NoMemory)
memory_answers s act None (Ok at) clock w v = tt
memory_answers s act (Some path) (Ok at) clock w v = tt
memory_answers s act noted (Err why) clock w v = tt

-- the refusal is that of the choice, or a call failed
pub marks_refused : (t : Bool) (s : Configuration) (act : Action) (noted : Option (List ℕ)) (choice : Result ℕ MarkRefusal) (a b : Past) (stop : Stop MarkRefusal) → Chooses t choice a b (Err stop) → Marks t s act noted choice a b (Err stop)
marks_refused t s act noted choice a b stop h =
    marks_quiet t s act noted choice a b stop h.unchanged (λ told. answered choice stop (h.answers told)) (fails_as ℕ Marked t a b stop h.fails)
  where
    settled : (why other : MarkRefusal) → ◌≡◌ {A = Result ℕ MarkRefusal} (Err why) (Err other) → ◌≡◌ {A = Result Marked MarkRefusal} (Err why) (Err other)
    settled why other same = cc

    answered : (choice : Result ℕ MarkRefusal) (stop : Stop MarkRefusal) → Settles {T = ℕ} (Err stop) choice → MarkAnswers s act noted choice (clock_since a b) (world_now a) (world_now b) (Err stop)
    answered (Ok at) (Refused why) e = absurd (cc)
    answered (Ok at) (Outside kind) e = outside_answers s act noted at (clock_since a b) (world_now a) (world_now b) kind
    answered (Ok at) NoMemory e = memory_answers s act noted (Ok at) (clock_since a b) (world_now a) (world_now b)
    answered (Err why) (Refused other) e = settled why other e
    answered (Err why) (Outside kind) e = tt
    answered (Err why) NoMemory e = tt

-- there was no memory for the line
pub marks_nothing : (t : Bool) (s : Configuration) (act : Action) (noted : Option (List ℕ)) (at : ℕ) (a : Past) → Marks t s act noted (Ok at) a a (Err NoMemory)
marks_nothing t s act noted at a =
    marks_quiet t s act noted (Ok at) a a NoMemory (unchanged_none t a) (λ told. memory_answers s act noted (Ok at) (clock_since a a) (world_now a) (world_now a)) (fails_none t a)

-- ---- the slot was chosen, and then marked

to_after : (s : Configuration) (path : List ℕ) (at : ℕ) (a b z : Past) (text : Option (List ℕ)) → Always a b (λ u. u ≡ world_now a) → LeadsTo s path at b z text → LeadsTo s path at a z text
to_after s path at a b z (Some text) same led = with_after s (bootname_text s.slots at) path text a b z same led
to_after s path at a b z None same later =
    always_joins a b z (λ u. u ≡ world_now a) same (always_weaker b z (λ u. u ≡ world_now b) (λ u. u ≡ world_now a) (λ u e. e ∙ world_same a b same) later)

at_after : (s : Configuration) (act : Action) (noted : Option (List ℕ)) (at : ℕ) (a b z : Past) → Always a b (λ u. u ≡ world_now a) → clock_since a z ≡ clock_since b z → LeadsAt s act noted b z at → LeadsAt s act noted a z at
at_after s act None at a b z same clock led = led_after s.boot (names_of s.slots) (mark_of act) (bootname_text s.slots at) a b same z led
at_after s act (Some path) at a b z same clock led =
    to_after s path at a b z (new_text s.slots (file (world_now a) path) at (clock_since a z)) same
    (subst (λ (o : Option (List ℕ)). LeadsTo s path at b z o) (λ i. new_text s.slots (file (world_same a b same i) path) at (sym clock i)) led)

pub marks_after : (t : Bool) (s : Configuration) (act : Action) (noted : Option (List ℕ)) (choice : Result ℕ MarkRefusal) (at : ℕ) (a b z : Past) (result : Result Marked (Stop MarkRefusal)) → Chooses t choice a b (Ok at) → Marks t s act noted (Ok at) b z result → Marks t s act noted choice a z result
marks_after t s act noted choice at a b z result h m = record {
  answers = λ told.
      let same = h.unchanged.all told in
      subst (λ (c : Result ℕ MarkRefusal). MarkAnswers s act noted c (clock_since a z) (world_now a) (world_now z) result) (sym (h.answers told))
      (subst (λ (w : World). MarkAnswers s act noted (Ok at) (clock_since a z) w (world_now z) result) (world_same a b same)
      (subst (λ (clock : Option ℤ). MarkAnswers s act noted (Ok at) clock (world_now b) (world_now z) result) (sym (clock told)) (m.answers told)));
  leaves = λ told.
      subst (λ (c : Result ℕ MarkRefusal). OnOk result (OfChosen c a z (λ k. Leaves s (mark_of act) (bootname_text s.slots k) a z))) (sym (h.answers told))
      (left_after s.boot (names_of s.slots) (mark_of act) (bootname_text s.slots at) a b z result (h.unchanged.all told) (m.fails.grows told) (m.leaves told));
  others = λ told.
      subst (λ (c : Result ℕ MarkRefusal). OfChosen c a z (λ k. Keeps s (bootname_text s.slots k) a z)) (sym (h.answers told))
      (keeps_after s.boot (names_of s.slots) (bootname_text s.slots at) a b z (h.unchanged.all told) (m.fails.grows told) (m.others told));
  leads = λ told.
      subst (λ (c : Result ℕ MarkRefusal). OfChosen c a z (LeadsAt s act noted a z)) (sym (h.answers told))
      (at_after s act noted at a b z (h.unchanged.all told) (clock told) (m.leads told));
  fails = fails_join t a b z (stop_fault result) h.fails m.fails;
}
  where
    clock : IsTrue t → clock_since a z ≡ clock_since b z
    clock told = clock_after a b z (h.silent told) (h.fails.grows told) (m.fails.grows told)

-- ---- without a status file

pub marks_done : (t : Bool) (s : Configuration) (act : Action) (at : ℕ) (a z : Past) (marked : Marked) → marked ≡ marked_at s.slots act at false → MarksName t s (mark_of act) (bootname_text s.slots at) a z (Ok tt) → Marks t s act None (Ok at) a z (Ok marked)
marks_done t s act at a z marked is m = record {
  answers = λ told. (is, m.causes told);
  leaves = m.leaves;
  others = m.others;
  leads = m.leads;
  fails = m.fails;
}

pub marks_stopped : (t : Bool) (s : Configuration) (act : Action) (at : ℕ) (a z : Past) (stop : Stop BootRefusal) → MarksName t s (mark_of act) (bootname_text s.slots at) a z (Err stop) → Marks t s act None (Ok at) a z (Err (boot_stop stop))
marks_stopped t s act at a z stop m = record {
  answers = λ told. answered stop (m.causes told);
  leaves = λ told. tt;
  others = m.others;
  leads = m.leads;
  fails = subst (λ (k : Option Fault). Fails t a z k) (fault stop) m.fails;
}
  where
    answered : (stop : Stop BootRefusal) → MarkEnds s (mark_of act) (bootname_text s.slots at) a z (Err stop) → PlainAnswers s act at (world_now a) (world_now z) (Err (boot_stop stop))
    answered (Refused why) ends = ends
    answered (Outside kind) ends = tt
    answered NoMemory ends = tt

    fault : (stop : Stop BootRefusal) → stop_fault {T = ⊤} (Err stop) ≡ stop_fault {T = Marked} (Err (boot_stop stop))
    fault (Refused why) = refl
    fault (Outside kind) = refl
    fault NoMemory = refl

-- ---- with one

-- its text was not made
pub acts_refused : (t : Bool) (s : Configuration) (path : List ℕ) (at : ℕ) (a b : Past) (stop : Stop MarkRefusal) → Prepares t s.slots path at a b (Err stop) → Marks t s action.Active (Some path) (Ok at) a b (Err stop)
acts_refused t s path at a b stop p =
    marks_quiet t s action.Active (Some path) (Ok at) a b stop p.unchanged (λ told. answered stop (p.answers told)) (fails_as Noted Marked t a b stop p.fails)
  where
    answered : (stop : Stop MarkRefusal) → PreparedBy s.slots (file (world_now a) path) at (clock_since a b) (Err stop) → NotedAnswers s path at (clock_since a b) (world_now a) (world_now b) (Err stop)
    answered (Refused (mark.Status why)) h = h
    answered (Refused (mark.Boot why)) h = absurd h.2
    answered (Refused (mark.NoSuchSlot text)) h = absurd h.2
    answered (Refused mark.NoOther) h = absurd h.2
    answered (Refused (mark.ManyOther count)) h = absurd h.2
    answered (Refused (mark.NoBootName slot)) h = absurd h.2
    answered (Outside kind) h = tt
    answered NoMemory h = tt

text_is : (slots : List Slot) (there : Option (List ℕ)) (at : ℕ) (clock : Option ℤ) (seconds : ℤ) (text : List ℕ) → clock ≡ Some seconds → ready_refusal (book_in slots there) at seconds ≡ None → text ≡ activated_text slots (book_in slots there) at seconds → new_text slots there at clock ≡ Some text
text_is slots there at clock seconds text said ready is =
    ap (new_text slots there at) said ∙ ap (λ r. if_ready r (activated_text slots (book_in slots there) at seconds)) ready ∙ ap (λ (t : List ℕ). Some t) (sym is)

module _ (t : Bool) (s : Configuration) (path : List ℕ) (at : ℕ) (a b z : Past) (noted : Noted) (p : Prepares t s.slots path at a b (Ok noted)) where
  abbrev there : Option (List ℕ)
  there = file (world_now a) path

  abbrev name : List ℕ
  name = bootname_text s.slots at

  -- its answer, by that of the mark and the new file
  abbrev answers_by : (result : Result ⊤ (Stop MarkRefusal)) (given : Result Marked (Stop MarkRefusal)) → Type 0
  answers_by result given = IsTrue t → Grows b z → PutEnds s name path noted.text b z result → NotedAnswers s path at (clock_since a z) (world_now a) (world_now z) given

  ran_after : (told : IsTrue t) (ended : Result ⊤ (Stop BootRefusal)) → MarkEnds s boot.Primary name b z ended → MarkRan s boot.Primary at (world_now a) (world_now z) ended
  ran_after told ended ends = subst (λ (w : World). MarkRan s boot.Primary at w (world_now z) ended) (world_same a b (p.unchanged.all told)) ends

  acts_by : (result : Result ⊤ (Stop MarkRefusal)) (given : Result Marked (Stop MarkRefusal)) → answers_by result given → stop_fault result ≡ stop_fault given → MarksAndPuts t s name path noted.text b z result → (IsTrue t → OnOk result (Leaves s boot.Primary name a z) → OnOk given (Leaves s boot.Primary name a z)) → Marks t s action.Active (Some path) (Ok at) a z given
  acts_by result given answers fault m leaves = record {
    answers = λ told. answers told (m.fails.grows told) (m.causes told);
    leaves = λ told. leaves told (left_after s.boot (names_of s.slots) boot.Primary name a b z result (p.unchanged.all told) (m.fails.grows told) (m.leaves told));
    others = λ told. keeps_after s.boot (names_of s.slots) name a b z (p.unchanged.all told) (m.fails.grows told) (m.others told);
    leads = λ told.
        let h = p.answers told in
        let said = clock_stays a b z h.0 h.1 (p.fails.grows told) (m.fails.grows told) in
        subst (λ (o : Option (List ℕ)). LeadsTo s path at a z o)
        (sym (text_is s.slots there at (clock_since a z) h.0 noted.text said h.2.0 h.2.1))
        (with_after s name path noted.text a b z (p.unchanged.all told) (m.leads told));
    fails = subst (λ (k : Option Fault). Fails t a z k) fault (fails_join t a b z (stop_fault result) p.fails m.fails);
  }

  pub acts_done : (marked : Marked) → marked ≡ marked_at s.slots action.Active at noted.unread → MarksAndPuts t s name path noted.text b z (Ok tt) → Marks t s action.Active (Some path) (Ok at) a z (Ok marked)
  acts_done marked is m =
      acts_by (Ok tt) (Ok marked)
      (λ told grown ends.
      let h = p.answers told in
      let said = clock_stays a b z h.0 h.1 (p.fails.grows told) grown in
      let put = subst (λ (w : World). HasPut path noted.text w (world_now z)) (world_same a b (p.unchanged.all told)) ends.1 in (
        h.0,
        record { said = said; ready = h.2.0 },
        is ∙ ap (marked_at s.slots action.Active at) h.2.2,
        ran_after told (Ok tt) ends.0,
        subst (λ (text : List ℕ). HasPut path text (world_now a) (world_now z)) h.2.1 put,
      ))
      refl m (λ told left. left)

  pub acts_stopped : (stop : Stop MarkRefusal) → MarksAndPuts t s name path noted.text b z (Err stop) → Marks t s action.Active (Some path) (Ok at) a z (Err stop)
  acts_stopped stop m = acts_by (Err stop) (Err stop) (λ told grown ends. answered stop told grown ends) (same_fault ⊤ Marked stop) m (λ told left. tt)
    where
      answered : (stop : Stop MarkRefusal) → IsTrue t → Grows b z → PutEnds s name path noted.text b z (Err stop) → NotedAnswers s path at (clock_since a z) (world_now a) (world_now z) (Err stop)
      answered (Refused (mark.Boot why)) told grown ends =
          let h = p.answers told in
          (h.0, record { said = clock_stays a b z h.0 h.1 (p.fails.grows told) grown; ready = h.2.0 }, ran_after told (Err (Refused why)) ends)
      answered (Refused (mark.Status why)) told grown ends = absurd ends
      answered (Refused (mark.NoSuchSlot text)) told grown ends = absurd ends
      answered (Refused mark.NoOther) told grown ends = absurd ends
      answered (Refused (mark.ManyOther count)) told grown ends = absurd ends
      answered (Refused (mark.NoBootName slot)) told grown ends = absurd ends
      answered (Outside kind) told grown ends = tt
      answered NoMemory told grown ends = tt
