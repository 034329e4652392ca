-- A plan is carried out.
use Rattle.std.proofs.Common.{◌≡◌, inl, ℕ, Bool, false, List, [], Option, Some, None, Result, Ok, Err, IsTrue, IfOk, refl, sym, ◌∙◌, ap, subst}
use Rattle.std.specs.FinMap as fin
use Rattle.updater_text.specs.declared.stops.NoMemory.{NoMemory}
use Rattle.boot_commands.specs.Plans.{readings}
use Rattle.boot_backends.specs.Marked.{OnlyReadVars}
use Rattle.boot_backends.specs.Through.{Through}
use Rattle.boot_backends.proofs.Worlds.{through_none}
use Rattle.machine.specs.declared.stops.Fault.{Fault}
use Rattle.machine.specs.declared.stops.Stop.{Stop}
use Rattle.machine.specs.declared.stops.Stop.TheVariants as stop
use Rattle.machine.specs.declared.world.World.{World}
use Rattle.machine.specs.Stops.{stop_fault}
use Rattle.machine.specs.Past.{Moment, Past, Always, Fails, Grows, failed_since, first_failed, moments_since, world_now}
use Rattle.machine.specs.Frames.{Unchanged}
use Rattle.machine.specs.Runs.{LeftAlone, first_failed_but}
use Rattle.machine.proofs.CallsMade.{but_joins, but_nothing}
use Rattle.machine.proofs.Moments.{always_joins, always_weaker, made_none}
use Rattle.machine.proofs.Joins.{now_unchanged, unchanged_none}
use Rattle.machine.proofs.Running.{left_alone_refl}
use Rattle.rauc_cli.specs.declared.outcome.Report.{Report}
use Rattle.rauc_cli.specs.Lines.{fault_report, outside}
use Rattle.rauc_cli.specs.Plans.{Plan, Effect, Nothing, Front, Children, Reading, Marking, Installing, AtTheEnd, IsPlanned, OnTheWay, ReportsBy, fault_in, to_report, to_report_by}
use Rattle.rauc_cli.specs.Ends.{Ended, Says}

fault_after : (p : Plan) (a b c : Past) → Grows a b → Grows b c → failed_since a b ≡ None → fault_in p a c ≡ fault_in p b c
fault_after p a b c ab bc none = but_joins p.passes a b c ab bc none

-- ---- plans with no lines beside the report, in which each failed call counts

pub record IsQuiet (p : Plan) : Type 0 where
  pub notes : p.notes ≡ []
  pub warnings : p.warnings ≡ []
  pub passes : (ms : List Moment) → first_failed_but p.passes ms ≡ first_failed ms

-- the same of what was done since a
pub record IsQuietSince (p : Plan) (a b : Past) : Type 0 where
  pub notes : p.notes ≡ []
  pub warnings : p.warnings ≡ []
  pub fault : fault_in p a b ≡ failed_since a b

pub quiet_report : (reports : Report → Type 0) (effect : Effect) → IsQuiet (to_report_by reports effect)
quiet_report reports effect = record { notes = refl; warnings = refl; passes = but_nothing }

pub quiet_since : (p : Plan) (a b : Past) → IsQuiet p → IsQuietSince p a b
quiet_since p a b quiet = record { notes = quiet.notes; warnings = quiet.warnings; fault = quiet.passes (moments_since a b) }

pub report_quiet : (p : Plan) (kind : Fault) → p.notes ≡ [] → p.warnings ≡ [] → fault_report p.notes p.warnings kind ≡ outside kind
report_quiet p kind notes warnings =
    ap (λ (notes : List ℕ). fault_report notes p.warnings kind) notes ∙ ap (λ (warnings : List ℕ). fault_report [] warnings kind) warnings

pub some_none : (kind : Fault) → Some kind ≡ None → ⊥
some_none kind e = cc

-- ---- how a command ends

way_same : (e : Effect) (w u : World) → u ≡ w → OnTheWay e w u
way_same Nothing w u h = h
way_same Installing w u h = tt
way_same (Children spares children) w u h = subst (λ (x : World). LeftAlone spares children w x) (sym h) (left_alone_refl spares children w)
way_same (Front system image written) w u h = inl h
way_same (Reading boot names) w u h =
    subst (λ (x : World). OnlyReadVars boot names w x) (sym h) (record { rest = refl; runs = (through_none boot (readings boot names) w).runs })
way_same (Marking machine commands None) w u h =
    (fin.empty, subst (λ (x : World). Through machine (commands fin.empty) w x) (sym h) (through_none machine (commands fin.empty) w))
way_same (Marking machine commands (Some put)) w u h =
    (fin.empty, inl (subst (λ (x : World). Through machine (commands fin.empty) w x) (sym h) (through_none machine (commands fin.empty) w)))

pub ways_unchanged : (t : Bool) (e : Effect) (a b : Past) → Unchanged t a b → IsTrue t → Always a b (OnTheWay e (world_now a))
ways_unchanged t e a b unchanged told = always_weaker a b (λ u. u ≡ world_now a) (OnTheWay e (world_now a)) (λ u h. way_same e (world_now a) u h) (unchanged.all told)

-- no report: out of memory
pub ended_memory : (t : Bool) (p : Plan) (a b : Past) (memory : NoMemory) → (IsTrue t → Always a b (OnTheWay p.effect (world_now a))) → Ended t p a b (Err memory)
ended_memory t p a b memory way = record { on_the_way = way; reported = λ told. tt; at_the_end = λ told. tt }

pub ended_wanting : (t : Bool) (p : Plan) (a : Past) (memory : NoMemory) → Ended t p a a (Err memory)
ended_wanting t p a memory = ended_memory t p a a memory (ways_unchanged t p.effect a a (unchanged_none t a))

-- nothing more is done
pub ended_here : (t : Bool) (report : Report) (a : Past) (result : Result Report NoMemory) → IfOk result (λ r. r ≡ report) → Ended t (to_report report Nothing) a a result
ended_here t report a (Ok r) is = record {
  on_the_way = ways_unchanged t Nothing a a (unchanged_none t a);
  reported = λ told. subst (λ (o : Option Fault). ReportsBy (to_report report Nothing) o r) (sym (ap (λ (ms : List Moment). first_failed_but (λ call. false) ms) (made_none a))) is;
  at_the_end = λ told none. refl;
}
ended_here t report a (Err memory) is = ended_wanting t (to_report report Nothing) a memory

-- a call failed that changed nothing
pub ended_failed : (t : Bool) (p : Plan) (a b : Past) (kind : Fault) (result : Result Report NoMemory) → (IsTrue t → IsQuietSince p a b) → Unchanged t a b → Fails t a b (Some kind) → IfOk result (λ r. r ≡ outside kind) → Ended t p a b result
ended_failed t p a b kind (Ok r) quiet unchanged fails is =
    let fault : IsTrue t → fault_in p a b ≡ Some kind = λ told. (quiet told).fault ∙ fails.first told in
    record {
      on_the_way = ways_unchanged t p.effect a b unchanged;
      reported = λ told. subst (λ (o : Option Fault). ReportsBy p o r) (sym (fault told)) (is ∙ sym (report_quiet p kind (quiet told).notes (quiet told).warnings));
      at_the_end = λ told none. absurd (some_none kind (sym (fault told) ∙ none));
    }
ended_failed t p a b kind (Err memory) quiet unchanged fails is = ended_memory t p a b memory (ways_unchanged t p.effect a b unchanged)

-- the same plan by another name
pub ended_same : (t : Bool) (p q : Plan) (a b : Past) (result : Result Report NoMemory) → (IsTrue t → p ≡ q) → Ended t p a b result → Ended t q a b result
ended_same t p q a b result same h = record {
  on_the_way = λ told. subst (λ (x : Plan). Always a b (OnTheWay x.effect (world_now a))) (same told) (h.on_the_way told);
  reported = λ told. subst (λ (x : Plan). IfOk result (IsPlanned x a b)) (same told) (h.reported told);
  at_the_end = λ told.
      subst (λ (x : Plan). IfOk result (λ report. fault_in x a b ≡ None → AtTheEnd x.effect (world_now a) (world_now b))) (same told) (h.at_the_end told);
}

-- what changes nothing, and then the rest
pub ended_after : (t : Bool) (p q : Plan) (a b c : Past) (result : Result Report NoMemory) → Unchanged t a b → Fails t a b None → (IsTrue t → p ≡ q) → Ended t p b c result → Ended t q a c result
ended_after t p q a b c result unchanged fine plans rest = record {
  on_the_way = λ told.
      let same = now_unchanged t a b unchanged told in
      always_joins a b c (OnTheWay q.effect (world_now a))
      (ways_unchanged t q.effect a b unchanged told)
      (always_weaker b c (OnTheWay p.effect (world_now b)) (OnTheWay q.effect (world_now a)) (λ u h. subst (λ (w : World). OnTheWay q.effect w u) same (subst (λ (r : Plan). OnTheWay r.effect (world_now b) u) (plans told) h)) (rest.on_the_way told));
  reported = λ told. onto result (later told) (plans told) (rest.reported told);
  at_the_end = λ told. end_onto result (later told) (plans told) (now_unchanged t a b unchanged told) (rest.at_the_end told);
}
  where
    later : IsTrue t → fault_in q a c ≡ fault_in q b c
    later told = fault_after q a b c (fine.grows told) (rest.on_the_way told).grows (fine.first told)

    onto : (result : Result Report NoMemory) → fault_in q a c ≡ fault_in q b c → p ≡ q → IfOk result (IsPlanned p b c) → IfOk result (IsPlanned q a c)
    onto (Ok r) f e h = subst (λ (o : Option Fault). ReportsBy q o r) (sym f) (subst (λ (x : Plan). IsPlanned x b c r) e h)
    onto (Err memory) f e h = tt

    end_onto : (result : Result Report NoMemory) → fault_in q a c ≡ fault_in q b c → p ≡ q → world_now b ≡ world_now a → IfOk result (λ r. fault_in p b c ≡ None → AtTheEnd p.effect (world_now b) (world_now c)) → IfOk result (λ r. fault_in q a c ≡ None → AtTheEnd q.effect (world_now a) (world_now c))
    end_onto (Ok r) f e s h = λ none. subst (λ (w : World). AtTheEnd q.effect w (world_now c)) s (subst (λ (x : Plan). fault_in x b c ≡ None → AtTheEnd x.effect (world_now b) (world_now c)) e h (sym f ∙ none))
    end_onto (Err memory) f e s h = tt

-- ---- a call that was made, and then its report

-- what a call answers is as planned, where no fault stopped it; and so is the end
abbrev pub Meets : {A R : Type 0} → Plan → Type 0 → (Result A R → Report) → Result A (Stop R) → Type 0
Meets p End report_of (Ok x) = p.Reports (report_of (Ok x)) × End
Meets p End report_of (Err (stop.Refused why)) = p.Reports (report_of (Err why)) × End
Meets p End report_of (Err (stop.Outside kind)) = Unit {0}
Meets p End report_of (Err stop.NoMemory) = Unit {0}

module _ {A R : Type 0} (t : Bool) (p : Plan) (quiet : IsQuiet p) (a b : Past) (report_of : Result A R → Report) (way : IsTrue t → Always a b (OnTheWay p.effect (world_now a))) where
  fault : (kind : Option Fault) → Fails t a b kind → IsTrue t → fault_in p a b ≡ kind
  fault kind fails told = quiet.passes (moments_since a b) ∙ fails.first told

  met : (report said : Report) (fails : Fails t a b None) (told : IsTrue t) → report ≡ said → p.Reports said → IsPlanned p a b report
  met report said fails told is meets = subst (λ (o : Option Fault). ReportsBy p o report) (sym (fault None fails told)) (subst p.Reports (sym is) meets)

  pub ended_said : (answer : Result A (Stop R)) (result : Result Report NoMemory) → Fails t a b (stop_fault answer)
      → (IsTrue t → Meets p (AtTheEnd p.effect (world_now a) (world_now b)) report_of answer) → Says report_of answer result → Ended t p a b result
  ended_said (Ok x) (Ok report) fails meets says =
      record { on_the_way = way; reported = λ told. met report (report_of (Ok x)) fails told says (meets told).0; at_the_end = λ told none. (meets told).1 }
  ended_said (Err (stop.Refused why)) (Ok report) fails meets says =
      record { on_the_way = way; reported = λ told. met report (report_of (Err why)) fails told says (meets told).0; at_the_end = λ told none. (meets told).1 }
  ended_said (Err (stop.Outside kind)) (Ok report) fails meets says = record {
    on_the_way = way;
    reported = λ told. subst (λ (o : Option Fault). ReportsBy p o report) (sym (fault (Some kind) fails told)) (says ∙ sym (report_quiet p kind quiet.notes quiet.warnings));
    at_the_end = λ told none. absurd (some_none kind (sym (fault (Some kind) fails told) ∙ none));
  }
  ended_said (Err stop.NoMemory) (Ok report) fails meets says = absurd says
  ended_said answer (Err memory) fails meets says = ended_memory t p a b memory way
