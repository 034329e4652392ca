-- The cause of each end of commands that were run.
use Rattle.std.proofs.Common.{◌≡◌, inl, inr, ⊎_elim, ℕ, true, List, [], ◌∷◌, ◌++◌, Option, Some, None, Result, Ok, Err, refl, sym, ◌∙◌, ap, subst, append_assoc}
use Rattle.std.specs.Prelude.{⊤}
use Rattle.std.specs.FinMap as fin
use Rattle.std.proofs.lemmas.List.{append-nil}
use Rattle.boot_model.specs.Vars.{Variables}
use Rattle.boot_model.specs.declared.boot_kind.BootKind.{BootKind}
use Rattle.boot_commands.specs.declared.command.Command.{Command}
use Rattle.boot_commands.specs.declared.command.Mark.{Mark}
use Rattle.boot_commands.specs.Commands.{argv}
use Rattle.boot_commands.specs.Plans.{looks, plan}
use Rattle.machine.specs.declared.stops.Stop.{Stop}
use Rattle.machine.specs.declared.stops.Stop.TheVariants.{Refused, Outside, NoMemory}
use Rattle.machine.specs.declared.world.Ended.{Ended}
use Rattle.machine.specs.declared.world.Exit.{Exit}
use Rattle.machine.specs.declared.world.RunNote.{RunNote}
use Rattle.machine.specs.Past.{Past, world_now}
use Rattle.machine.specs.Runs.{RunSince, runs_since}
use Rattle.machine.proofs.CallsMade.{runs_since_of}
use Rattle.boot_backends.specs.declared.refusal.BootRefusal.{BootRefusal}
use Rattle.boot_backends.specs.declared.refusal.BootRefusal.TheVariants.{Program, Output, Unlisted}
use Rattle.boot_backends.specs.Causes.{CommandsCause, IsRefused, LastRun, MarkCause, PlanCause}
use Rattle.boot_backends.specs.Ends.{Finishes, Judged, Marks, OneEnds, Writes}
use Rattle.boot_backends.specs.Runs.{boot_child, is_stated, taken}

-- the note of a command
note_of : Command → Exit → RunNote
note_of c exit = record { child = boot_child c; exit = exit }

no_runs : (a z : Past) → z ≡ a → RunSince a z []
no_runs a z same = ap (λ (p : Past). (world_now p).runs) same ∙ sym (append-nil (world_now a).runs)

more_runs : (a b z : Past) (n : RunNote) (ns : List RunNote) → RunSince a b (n ∷ []) → RunSince b z ns → RunSince a z (n ∷ ns)
more_runs a b z n ns ab bz = bz ∙ ap (λ (rs : List RunNote). rs ++ ns) ab ∙ append_assoc (world_now a).runs (n ∷ []) ns

all_runs : (a b z : Past) (ms ns : List RunNote) → RunSince a b ms → RunSince b z ns → RunSince a z (ms ++ ns)
all_runs a b z ms ns ab bz = bz ∙ ap (λ (rs : List RunNote). rs ++ ns) ab ∙ append_assoc (world_now a).runs ms ns

-- ---- one command that stops

-- its answer, with the runs
Because : List Command → Variables → Past → Past → Result Variables (Stop BootRefusal) → Type 0
Because cs read a z result = (notes : List RunNote) × RunSince a z notes × CommandsCause cs read notes result

last_first : (c : Command) (cs : List Command) (exit : Exit) (read : Variables) → LastRun (c ∷ cs) read (record { child = boot_child c; exit = exit } ∷ []) c exit read
last_first c cs exit read = record { before = []; after = cs; earlier = []; order = refl; served = refl; runs = refl }

refused_why : (c : Command) (exit : Exit) (read more : Variables) (why : BootRefusal) → Judged c exit read more (Err (Refused why)) → IsRefused c exit read why
refused_why c exit read more (Program words ended) h = inl (record { end = h.0; is = ap (λ (ws : List (List ℕ)). Program ws ended) h.1 ∙ ap (λ (e : Ended). Program (argv c) e) h.2 })
refused_why c exit read more (Output words) h = inr (record { end = h.0; none = h.1; is = ap (λ (ws : List (List ℕ)). Output ws) h.2 })
refused_why c exit read more (Unlisted name) h = absurd h

stop_cause : (c : Command) (cs : List Command) (read more : Variables) (a z : Past) (stop : Stop BootRefusal) → OneEnds c read more a z (Err stop) → Because (c ∷ cs) read a z (Err stop)
unfolding Because
stop_cause c cs read more a z (Refused why) h =
    (record { child = boot_child c; exit = h.0 } ∷ [], h.1.1, (c, h.0, read, last_first c cs h.0 read, refused_why c h.0 read more why h.2))
stop_cause c cs read more a z (Outside kind) h =
    ([], h.1.after.1 ∙ sym (append-nil (world_now a).runs), (read, record { before = []; after = c ∷ cs; order = refl; served = refl }, h.0))
stop_cause c cs read more a z NoMemory (inl same) = ([], no_runs a z same, tt)
stop_cause c cs read more a z NoMemory (inr h) = (record { child = boot_child c; exit = h.0 } ∷ [], h.1.1, tt)

-- ---- behind one that served

module _ (d : Command) (cs : List Command) (first : Exit) (read more : Variables) (stated : is_stated d first ≡ true) (took : taken d first read ≡ Some more) where
  later_last : (notes : List RunNote) (c : Command) (exit : Exit) (last : Variables) → LastRun cs more notes c exit last → LastRun (d ∷ cs) read (record { child = boot_child d; exit = first } ∷ notes) c exit last
  later_last notes c exit last l = record {
    before = d ∷ l.before;
    after = l.after;
    earlier = record { child = boot_child d; exit = first } ∷ l.earlier;
    order = ap (λ (xs : List Command). d ∷ xs) l.order;
    served = (more, (refl, stated, took, l.served));
    runs = ap (λ (ns : List RunNote). record { child = boot_child d; exit = first } ∷ ns) l.runs;
  }

  later_cause : (notes : List RunNote) (result : Result Variables (Stop BootRefusal)) → CommandsCause cs more notes result → CommandsCause (d ∷ cs) read (record { child = boot_child d; exit = first } ∷ notes) result
  later_cause notes (Ok last) h = (more, (refl, stated, took, h))
  later_cause notes (Err (Refused why)) h = (h.0, h.1, h.2, later_last notes h.0 h.1 h.2 h.3, h.4)
  later_cause notes (Err (Outside kind)) h =
      (h.0, record { before = d ∷ h.1.before; after = h.1.after; order = ap (λ (xs : List Command). d ∷ xs) h.1.order; served = (more, (refl, stated, took, h.1.served)) }, h.2)
  later_cause notes (Err NoMemory) h = tt

-- ---- all of them

because : (cs : List Command) (read : Variables) (a z : Past) (result : Result Variables (Stop BootRefusal)) → Finishes cs read a z result → Because cs read a z result
unfolding Because
because [] read a z result h =
    ⊎_elim
    (λ e. subst (λ (r : Result Variables (Stop BootRefusal)). Because [] read a z r) (sym e) ([], no_runs a z h.0, refl))
    (λ e. subst (λ (r : Result Variables (Stop BootRefusal)). Because [] read a z r) (sym e) ([], no_runs a z h.0, tt))
    h.1
because (c ∷ cs) read a z result (inl h) =
    subst (λ (r : Result Variables (Stop BootRefusal)). Because (c ∷ cs) read a z r) (sym h.2) (stop_cause c cs read h.1 a z h.0 h.3)
because (c ∷ cs) read a z result (inr h) =
    let one = h.1.1 in
    let b = h.1.0 in
    let later = because cs h.0 b z result h.1.2 in (
      record { child = boot_child c; exit = one.0 } ∷ later.0,
      more_runs a b z (record { child = boot_child c; exit = one.0 }) later.0 one.1.1 later.1,
      later_cause c cs one.0 read h.0 one.2.0 one.2.1 later.0 result later.2,
    )

pub commands_cause : (cs : List Command) (read : Variables) (a z : Past) (result : Result Variables (Stop BootRefusal)) → Finishes cs read a z result → CommandsCause cs read (runs_since (world_now a) (world_now z)) result
unfolding Because
commands_cause cs read a z result h =
    let why = because cs read a z result h in
    subst (λ (ns : List RunNote). CommandsCause cs read ns result) (sym (runs_since_of (world_now a) (world_now z) why.0 why.1)) why.2

-- ---- a mark

-- what was planned, with its runs
PlanBecause : Option (List Command) → List ℕ → Past → Past → Result ⊤ (Stop BootRefusal) → Type 0
PlanBecause o name b z result = (notes : List RunNote) × RunSince b z notes × PlanCause o name notes result

plan_because : (o : Option (List Command)) (name : List ℕ) (b z : Past) (result : Result ⊤ (Stop BootRefusal)) → Writes o name b z result → PlanBecause o name b z result
unfolding PlanBecause Because
plan_because None name b z result h =
    ⊎_elim
    (λ e. subst (λ (r : Result ⊤ (Stop BootRefusal)). PlanBecause None name b z r) (sym e) ([], no_runs b z h.0, (refl, refl)))
    (λ e. subst (λ (r : Result ⊤ (Stop BootRefusal)). PlanBecause None name b z r) (sym e) ([], no_runs b z h.0, tt))
    h.1
plan_because (Some cs) name b z (Ok x) h =
    let why = because cs fin.empty b z (Ok h.0) h.1 in
    (why.0, why.1, (h.0, why.2))
plan_because (Some cs) name b z (Err stop) h = because cs fin.empty b z (Err stop) h

module _ (kind : BootKind) (names : List (List ℕ)) (mark : Mark) (name : List ℕ) (a z : Past) where
  of_runs : (notes : List RunNote) (result : Result ⊤ (Stop BootRefusal)) → RunSince a z notes → MarkCause kind names mark name notes result → MarkCause kind names mark name (runs_since (world_now a) (world_now z)) result
  of_runs notes result since h = subst (λ (ns : List RunNote). MarkCause kind names mark name ns result) (sym (runs_since_of (world_now a) (world_now z) notes since)) h

  pub mark_cause : (result : Result ⊤ (Stop BootRefusal)) → Marks kind names mark name a z result → MarkCause kind names mark name (runs_since (world_now a) (world_now z)) result
  unfolding Because PlanBecause
  mark_cause result (inl h) =
      let why = because (looks kind names mark) fin.empty a z (Err h.0) h.2 in
      of_runs why.0 result why.1 (inl (h.0, h.1, why.2))
  mark_cause result (inr h) =
      let b = h.1.0 in
      let looked = because (looks kind names mark) fin.empty a b (Ok h.0) h.1.1 in
      let later = plan_because (plan kind names mark name h.0) name b z result h.1.2 in
      of_runs (looked.0 ++ later.0) result (all_runs a b z looked.0 later.0 looked.1 later.1)
      (inr (later.0, h.0, record { looked = looked.0; runs = refl; served = looked.2 }, later.2))
