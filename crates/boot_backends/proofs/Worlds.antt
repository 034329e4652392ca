-- The worlds of commands that are run.
use Rattle.std.proofs.Common.{◌≡◌, inl, inr, ⊎_elim, ℕ, true, false, cond, ◌&&◌, List, [], ◌∷◌, ◌++◌, Option, Some, None, Result, Ok, Err, refl, sym, ◌∙◌, ap, subst, append_assoc, codes}
use Rattle.std.specs.Prelude.{⊤, bytes_eq, unwrap_or}
use Rattle.std.specs.Option.{option_map}
use Rattle.std.specs.FinMap as fin
use Rattle.std.proofs.lemmas.List.{append-nil}
use Rattle.std.proofs.lemmas.Bool.{true≢false, eqb-true, or_cases, and_parts}
use Rattle.boot_model.specs.Vars.{Variables}
use Rattle.boot_model.specs.declared.boot_kind.BootKind.{BootKind}
use Rattle.boot_model.specs.declared.boot_kind.BootKind.TheVariants as boot
use Rattle.boot_programs.specs.Custom.{primary_text}
use Rattle.boot_programs.specs.Ends.{printed, printed_if, refused}
use Rattle.boot_programs.specs.Programs.{program}
use Rattle.boot_programs.specs.Settings.{setting_line}
use Rattle.boot_commands.specs.declared.command.Command.{Command}
use Rattle.boot_commands.specs.declared.command.Command.TheVariants as command
use Rattle.boot_commands.specs.declared.command.Mark.{Mark}
use Rattle.boot_commands.specs.Commands.{argv}
use Rattle.boot_commands.specs.Effects.{commands_of, vars_after}
use Rattle.boot_commands.specs.Plans.{looks, plan}
use Rattle.machine.specs.declared.calls.RunStop.TheVariants as run
use Rattle.machine.specs.declared.stops.Stop.{Stop}
use Rattle.machine.specs.declared.stops.Stop.TheVariants.{Refused, Outside, NoMemory}
use Rattle.machine.specs.declared.world.Ended.{Ended}
use Rattle.machine.specs.declared.world.Ended.TheVariants.{Code, Signal}
use Rattle.machine.specs.declared.world.Exit.{Exit}
use Rattle.machine.specs.declared.world.RunNote.{RunNote}
use Rattle.machine.specs.declared.world.World.{World}
use Rattle.machine.specs.Calls.{RunEnds}
use Rattle.machine.specs.Leaves.{BootLeaves, program_vars}
use Rattle.machine.specs.Past.{Always, Broken, Done, Grows, Past, Run, world_now}
use Rattle.machine.proofs.Moments.{always_did, always_joins, always_start, always_weaker, did_grows, same_boot}
use Rattle.boot_backends.specs.declared.refusal.BootRefusal.{BootRefusal}
use Rattle.boot_backends.specs.Ends.{Finishes, OneEnds, Ran, Writes}
use Rattle.boot_backends.specs.Runs.{asks_one, boot_child, is_code, is_stated}
use Rattle.boot_backends.specs.Through.{AreRunsOf, Through}
use Rattle.boot_backends.proofs.Loop.{no_stop}

-- ---- one command that ended as it may

-- a program that is asked for one variable changes nothing, whatever boot loader there is
pub print_keeps : (kind : BootKind) (name : List ℕ) (vars : Variables) → (program kind (argv (command.PrintVariable name)) vars).vars ≡ vars
print_keeps (boot.Grub file) name vars = refl
print_keeps (boot.Uboot a p) name vars =
    elim (fin.get vars name) as (λ o. (printed_if vars (option_map (λ text. setting_line name text) o)).vars ≡ vars) [ None ↦ refl | Some x ↦ refl ]
print_keeps (boot.Barebox state a p) name vars = refl
print_keeps (boot.Efi use_next) name vars = refl
print_keeps (boot.Custom path) name vars =
    elim (bytes_eq (codes "fw_printenv") path) as (λ b. (cond b (cond (bytes_eq name (codes "get-primary")) (printed vars (primary_text vars ++ 10 ∷ [])) (refused vars)) (refused vars)).vars ≡ vars) [
      | true ↦ elim (bytes_eq name (codes "get-primary")) as (λ b. (cond b (printed vars (primary_text vars ++ 10 ∷ [])) (refused vars)).vars ≡ vars) [ true ↦ refl | false ↦ refl ]
      | false ↦ refl
    ]
print_keeps boot.Noop name vars = refl

asked_keeps : (kind : BootKind) (c : Command) (vars : Variables) → asks_one c ≡ true → (program kind (argv c) vars).vars ≡ vars
asked_keeps kind (command.ListVariables file) vars asks = absurd (true≢false (sym asks))
asked_keeps kind (command.SetVariables file settings) vars asks = absurd (true≢false (sym asks))
asked_keeps kind (command.PrintVariable name) vars asks = print_keeps kind name vars
asked_keeps kind (command.StoreVariable name text) vars asks = absurd (true≢false (sym asks))
asked_keeps kind (command.PrintState state names) vars asks = absurd (true≢false (sym asks))
asked_keeps kind (command.StoreState state settings) vars asks = absurd (true≢false (sym asks))
asked_keeps kind command.ListEntries vars asks = absurd (true≢false (sym asks))
asked_keeps kind (command.SetNext number) vars asks = absurd (true≢false (sym asks))
asked_keeps kind command.RemoveNext vars asks = absurd (true≢false (sym asks))
asked_keeps kind (command.SetOrder order) vars asks = absurd (true≢false (sym asks))
asked_keeps kind command.RemoveOrder vars asks = absurd (true≢false (sym asks))
asked_keeps kind (command.GetPrimary path) vars asks = absurd (true≢false (sym asks))
asked_keeps kind (command.GetState path name) vars asks = absurd (true≢false (sym asks))
asked_keeps kind (command.SetState path name state) vars asks = absurd (true≢false (sym asks))
asked_keeps kind (command.SetPrimary path name) vars asks = absurd (true≢false (sym asks))

pub is_zero : (ended : Ended) → is_code 0 ended ≡ true → ended ≡ Code 0
is_zero (Code n) h = ap (λ (k : ℕ). Code k) (eqb-true n 0 h)
is_zero Signal h = absurd (true≢false (sym h))

stated_vars : (kind : BootKind) (c : Command) (exit : Exit) (w v : World) → BootLeaves kind (boot_child c) w v → (exit.ended ≡ Code 0 → v.vars ≡ program_vars kind (boot_child c) w.vars) → is_stated c exit ≡ true → v.vars ≡ (program kind (argv c) w.vars).vars
stated_vars kind c exit w v leaves serves h =
    ⊎_elim
    (λ zero. serves (is_zero exit.ended zero))
    (λ asked.
    let asks = (and_parts (asks_one c) (is_code 1 exit.ended && bytes_eq exit.out []) asked).0 in
    ⊎_elim (λ same. same ∙ sym (asked_keeps kind c w.vars asks)) (λ done. done) leaves.vars)
    (or_cases (is_code 0 exit.ended) (asks_one c && (is_code 1 exit.ended && bytes_eq exit.out [])) h)

-- the world after a command that ended as it may
pub record Stepped (kind : BootKind) (c : Command) (exit : Exit) (w v : World) : Type 0 where
  pub rest : v ≡ record w { vars = v.vars; runs = v.runs }
  pub vars : v.vars ≡ (program kind (argv c) w.vars).vars
  pub runs : v.runs ≡ w.runs ++ record { child = boot_child c; exit = exit } ∷ []

pub stepped : (c : Command) (exit : Exit) (a b : Past) → Ran c exit a b → is_stated c exit ≡ true → Stepped a.boot c exit (world_now a) (world_now b)
stepped c exit a b ran h = record {
  rest = ran.0.after.1.0.rest;
  vars = stated_vars a.boot c exit (world_now a) (world_now b) ran.0.after.1.0 ran.2 h;
  runs = ran.1;
}

pub ran_grows : (c : Command) (exit : Exit) (a b : Past) → Ran c exit a b → Grows a b
ran_grows c exit a b ran = did_grows a b (Run (boot_child c)) Done ran.0

-- ---- the worlds of commands

none_of : (cs : List Command) → AreRunsOf cs []
none_of [] = tt
none_of (c ∷ cs) = tt

-- the world in which they begin
pub through_none : (kind : BootKind) (cs : List Command) (w : World) → Through kind cs w w
through_none kind cs w = record {
  rest = refl;
  vars = record { done = []; left = cs; order = refl; vars = refl };
  runs = record { notes = []; runs = sym (append-nil w.runs); order = none_of cs };
}

-- a world of the first command
through_one : (kind : BootKind) (c : Command) (cs : List Command) (w u : World) (notes : List RunNote) → BootLeaves kind (boot_child c) w u → u.runs ≡ w.runs ++ notes → AreRunsOf (c ∷ cs) notes → Through kind (c ∷ cs) w u
through_one kind c cs w u notes leaves runs are = record {
  rest = leaves.rest;
  vars = ⊎_elim (λ same. record { done = []; left = c ∷ cs; order = refl; vars = same }) (λ done. record { done = c ∷ []; left = cs; order = refl; vars = done }) leaves.vars;
  runs = record { notes = notes; runs = runs; order = are };
}

-- a world of the later commands
through_more : (kind : BootKind) (c : Command) (exit : Exit) (cs : List Command) (w v u : World) → Stepped kind c exit w v → Through kind cs v u → Through kind (c ∷ cs) w u
through_more kind c exit cs w v u step later = record {
  rest = later.rest ∙ ap (λ (x : World). record x { vars = u.vars; runs = u.runs }) step.rest;
  vars = record {
    done = c ∷ later.vars.done;
    left = later.vars.left;
    order = ap (λ (xs : List Command). c ∷ xs) later.vars.order;
    vars = later.vars.vars ∙ ap (λ (x : Variables). vars_after kind later.vars.done x) step.vars;
  };
  runs = record {
    notes = record { child = boot_child c; exit = exit } ∷ later.runs.notes;
    runs = later.runs.runs ∙ ap (λ (xs : List RunNote). xs ++ later.runs.notes) step.runs ∙ append_assoc w.runs (record { child = boot_child c; exit = exit } ∷ []) later.runs.notes;
    order = (refl, later.runs.order);
  };
}

-- one command, however it ended
one_through : (c : Command) (cs : List Command) (a b : Past) (exit : Exit) → Ran c exit a b → Always a b (Through a.boot (c ∷ cs) (world_now a))
one_through c cs a b exit ran =
    always_did a b (Run (boot_child c)) Done (Through a.boot (c ∷ cs) (world_now a)) ran.0 (through_none a.boot (c ∷ cs) (world_now a))
    (λ u inside. through_one a.boot c cs (world_now a) u [] inside.0 (inside.1 ∙ sym (append-nil (world_now a).runs)) tt)
    (through_one a.boot c cs (world_now a) (world_now b) (record { child = boot_child c; exit = exit } ∷ []) ran.0.after.1.0 ran.1 (refl, none_of cs))

broken_through : (c : Command) (cs : List Command) (a b : Past) → RunEnds a b (boot_child c) (Err run.Failed) → Always a b (Through a.boot (c ∷ cs) (world_now a))
broken_through c cs a b did =
    always_did a b (Run (boot_child c)) Broken (Through a.boot (c ∷ cs) (world_now a)) did (through_none a.boot (c ∷ cs) (world_now a))
    (λ u inside. through_one a.boot c cs (world_now a) u [] inside.0 (inside.1 ∙ sym (append-nil (world_now a).runs)) tt)
    (through_one a.boot c cs (world_now a) (world_now b) [] did.after.0 (did.after.1 ∙ sym (append-nil (world_now a).runs)) tt)

stop_through : (c : Command) (cs : List Command) (read more : Variables) (a z : Past) (stop : Stop BootRefusal) → OneEnds c read more a z (Err stop) → Always a z (Through a.boot (c ∷ cs) (world_now a))
stop_through c cs read more a z (Refused why) h = one_through c cs a z h.0 h.1
stop_through c cs read more a z (Outside kind) h = broken_through c cs a z h.1
stop_through c cs read more a z NoMemory (inl e) = subst (λ (p : Past). Always a p (Through a.boot (c ∷ cs) (world_now a))) (sym e) (always_start a (Through a.boot (c ∷ cs) (world_now a)) (through_none a.boot (c ∷ cs) (world_now a)))
stop_through c cs read more a z NoMemory (inr h) = one_through c cs a z h.0 h.1

-- of all of them
pub through : (cs : List Command) (read : Variables) (a z : Past) (result : Result Variables (Stop BootRefusal)) → Finishes cs read a z result → Always a z (Through a.boot cs (world_now a))
through [] read a z result h = subst (λ (p : Past). Always a p (Through a.boot [] (world_now a))) (sym h.0) (always_start a (Through a.boot [] (world_now a)) (through_none a.boot [] (world_now a)))
through (c ∷ cs) read a z result (inl h) = stop_through c cs read h.1 a z h.0 h.3
through (c ∷ cs) read a z result (inr h) =
    let one = h.1.1 in
    let b = h.1.0 in
    let step = stepped c one.0 a b one.1 one.2.0 in
    let first = one_through c cs a b one.0 one.1 in
    let later = through cs h.0 b z result h.1.2 in
    always_joins a b z (Through a.boot (c ∷ cs) (world_now a)) first
    (always_weaker b z (Through b.boot cs (world_now b)) (Through a.boot (c ∷ cs) (world_now a))
    (λ u t. through_more a.boot c one.0 cs (world_now a) (world_now b) u step (subst (λ (k : BootKind). Through k cs (world_now b) u) (same_boot a b first.grows) t)) later)

are_wider : (cs ds : List Command) (notes : List RunNote) → AreRunsOf cs notes → AreRunsOf (cs ++ ds) notes
are_wider cs ds [] h = none_of (cs ++ ds)
are_wider [] ds (n ∷ ns) h = absurd h
are_wider (c ∷ cs) ds (n ∷ ns) h = (h.0, are_wider cs ds ns h.1)

through_wider : (kind : BootKind) (cs ds : List Command) (w u : World) → Through kind cs w u → Through kind (cs ++ ds) w u
through_wider kind cs ds w u t = record {
  rest = t.rest;
  vars = record {
    done = t.vars.done;
    left = t.vars.left ++ ds;
    order = ap (λ (xs : List Command). xs ++ ds) t.vars.order ∙ append_assoc t.vars.done t.vars.left ds;
    vars = t.vars.vars;
  };
  runs = record { notes = t.runs.notes; runs = t.runs.runs; order = are_wider cs ds t.runs.notes t.runs.order };
}

through_joined : (cs ds : List Command) (read last : Variables) (a b : Past) (u : World) → Finishes cs read a b (Ok last) → Through a.boot ds (world_now b) u → Through a.boot (cs ++ ds) (world_now a) u
through_joined [] ds read last a b u h t = subst (λ (p : Past). Through a.boot ds (world_now p) u) h.0 t
through_joined (c ∷ cs) ds read last a b u (inl h) t = absurd (no_stop h.2)
through_joined (c ∷ cs) ds read last a b u (inr h) t =
    let one = h.1.1 in
    let m = h.1.0 in
    let step = stepped c one.0 a m one.1 one.2.0 in
    let same = same_boot a m (ran_grows c one.0 a m one.1) in
    let later = through_joined cs ds h.0 last m b u h.1.2 (subst (λ (k : BootKind). Through k ds (world_now b) u) (sym same) t) in
    through_more a.boot c one.0 (cs ++ ds) (world_now a) (world_now m) u step (subst (λ (k : BootKind). Through k (cs ++ ds) (world_now m) u) same later)

-- ---- the worlds of a mark

writes_through : (o : Option (List Command)) (name : List ℕ) (b z : Past) (result : Result ⊤ (Stop BootRefusal)) → Writes o name b z result → Always b z (Through b.boot (unwrap_or o []) (world_now b))
writes_through None name b z result h = subst (λ (p : Past). Always b p (Through b.boot [] (world_now b))) (sym h.0) (always_start b (Through b.boot [] (world_now b)) (through_none b.boot [] (world_now b)))
writes_through (Some cs) name b z (Ok x) h = through cs fin.empty b z (Ok h.0) h.1
writes_through (Some cs) name b z (Err stop) h = through cs fin.empty b z (Err stop) h

module _ (kind : BootKind) (names : List (List ℕ)) (mark : Mark) (name : List ℕ) (a z : Past) where
  -- it stopped while it looked: so whatever it would have planned by
  pub looked_through : (read : Variables) (stop : Stop BootRefusal) → Finishes (looks kind names mark) fin.empty a z (Err stop) → Always a z (Through a.boot (commands_of kind names mark name read) (world_now a))
  looked_through read stop h =
      let cs = looks kind names mark in
      let ds = unwrap_or (plan kind names mark name read) [] in
      always_weaker a z (Through a.boot cs (world_now a)) (Through a.boot (cs ++ ds) (world_now a)) (λ u t. through_wider a.boot cs ds (world_now a) u t) (through cs fin.empty a z (Err stop) h)

  pub written_through : (read : Variables) (b : Past) (result : Result ⊤ (Stop BootRefusal)) → Finishes (looks kind names mark) fin.empty a b (Ok read) → Writes (plan kind names mark name read) name b z result → Always a z (Through a.boot (commands_of kind names mark name read) (world_now a))
  written_through read b result looked wrote =
      let cs = looks kind names mark in
      let ds = unwrap_or (plan kind names mark name read) [] in
      let first = through cs fin.empty a b (Ok read) looked in
      let same = same_boot a b first.grows in
      always_joins a b z (Through a.boot (cs ++ ds) (world_now a))
      (always_weaker a b (Through a.boot cs (world_now a)) (Through a.boot (cs ++ ds) (world_now a)) (λ u t. through_wider a.boot cs ds (world_now a) u t) first)
      (always_weaker b z (Through b.boot ds (world_now b)) (Through a.boot (cs ++ ds) (world_now a))
      (λ u t. through_joined cs ds fin.empty read a b u looked (subst (λ (k : BootKind). Through k ds (world_now b) u) same t))
      (writes_through (plan kind names mark name read) name b z result wrote))
