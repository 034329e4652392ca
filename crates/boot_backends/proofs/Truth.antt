-- Honest runs: what they show, and what a mark leaves with them.
use Rattle.std.proofs.Common.{◌≡◌, inl, inr, ⊎_elim, ℕ, Bool, true, false, cond, ◌||◌, ◌&&◌, not, List, [], ◌∷◌, ◌++◌, Option, Some, None, Result, Ok, Err, refl, sym, ◌∙◌, ap, subst}
use Rattle.std.specs.Prelude.{⊤, OnOk, bytes_eq}
use Rattle.std.specs.Option.{option_map}
use Rattle.std.specs.FinMap as fin
use Rattle.std.specs.List.{list_all}
use Rattle.std.specs.Str.{is_utf8}
use Rattle.std.proofs.lemmas.Bool.{cases_Bool, true≢false, eqb-true, or_cases, or_parts, and_parts}
use Rattle.std.proofs.lemmas.Slice.Eq.{bytes_eq-Decides}
use Rattle.boot_model.specs.Vars.{Variables}
use Rattle.boot_model.specs.declared.boot_kind.BootKind.{BootKind}
use Rattle.boot_programs.specs.Programs.{program}
use Rattle.boot_state.specs.Orders.{has_word}
use Rattle.boot_commands.specs.declared.command.Command.{Command}
use Rattle.boot_commands.specs.declared.command.Command.TheVariants as command
use Rattle.boot_commands.specs.declared.command.Mark.{Mark}
use Rattle.boot_commands.specs.Commands.{argv}
use Rattle.boot_commands.specs.Effects.{is_name, left_by, vars_after}
use Rattle.boot_commands.specs.Plans.{looks, plan}
use Rattle.boot_commands.proofs.Marks.{looks_keep, plan_does}
use Rattle.boot_outputs.specs.Outputs.{spelled}
use Rattle.boot_outputs.specs.Saw.{IsUnset, Saw, Shows}
use Rattle.boot_outputs.proofs.Tells.{looks_tell}
use Rattle.machine.specs.declared.stops.Stop.{Stop}
use Rattle.machine.specs.declared.stops.Stop.TheVariants.{NoMemory, Refused}
use Rattle.machine.specs.declared.world.Ended.{Ended}
use Rattle.machine.specs.declared.world.Ended.TheVariants.{Code, Signal}
use Rattle.machine.specs.declared.world.Exit.{Exit}
use Rattle.machine.specs.declared.world.World.{World}
use Rattle.machine.specs.Past.{Done, Grows, Moment, Past, Run, moments_since, world_after, world_now}
use Rattle.machine.proofs.Moments.{grows_refl, made_joins, made_more, now-grows, same_boot}
use Rattle.boot_backends.specs.declared.refusal.BootRefusal.{BootRefusal}
use Rattle.boot_backends.specs.declared.refusal.BootRefusal.TheVariants.{Unlisted}
use Rattle.boot_backends.specs.Ends.{Finishes, Marks, Ran, Writes}
use Rattle.boot_backends.specs.Honest.{EachHonest, Honest, HonestRun}
use Rattle.boot_backends.specs.Marked.{Left}
use Rattle.boot_backends.specs.Runs.{asks_one, boot_child, is_code, is_reading, is_stated, taken, told_by}
use Rattle.boot_backends.proofs.Loop.{no_stop, same_ok}
use Rattle.boot_backends.proofs.Worlds.{ran_grows, stepped, through}

-- ---- honest runs, one after another

each_append : (kind : BootKind) (w : World) (ms ns : List Moment) → EachHonest kind w (ms ++ ns) → EachHonest kind w ms × EachHonest kind (world_after w ms) ns
each_append kind w [] ns h = (tt, h)
each_append kind w (m ∷ ms) ns h = let rest = each_append kind m.after ms ns h.1 in ((h.0, rest.0), rest.1)

pub honest_splits : (kind : BootKind) (a b c : Past) → Grows a b → Grows b c → Honest kind a c → Honest kind a b × Honest kind b c
honest_splits kind a b c ab bc h =
    let both = each_append kind (world_now a) (moments_since a b) (moments_since b c) (subst (λ (ms : List Moment). EachHonest kind (world_now a) ms) (made_joins a b c ab bc) h.each) in
    (record { boot = h.boot; each = both.0 }, record { boot = same_boot a b ab ∙ h.boot; each = subst (λ (w : World). EachHonest kind w (moments_since b c)) (sym (now-grows a b ab)) both.1 })

honest_one : (kind : BootKind) (c : Command) (exit : Exit) (a b : Past) → Ran c exit a b → Honest kind a b → HonestRun kind (boot_child c) exit (world_now a).vars
honest_one kind c exit a b ran h =
    let one = record { call = Run (boot_child c); end = Done; after = world_now b } ∷ [] in
    let is = ap (λ (p : Past). moments_since a p) ran.0.grows ∙ made_more a one in
    (subst (λ (ms : List Moment). EachHonest kind (world_now a) ms) is h.each).0 (boot_child c) exit refl refl ran.1

-- ---- from what was taken of a text to what was shown

is_code-is : (k : ℕ) (ended : Ended) → is_code k ended ≡ true → ended ≡ Code k
is_code-is k (Code n) h = ap (λ (j : ℕ). Code j) (eqb-true n k h)
is_code-is k Signal h = absurd (true≢false (sym h))

taken_parts : (cut y : Bool) (s : Option Variables) (read more : Variables) → cond cut None (cond y s (Some read)) ≡ Some more → (cut ≡ false) × ((y ≡ true → s ≡ Some more) × (y ≡ false → more ≡ read))
taken_parts true y s read more h = cc
taken_parts false true s read more h = (refl, (λ e. h, λ e. absurd (true≢false e)))
taken_parts false false s read more h = (refl, (λ e. absurd (true≢false (sym e)), λ e. cc))

-- a command that writes adds nothing
writes_add : (c : Command) (out : List ℕ) (read : Variables) → is_reading c ≡ false → spelled c out read ≡ Some read
writes_add (command.ListVariables file) out read h = absurd (true≢false h)
writes_add (command.SetVariables file settings) out read h = refl
writes_add (command.PrintVariable name) out read h = absurd (true≢false h)
writes_add (command.StoreVariable name text) out read h = refl
writes_add (command.PrintState state names) out read h = absurd (true≢false h)
writes_add (command.StoreState state settings) out read h = refl
writes_add command.ListEntries out read h = absurd (true≢false h)
writes_add (command.SetNext number) out read h = refl
writes_add command.RemoveNext out read h = refl
writes_add (command.SetOrder order) out read h = refl
writes_add command.RemoveOrder out read h = refl
writes_add (command.GetPrimary path) out read h = absurd (true≢false h)
writes_add (command.GetState path name) out read h = absurd (true≢false h)
writes_add (command.SetState path name state) out read h = refl
writes_add (command.SetPrimary path name) out read h = refl

-- a variable that was said not to be set is not
unset : (kind : BootKind) (c : Command) (exit : Exit) (vars : Variables) → HonestRun kind (boot_child c) exit vars → asks_one c ≡ true → exit.ended ≡ Code 1 → exit.cut ≡ false → exit.out ≡ [] → IsUnset c vars
unset kind (command.ListVariables file) exit vars honest asks ended whole out = absurd (true≢false (sym asks))
unset kind (command.SetVariables file settings) exit vars honest asks ended whole out = absurd (true≢false (sym asks))
unset kind (command.PrintVariable name) exit vars honest asks ended whole out =
    honest.unset name (record { program = refl; args = refl; ended = ended; whole = whole; out = out })
unset kind (command.StoreVariable name text) exit vars honest asks ended whole out = absurd (true≢false (sym asks))
unset kind (command.PrintState state names) exit vars honest asks ended whole out = absurd (true≢false (sym asks))
unset kind (command.StoreState state settings) exit vars honest asks ended whole out = absurd (true≢false (sym asks))
unset kind command.ListEntries exit vars honest asks ended whole out = absurd (true≢false (sym asks))
unset kind (command.SetNext number) exit vars honest asks ended whole out = absurd (true≢false (sym asks))
unset kind command.RemoveNext exit vars honest asks ended whole out = absurd (true≢false (sym asks))
unset kind (command.SetOrder order) exit vars honest asks ended whole out = absurd (true≢false (sym asks))
unset kind command.RemoveOrder exit vars honest asks ended whole out = absurd (true≢false (sym asks))
unset kind (command.GetPrimary path) exit vars honest asks ended whole out = absurd (true≢false (sym asks))
unset kind (command.GetState path name) exit vars honest asks ended whole out = absurd (true≢false (sym asks))
unset kind (command.SetState path name state) exit vars honest asks ended whole out = absurd (true≢false (sym asks))
unset kind (command.SetPrimary path name) exit vars honest asks ended whole out = absurd (true≢false (sym asks))

module _ (kind : BootKind) (c : Command) (exit : Exit) (vars read more : Variables) (honest : HonestRun kind (boot_child c) exit vars) (stated : is_stated c exit ≡ true) where
  read_shows : cond (exit.cut || not (is_utf8 exit.out)) None (told_by c exit read) ≡ Some more → Shows kind c vars read more
  read_shows h =
      let parts = taken_parts (exit.cut || not (is_utf8 exit.out)) (is_code 0 exit.ended) (spelled c exit.out read) read more h in
      let whole = (or_parts exit.cut (not (is_utf8 exit.out)) parts.0).0 in
      ⊎_elim
      (λ zero. inl (subst (λ (t : List ℕ). spelled c t read ≡ Some more) (honest.printed (is_code-is 0 exit.ended zero) whole) (parts.1.0 zero)))
      (λ other.
      let asked = ⊎_elim (λ zero. absurd (true≢false (sym zero ∙ other))) (λ t. and_parts (asks_one c) (is_code 1 exit.ended && bytes_eq exit.out []) t) (or_cases (is_code 0 exit.ended) (asks_one c && (is_code 1 exit.ended && bytes_eq exit.out [])) stated) in
      let one = and_parts (is_code 1 exit.ended) (bytes_eq exit.out []) asked.1 in
      inr (unset kind c exit vars honest asked.0 (is_code-is 1 exit.ended one.0) whole ((bytes_eq-Decides exit.out []).0 one.1), parts.1.1 other))
      (cases_Bool (is_code 0 exit.ended))

  shows : taken c exit read ≡ Some more → Shows kind c vars read more
  shows h =
      elim (is_reading c) as (λ b. is_reading c ≡ b → cond b (cond (exit.cut || not (is_utf8 exit.out)) None (told_by c exit read)) (Some read) ≡ Some more → Shows kind c vars read more) [
        | true ↦ λ e taken. read_shows taken
        | false ↦ λ e same. inl (writes_add c (program kind (argv c) vars).out read e ∙ same)
      ] refl h

-- ---- what was seen

pub finishes_grows : (cs : List Command) (read : Variables) (a z : Past) (result : Result Variables (Stop BootRefusal)) → Finishes cs read a z result → Grows a z
finishes_grows cs read a z result h = (through cs read a z result h).grows

-- the variables once all were run
pub ran_vars : (cs : List Command) (read last : Variables) (a z : Past) → Finishes cs read a z (Ok last) → (world_now z).vars ≡ vars_after a.boot cs (world_now a).vars
ran_vars [] read last a z h = ap (λ (p : Past). (world_now p).vars) h.0
ran_vars (c ∷ cs) read last a z (inl h) = absurd (no_stop h.2)
ran_vars (c ∷ cs) read last a z (inr h) =
    let one = h.1.1 in
    let step = stepped c one.0 a h.1.0 one.1 one.2.0 in
    ran_vars cs h.0 last h.1.0 z h.1.2
    ∙ ap (λ (k : BootKind). vars_after k cs (world_now h.1.0).vars) (same_boot a h.1.0 (ran_grows c one.0 a h.1.0 one.1))
    ∙ ap (λ (v : Variables). vars_after a.boot cs v) step.vars

pub saw : (kind : BootKind) (cs : List Command) (read last : Variables) (a z : Past) → Finishes cs read a z (Ok last) → Honest kind a z → Saw kind cs (world_now a).vars read last
saw kind [] read last a z h honest = same_ok h.1
saw kind (c ∷ cs) read last a z (inl h) honest = absurd (no_stop h.2)
saw kind (c ∷ cs) read last a z (inr h) honest =
    let one = h.1.1 in
    let b = h.1.0 in
    let step = stepped c one.0 a b one.1 one.2.0 in
    let both = honest_splits kind a b z (ran_grows c one.0 a b one.1) (finishes_grows cs h.0 b z (Ok last) h.1.2) honest in
    let run = honest_one kind c one.0 a b one.1 both.0 in
    let rest = saw kind cs h.0 last b z h.1.2 both.1 in
    let vars = step.vars ∙ ap (λ (k : BootKind). (program k (argv c) (world_now a).vars).vars) honest.boot in
    (h.0, (run.plain, shows kind c one.0 (world_now a).vars read h.0 run one.2.0 one.2.1, subst (λ (v : Variables). Saw kind cs v h.0 last) vars rest))

-- ---- what a mark leaves

writes_leave : (kind : BootKind) (o : Option (List Command)) (name : List ℕ) (b z : Past) (vars : Variables) → b.boot ≡ kind → (world_now b).vars ≡ vars → Writes o name b z (Ok tt) → Some (world_now z).vars ≡ option_map (λ cs. vars_after kind cs vars) o
writes_leave kind None name b z vars boot same h = absurd (⊎_elim (λ (e : ◌≡◌ {A = Result ⊤ (Stop BootRefusal)} (Ok tt) (Err (Refused (Unlisted name)))). cc) (λ (e : ◌≡◌ {A = Result ⊤ (Stop BootRefusal)} (Ok tt) (Err NoMemory)). cc) h.1)
writes_leave kind (Some cs) name b z vars boot same h =
    ap (λ (v : Variables). Some v) (ran_vars cs fin.empty h.0 b z h.1 ∙ ap (λ (k : BootKind). vars_after k cs (world_now b).vars) boot ∙ ap (λ (v : Variables). vars_after kind cs v) same)

writes_grow : (o : Option (List Command)) (name : List ℕ) (b z : Past) (result : Result ⊤ (Stop BootRefusal)) → Writes o name b z result → Grows b z
writes_grow None name b z result h = subst (λ (p : Past). Grows b p) (sym h.0) (grows_refl b)
writes_grow (Some cs) name b z (Ok x) h = finishes_grows cs fin.empty b z (Ok h.0) h.1
writes_grow (Some cs) name b z (Err stop) h = finishes_grows cs fin.empty b z (Err stop) h

module _ (kind : BootKind) (names : List (List ℕ)) (mark : Mark) (name : List ℕ) (has : has_word names name ≡ true) where
  -- what was read decides as the variables do
  pub told : (read : Variables) (a b z : Past) (result : Result ⊤ (Stop BootRefusal)) → Finishes (looks kind names mark) fin.empty a b (Ok read) → Writes (plan kind names mark name read) name b z result → Honest kind a z → plan kind names mark name read ≡ plan kind names mark name (world_now a).vars
  told read a b z result looked wrote honest =
      let both = honest_splits kind a b z (finishes_grows (looks kind names mark) fin.empty a b (Ok read) looked) (writes_grow (plan kind names mark name read) name b z result wrote) honest in
      looks_tell kind names mark name (world_now a).vars read has (saw kind (looks kind names mark) fin.empty read a b looked both.0)

  marks_leave : (a z : Past) → list_all is_name names ≡ true → is_name name ≡ true → Marks kind names mark name a z (Ok tt) → Honest kind a z → left_by kind names mark name (world_now a).vars ≡ Some (world_now z).vars
  marks_leave a z are is (inl h) honest = absurd (let e : ◌≡◌ {A = Result ⊤ (Stop BootRefusal)} (Ok tt) (Err h.0) = h.1 in cc)
  marks_leave a z are is (inr h) honest =
      let read = h.0 in
      let b = h.1.0 in
      let cs = looks kind names mark in
      let grown = finishes_grows cs fin.empty a b (Ok read) h.1.1 in
      let same = ran_vars cs fin.empty read a b h.1.1 ∙ ap (λ (k : BootKind). vars_after k cs (world_now a).vars) honest.boot ∙ looks_keep kind names mark (world_now a).vars in
      sym (writes_leave kind (plan kind names mark name read) name b z (world_now a).vars (same_boot a b grown ∙ honest.boot) same h.1.2
      ∙ ap (λ (o : Option (List Command)). option_map (λ ds. vars_after kind ds (world_now a).vars) o) (told read a b z (Ok tt) h.1.1 h.1.2 honest)
      ∙ plan_does kind names mark name (world_now a).vars is are)

  pub marks_left : (a z : Past) (result : Result ⊤ (Stop BootRefusal)) → list_all is_name names ≡ true → is_name name ≡ true → Marks kind names mark name a z result → OnOk result (Left kind names mark name a z)
  marks_left a z (Ok x) are is h = λ honest. marks_leave a z are is h honest
  marks_left a z (Err e) are is h = tt
