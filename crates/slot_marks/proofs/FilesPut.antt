-- A name is made primary, and then the status file is put.
use Rattle.std.proofs.Common.{◌≡◌, ◌⊎◌, inl, inr, ⊎_elim, ℕ, zero, suc, Bool, List, [], ◌∷◌, length, Option, Some, Result, Ok, Err, IsTrue, refl, sym, ◌∙◌, ap, subst}
use Rattle.std.specs.Prelude.{⊤, OnOk}
use Rattle.std.specs.FinMap as fin
use Rattle.boot_model.specs.Vars.{Variables}
use Rattle.boot_model.specs.declared.boot_kind.BootKind.{BootKind}
use Rattle.boot_state.specs.States.{KeepsName}
use Rattle.boot_commands.specs.declared.command.Command.{Command}
use Rattle.boot_commands.specs.declared.command.Mark.TheVariants as boot
use Rattle.boot_commands.specs.Effects.{commands_of}
use Rattle.machine.specs.declared.stops.Fault.{Fault}
use Rattle.machine.specs.declared.stops.Stop.{Stop}
use Rattle.machine.specs.declared.stops.Stop.TheVariants.{Refused, Outside, NoMemory}
use Rattle.machine.specs.declared.world.World.{World}
use Rattle.machine.specs.Frames.{ReplacesOnly}
use Rattle.machine.specs.Past.{Always, Fails, Past, world_now}
use Rattle.machine.specs.Runs.{runs_since}
use Rattle.machine.specs.Stops.{stop_fault}
use Rattle.machine.specs.World.{put_under, with_file}
use Rattle.machine.proofs.Failing.{fails_join}
use Rattle.machine.proofs.Moments.{always_joins, always_now, always_weaker, held_of, held_splits, same_boot}
use Rattle.system_conf.specs.Configuration.{Configuration}
use Rattle.boot_backends.specs.declared.refusal.BootRefusal.{BootRefusal}
use Rattle.boot_backends.specs.Causes.{MarkCause}
use Rattle.boot_backends.specs.Marked.{names_of}
use Rattle.boot_backends.specs.Systems.{Keeps, Leads, Leaves, MarkEnds}
use Rattle.boot_backends.specs.Through.{Through}
use Rattle.boot_backends.proofs.Callers.{keeps_now, stopped}
use Rattle.boot_backends.proofs.Truth.{honest_splits}
use Rattle.slot_status.specs.Changes.{changed_at}
use Rattle.slot_marks.specs.declared.refusal.MarkRefusal.{MarkRefusal}
use Rattle.slot_marks.specs.Marking.{MarksName, boot_stop}
use Rattle.slot_marks.specs.Noting.{HasPut, LeadsWith, MarksAndPuts, NothingRefused, PutEnds, StoppedWith, ThroughWith}
use Rattle.slot_marks.proofs.Marking.{still_through, world_same}

-- a change of one record leaves as many
pub length_changed : {A : Type 0} (at : ℕ) (change : A → A) (xs : List A) → length (changed_at at change xs) ≡ length xs
length_changed at change [] = refl
length_changed zero change (x ∷ xs) = refl
length_changed (suc at) change (x ∷ xs) = ap suc (length_changed at change xs)

-- ---- with the new file in both worlds

through_file : (kind : BootKind) (cs : List Command) (path text : List ℕ) (w x : World) → Through kind cs w x → Through kind cs (with_file w path text) (with_file x path text)
unfolding with_file
through_file kind cs path text w x t = record {
  rest = ap (λ (y : World). with_file y path text) t.rest;
  vars = t.vars;
  runs = t.runs;
}

-- the variables are those of before
vars_put : (path text : List ℕ) (w u : World) → (u ≡ w) ⊎ (u ≡ with_file w path text) → u.vars ≡ w.vars
unfolding with_file
vars_put path text w u (inl e) = ap (λ (x : World). x.vars) e
vars_put path text w u (inr e) = ap (λ (x : World). x.vars) e

module _ (s : Configuration) (name path text : List ℕ) where
  abbrev commands : Variables → List Command
  commands read = commands_of s.boot (names_of s.slots) boot.Primary name read

  with_by : (read : Variables) (a z : Past) → Always a z (ThroughWith s name path text read a) → LeadsWith s name path text a z
  with_by read a z moments = record {
    read = read;
    moments = moments;
    stops = λ v held.
        held_of a z (ThroughWith s name path text read a) (StoppedWith s name path text read a) moments
        (λ u x t crash. ⊎_elim
        (λ h. inl (stopped a.boot (commands read) (world_now a) u x h crash))
        (λ h. inr (stopped a.boot (commands read) (with_file (world_now a) path text) u x h crash)) t)
        v held;
  }

  -- without the new file
  without : (read : Variables) (a z : Past) → Always a z (Through a.boot (commands read) (world_now a)) → Always a z (ThroughWith s name path text read a)
  without read a z moments = always_weaker a z (Through a.boot (commands read) (world_now a)) (ThroughWith s name path text read a) (λ u h. inl h) moments

  pub with_unchanged : (a b : Past) → Always a b (λ u. u ≡ world_now a) → LeadsWith s name path text a b
  with_unchanged a b same = with_by fin.empty a b (without fin.empty a b (still_through s.boot (names_of s.slots) boot.Primary name a b fin.empty same))

  pub with_after : (a b z : Past) → Always a b (λ u. u ≡ world_now a) → LeadsWith s name path text b z → LeadsWith s name path text a z
  with_after a b z same led =
      let cs = commands led.read in
      let moments = subst (λ (w : World). Always b z (λ u. Through b.boot cs w u ⊎ Through b.boot cs (with_file w path text) u)) (world_same a b same) led.moments in
      let later = subst (λ (k : BootKind). Always b z (λ u. Through k cs (world_now a) u ⊎ Through k cs (with_file (world_now a) path text) u)) (same_boot a b same.grows) moments in
      with_by led.read a z
      (always_joins a b z (ThroughWith s name path text led.read a)
      (without led.read a b (still_through s.boot (names_of s.slots) boot.Primary name a b led.read same)) later)

  -- the file was put, or the one before is there
  abbrev Put : Past → World → Type 0
  Put b u = (u ≡ world_now b) ⊎ (u ≡ with_file (world_now b) path text)

  with_led : (a z : Past) → Leads s boot.Primary name a z → LeadsWith s name path text a z
  with_led a z led = with_by led.read a z (without led.read a z led.moments)

  with_put : (a b z : Past) → Leads s boot.Primary name a b → Always b z (Put b) → LeadsWith s name path text a z
  with_put a b z led put =
      let cs = commands led.read in
      let there = always_now a b (Through a.boot cs (world_now a)) led.moments in
      with_by led.read a z
      (always_joins a b z (ThroughWith s name path text led.read a) (without led.read a b led.moments)
      (always_weaker b z (Put b) (ThroughWith s name path text led.read a)
      (λ u h. ⊎_elim
      (λ e. inl (subst (Through a.boot cs (world_now a)) (sym e) there))
      (λ e. inr (subst (Through a.boot cs (with_file (world_now a) path text)) (sym e) (through_file a.boot cs path text (world_now a) (world_now b) there))) h)
      put))

  keeps_put : (a b z : Past) → Leads s boot.Primary name a b → Keeps s name a b → Always b z (Put b) → Keeps s name a z
  keeps_put a b z led keeps put = λ honest other ne v held.
      let both = honest_splits s.boot a b z led.moments.grows put.grows honest in
      let now = keeps_now s.boot (names_of s.slots) name other a b led.moments.grows keeps both.0 ne in
      let P : Variables → Type 0 = λ vars. KeepsName s.boot (names_of s.slots) other (world_now a).vars vars in
      ⊎_elim
      (λ before. keeps both.0 other ne v before)
      (λ later. held_of b z (Put b) (λ x. P x.vars) put (λ u x h crash. subst P (sym (crash.vars ∙ vars_put path text (world_now b) u h)) now) v later)
      (held_splits a b z led.moments.grows put.grows v held)

  leaves_put : (a b z : Past) → Leads s boot.Primary name a b → Always b z (Put b) → Leaves s boot.Primary name a b → world_now z ≡ with_file (world_now b) path text → Leaves s boot.Primary name a z
  leaves_put a b z led put leaves is = λ honest.
      let both = honest_splits s.boot a b z led.moments.grows put.grows honest in
      leaves both.0 ∙ ap (λ (vars : Variables). Some vars) (sym (vars_put path text (world_now b) (world_now z) (inr is)))

  runs_put : (a b z : Past) → MarkEnds s boot.Primary name a b (Ok tt) → world_now z ≡ with_file (world_now b) path text → MarkEnds s boot.Primary name a z (Ok tt)
  unfolding with_file
  runs_put a b z ends is =
      subst (λ (v : World). MarkCause s.boot (names_of s.slots) boot.Primary name (runs_since (world_now a) v) (Ok tt)) (sym is) ends

  files_put : (a b z : Past) → Leads s boot.Primary name a b → world_now z ≡ with_file (world_now b) path text → HasPut path text (world_now a) (world_now z)
  unfolding with_file
  files_put a b z led is =
      let there = always_now a b (Through a.boot (commands led.read) (world_now a)) led.moments in
      let before = ap (λ (w : World). put_under w.files path text) there.rest in
      ap (λ (w : World). w.files) is ∙ before

  -- ---- the whole

  ends_put : (a b z : Past) (result : Result ⊤ (Stop MarkRefusal)) → Leads s boot.Primary name a b → MarkEnds s boot.Primary name a b (Ok tt) → NothingRefused result → OnOk result (world_now z ≡ with_file (world_now b) path text) → PutEnds s name path text a z result
  ends_put a b z (Ok x) led ends none put = (runs_put a b z ends put, files_put a b z led put)
  ends_put a b z (Err (Refused why)) led ends none put = absurd none
  ends_put a b z (Err (Outside kind)) led ends none put = tt
  ends_put a b z (Err NoMemory) led ends none put = tt

  left_put : (a b z : Past) (result : Result ⊤ (Stop MarkRefusal)) → Leads s boot.Primary name a b → Always b z (Put b) → Leaves s boot.Primary name a b → OnOk result (world_now z ≡ with_file (world_now b) path text) → OnOk result (Leaves s boot.Primary name a z)
  left_put a b z (Ok x) led put leaves is = leaves_put a b z led put leaves is
  left_put a b z (Err stop) led put leaves is = tt

  pub marks_put : (t : Bool) (a b z : Past) (result : Result ⊤ (Stop MarkRefusal)) → MarksName t s boot.Primary name a b (Ok tt) → ReplacesOnly t path text b z → (IsTrue t → OnOk result (world_now z ≡ with_file (world_now b) path text)) → NothingRefused result → Fails t b z (stop_fault result) → MarksAndPuts t s name path text a z result
  marks_put t a b z result m only put none fails = record {
    leaves = λ told. left_put a b z result (m.leads told) (only.all told) (m.leaves told) (put told);
    others = λ told. keeps_put a b z (m.leads told) (m.others told) (only.all told);
    leads = λ told. with_put a b z (m.leads told) (only.all told);
    causes = λ told. ends_put a b z result (m.leads told) (m.causes told) none (put told);
    fails = fails_join t a b z (stop_fault result) m.fails fails;
  }

  ends_stopped : (a z : Past) (stop : Stop BootRefusal) → MarkEnds s boot.Primary name a z (Err stop) → PutEnds s name path text a z (Err (boot_stop stop))
  ends_stopped a z (Refused why) ends = ends
  ends_stopped a z (Outside kind) ends = tt
  ends_stopped a z NoMemory ends = tt

  pub marks_unput : (t : Bool) (a z : Past) (stop : Stop BootRefusal) → MarksName t s boot.Primary name a z (Err stop) → MarksAndPuts t s name path text a z (Err (boot_stop stop))
  marks_unput t a z stop m = record {
    leaves = λ told. tt;
    others = m.others;
    leads = λ told. with_led a z (m.leads told);
    causes = λ told. ends_stopped a z stop (m.causes told);
    fails = subst (λ (k : Option Fault). Fails t a z k) (same stop) m.fails;
  }
    where
      same : (stop : Stop BootRefusal) → stop_fault {T = ⊤} (Err stop) ≡ stop_fault {T = ⊤} (Err (boot_stop stop))
      same (Refused why) = refl
      same (Outside kind) = refl
      same NoMemory = refl
