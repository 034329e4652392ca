-- A read, the reading of the boot variables, and a read: what they change, and what they tell by their runs.
use Rattle.std.proofs.Common.{◌≡◌, Bool, List, ℕ, Ok, Err, IsTrue, refl, sym, ◌∙◌, ap, subst}
use Rattle.std.specs.FinMap as fin
use Rattle.boot_model.specs.Vars.{Variables}
use Rattle.boot_model.specs.declared.boot_kind.BootKind.{BootKind}
use Rattle.boot_commands.specs.Plans.{readings}
use Rattle.boot_backends.specs.declared.refusal.BootRefusal.{BootRefusal}
use Rattle.boot_backends.specs.Causes.{CommandsCause}
use Rattle.boot_backends.specs.Marked.{OnlyReadVars, names_of}
use Rattle.boot_backends.proofs.Worlds.{through_none}
use Rattle.machine.specs.declared.calls.CallStop.{CallStop}
use Rattle.machine.specs.declared.calls.CallStop.TheVariants as call
use Rattle.machine.specs.declared.stops.Fault.TheVariants as fault
use Rattle.machine.specs.declared.stops.Stop.{Stop}
use Rattle.machine.specs.declared.stops.Stop.TheVariants.{Refused, Outside, NoMemory}
use Rattle.machine.specs.declared.world.RunNote.{RunNote}
use Rattle.machine.specs.declared.world.World.{World}
use Rattle.machine.specs.Frames.{Unchanged}
use Rattle.machine.specs.Calls.{call_fault}
use Rattle.machine.specs.Past.{Always, Fails, Past, world_now}
use Rattle.machine.specs.Runs.{runs_since}
use Rattle.machine.specs.Stops.{stop_fault}
use Rattle.machine.proofs.Joins.{now_unchanged}
use Rattle.machine.proofs.Moments.{always_joins, always_now, always_weaker}
use Rattle.system_conf.specs.Configuration.{Configuration}
use Rattle.status_report.specs.declared.view.StatusView.{StatusView}
use Rattle.status_report.specs.Views.{TellsVars, ViewCause, read_stop}

-- nothing was done
nothing_read : (boot : BootKind) (names : List (List ℕ)) (w : World) → OnlyReadVars boot names w w
nothing_read boot names w = record { rest = refl; runs = (through_none boot (readings boot names) w).runs }

module _ (t : Bool) (told : IsTrue t) (boot : BootKind) (names : List (List ℕ)) (a b c d : Past) (ab : Unchanged t a b) (bc : Always b c (OnlyReadVars boot names (world_now b))) where
  same : world_now b ≡ world_now a
  same = now_unchanged t a b ab told

  -- a read before
  pub kept_before : Always a c (OnlyReadVars boot names (world_now a))
  kept_before =
      always_joins a b c (OnlyReadVars boot names (world_now a))
      (always_weaker a b (λ u. u ≡ world_now a) (OnlyReadVars boot names (world_now a)) (λ u e. subst (OnlyReadVars boot names (world_now a)) (sym e) (nothing_read boot names (world_now a))) (ab.all told))
      (subst (λ (w : World). Always b c (OnlyReadVars boot names w)) same bc)

  -- and one behind
  pub kept_behind : Unchanged t c d → Always a d (OnlyReadVars boot names (world_now a))
  kept_behind cd =
      always_joins a c d (OnlyReadVars boot names (world_now a)) kept_before
      (always_weaker c d (λ u. u ≡ world_now c) (OnlyReadVars boot names (world_now a)) (λ u e. subst (OnlyReadVars boot names (world_now a)) (sym e) (always_now a c (OnlyReadVars boot names (world_now a)) kept_before)) (cd.all told))

  -- the world then is the one before, but for the runs
  pub now_read : world_now c ≡ record (world_now a) { runs = (world_now c).runs }
  now_read = (always_now a c (OnlyReadVars boot names (world_now a)) kept_before).rest

  -- the runs since are those of the reading
  pub runs_before : runs_since (world_now b) (world_now c) ≡ runs_since (world_now a) (world_now c)
  runs_before = ap (λ (w : World). runs_since w (world_now c)) same

  pub runs_behind : Unchanged t c d → runs_since (world_now b) (world_now c) ≡ runs_since (world_now a) (world_now d)
  runs_behind cd = runs_before ∙ ap (λ (w : World). runs_since (world_now a) w) (sym (now_unchanged t c d cd told))

-- the reading stopped
pub view_stopped : (s : Configuration) (before notes : List RunNote) (stop : Stop BootRefusal) → before ≡ notes → CommandsCause (readings s.boot (names_of s.slots)) fin.empty before (Err stop) → ViewCause s notes (Err stop)
view_stopped s before notes (Refused why) are h = subst (λ (ns : List RunNote). CommandsCause (readings s.boot (names_of s.slots)) fin.empty ns (Err (Refused why))) are h
view_stopped s before notes (Outside kind) are h = tt
view_stopped s before notes NoMemory are h = tt

-- it read all
pub view_read : (s : Configuration) (before notes : List RunNote) (read : Variables) (view : StatusView) → before ≡ notes → CommandsCause (readings s.boot (names_of s.slots)) fin.empty before (Ok read) → TellsVars s read view → ViewCause s notes (Ok view)
view_read s before notes read view are h tells =
    subst (λ (ns : List RunNote). ViewCause s ns (Ok view)) are (read, h, tells)

-- a read that failed
pub fails_read : (T : Type 0) (t : Bool) (a z : Past) (stop : CallStop) (given : Stop BootRefusal) → given ≡ read_stop stop → Fails t a z (call_fault {T = T} fault.Read (Err stop)) → Fails t a z (stop_fault {T = StatusView} {R = BootRefusal} (Err given))
fails_read T t a z stop given is h =
    subst (λ (g : Stop BootRefusal). Fails t a z (stop_fault {T = StatusView} {R = BootRefusal} (Err g))) (sym is) (of stop h)
  where
    of : (stop : CallStop) → Fails t a z (call_fault {T = T} fault.Read (Err stop)) → Fails t a z (stop_fault {T = StatusView} {R = BootRefusal} (Err (read_stop stop)))
    of call.Failed h = h
    of call.NoMemory h = h
