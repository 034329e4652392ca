-- What scripted children do.
use Rattle.std.proofs.Common.{◌≡◌, ◌||◌, Bool, true, false, cond, [], ◌∷◌, ◌++◌, Option, Some, None, Result, Ok, Err, OnOk, IfOk, refl, sym, subst}
use Rattle.boot_model.specs.declared.boot_kind.BootKind.{BootKind}
use Rattle.boot_programs.specs.declared.program_end.ProgramEnd.{ProgramEnd}
use Rattle.boot_programs.specs.Programs.{program}
use Rattle.machine.specs.declared.world.Child.{Child}
use Rattle.machine.specs.declared.world.Exit.{Exit}
use Rattle.machine.specs.declared.world.World.{World}
use Rattle.machine.specs.Leaves.{Serves, program_vars}
use Rattle.machine.specs.Spares.{is_boot}
use Rattle.machine.proofs.Sparing.{boot_class_serves, others_serve}
use Rattle.undo_log.specs.Effects.{with_boot_run}
use Rattle.undo_log.proofs.Children.{boot_runs, boot_serves, runs_ran}
use Rattle.machine_bench.specs.declared.setup.Script.{Script}
use Rattle.machine.specs.Calls.{IsKept, is_cut}
use Rattle.machine_bench.specs.Scripts.{after_child, after_script, boot_exit, child_exit, effects_of, exit_of}

-- what a machine tells of a child that was run
abbrev pub Ran : BootKind → Child → World → World → Exit → Type 0
Ran boot child w v exit = (v.runs ≡ w.runs ++ record { child = child; exit = exit } ∷ []) × Serves child.class boot child exit.ended w v

-- a child that is no boot program
other_ran : (script : Option Script) (boot : BootKind) (child : Child) (w : World) → is_boot child.class ≡ false → Ran boot child w (after_script script child w) (exit_of script)
other_ran script boot child w none = (
  runs_ran child (exit_of script) (effects_of script) w,
  others_serve child.class boot child (exit_of script).ended w (after_script script child w) none,
)

-- by its class
child_ran : (script : Option Script) (boot : BootKind) (child : Child) (w : World) → Ran boot child w (after_child script boot child w) (child_exit script boot child w)
child_ran script boot child w =
    let end = program boot (child.program ∷ child.args) w.vars in
    elim (is_boot child.class) as (λ b. is_boot child.class ≡ b → Ran boot child w (cond b (with_boot_run w child (cond b (boot_exit script end) (exit_of script)) (program_vars boot child w.vars)) (after_script script child w)) (cond b (boot_exit script end) (exit_of script))) [
      | true ↦ λ e. (
        boot_runs child (boot_exit script end) (program_vars boot child w.vars) w,
        boot_class_serves child.class boot child (boot_exit script end).ended w (with_boot_run w child (boot_exit script end) (program_vars boot child w.vars)) e (boot_serves boot child (boot_exit script end) (program_vars boot child w.vars) w refl),
      )
      | false ↦ λ e. other_ran script boot child w e
    ] refl

pub runs_by : {E : Type 0} (fails : Bool) (noted : Result Exit E) (script : Option Script) (boot : BootKind) (child : Child) (w v : World) → (fails ≡ false → OnOk noted (v ≡ after_child script boot child w)) → IfOk noted (λ exit. exit ≡ child_exit script boot child w) → fails ≡ false → IfOk noted (Ran boot child w v)
runs_by fails (Ok exit) script boot child w v ran is done =
    subst (λ (u : World). Ran boot child w u exit) (sym (ran done)) (subst (λ (e : Exit). Ran boot child w (after_child script boot child w) e) (sym is) (child_ran script boot child w))
runs_by fails (Err e) script boot child w v ran is done = tt

-- what is kept of the output of a child by its script
pub exit_kept : (script : Option Script) → IsKept (exit_of script)
exit_kept None = record { out = []; err = []; fronts = record { out_kept = refl; err_kept = refl; cut_is = refl } }
exit_kept (Some s) = record { out = s.out; err = s.err; fronts = record { out_kept = refl; err_kept = refl; cut_is = refl } }

-- and of a boot program
boot_kept : (script : Option Script) (end : ProgramEnd) → IsKept (boot_exit script end)
boot_kept None end = record { out = end.out; err = []; fronts = record { out_kept = refl; err_kept = refl; cut_is = sym (or_nothing (is_cut end.out)) } }
  where
    or_nothing : (b : Bool) → (b || false) ≡ b
    or_nothing true = refl
    or_nothing false = refl
boot_kept (Some s) end = exit_kept (Some s)

pub boot_is_kept : (exit : Exit) (script : Option Script) (end : ProgramEnd) → exit ≡ boot_exit script end → IsKept exit
boot_is_kept exit script end is = subst IsKept (sym is) (boot_kept script end)

pub is_kept : (exit : Exit) (script : Option Script) → exit ≡ exit_of script → IsKept exit
is_kept exit script is = subst IsKept (sym is) (exit_kept script)
