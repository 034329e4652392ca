-- What a child does by its script, and a boot program by its words: its end, and the world after it.
use Rattle.std.specs.Prelude.{◌&&◌, ◌||◌, ℕ, Bool, true, false, List, [], ◌∷◌, take, find, Option, Some, None, bytes_eq, if◌then◌else◌}
use Rattle.boot_model.specs.declared.boot_kind.BootKind.{BootKind}
use Rattle.boot_programs.specs.declared.program_end.ProgramEnd.{ProgramEnd}
use Rattle.boot_programs.specs.Programs.{program}
use Rattle.machine.specs.declared.world.Child.{Child}
use Rattle.machine.specs.declared.world.Ended.TheVariants.{Code}
use Rattle.machine.specs.declared.world.Exit.{Exit}
use Rattle.machine.specs.declared.world.World.{World}
use Rattle.machine.specs.Calls.{is_cut, kept_output}
use Rattle.machine.specs.Leaves.{program_vars}
use Rattle.machine.specs.Spares.{is_boot}
use Rattle.undo_log.specs.declared.effect.Effect.{Effect}
use Rattle.undo_log.specs.Effects.{after_effects, with_boot_run, with_run}
use Rattle.machine_bench.specs.declared.setup.Script.{Script}

-- texts are a front of others
abbrev pub is_front : List (List ℕ) → List (List ℕ) → Bool
is_front [] texts = true
is_front (f ∷ fs) [] = false
is_front (f ∷ fs) (t ∷ ts) = bytes_eq f t && is_front fs ts

-- the script is of the child's program, and its arguments are a front of the child's
abbrev pub is_script_for : Child → Script → Bool
is_script_for child script = bytes_eq script.program child.program && is_front script.args child.args

-- the first of the scripts that is for the child
abbrev pub script_for : List Script → Child → Option Script
script_for scripts child = find (λ s. is_script_for child s) scripts

-- the end of a child by its script; a child without one ends with 127
abbrev pub exit_of : Option Script → Exit
exit_of None = record { ended = Code 127; out = []; err = []; cut = false }
exit_of (Some s) = record {
  ended = s.ended;
  out = take kept_output s.out;
  err = take kept_output s.err;
  cut = is_cut s.out || is_cut s.err;
}

abbrev pub effects_of : Option Script → List Effect
effects_of None = []
effects_of (Some s) = s.effects

-- the world after a child by its script
abbrev pub after_script : Option Script → Child → World → World
after_script script child w = after_effects child (effects_of script) (with_run w child (exit_of script))

-- the end of a boot program: by its script, or else as what it does
abbrev pub boot_exit : Option Script → ProgramEnd → Exit
boot_exit None end = record { ended = Code end.code; out = take kept_output end.out; err = []; cut = is_cut end.out }
boot_exit (Some s) end = exit_of (Some s)

-- the end of a child over a world with this boot loader
abbrev pub child_exit : Option Script → BootKind → Child → World → Exit
child_exit script boot child w =
    if is_boot child.class then boot_exit script (program boot (child.program ∷ child.args) w.vars) else exit_of script

-- the world after a child: a boot program that ends with 0, by its script or without one, changes the variables as its words say
abbrev pub after_child : Option Script → BootKind → Child → World → World
after_child script boot child w =
    if is_boot child.class
    then with_boot_run w child (child_exit script boot child w) (program_vars boot child w.vars)
    else after_script script child w
