-- Boot programs that printed what they are to.
use Rattle.std.specs.Prelude.{◌≡◌, ℕ, false, List, [], ◌∷◌, ◌++◌, None, codes}
use Rattle.boot_model.specs.Vars.{Variables}
use Rattle.boot_model.specs.declared.boot_kind.BootKind.{BootKind}
use Rattle.boot_outputs.specs.Plain.{IsPlain}
use Rattle.boot_programs.specs.Programs.{program}
use Rattle.boot_state.specs.Orders.{value}
use Rattle.machine.specs.declared.world.Child.{Child}
use Rattle.machine.specs.declared.world.ChildClass.TheVariants.{Boot}
use Rattle.machine.specs.declared.world.Ended.TheVariants.{Code}
use Rattle.machine.specs.declared.world.Exit.{Exit}
use Rattle.machine.specs.declared.world.World.{World}
use Rattle.machine.specs.Past.{Moment, Past, Run, moments_since, world_now}

-- fw_printenv was asked for this variable, ended with 1 and printed nothing
pub record SaysUnset (child : Child) (exit : Exit) (name : List ℕ) : Type 0 where
  pub program : child.program ≡ codes "fw_printenv"
  pub args : child.args ≡ name ∷ []
  pub ended : exit.ended ≡ Code 1
  pub whole : exit.cut ≡ false
  pub out : exit.out ≡ []

-- a boot program that ended so over these variables: they are plain, it printed what its words say, and a variable that it said is not set is not
pub record HonestRun (boot : BootKind) (child : Child) (exit : Exit) (vars : Variables) : Type 0 where
  pub plain : IsPlain boot vars
  pub printed : exit.ended ≡ Code 0 → exit.cut ≡ false → exit.out ≡ (program boot (child.program ∷ child.args) vars).out
  pub unset : (name : List ℕ) → SaysUnset child exit name → value vars name ≡ None

-- a moment in which a boot program ended, from the world before it
abbrev pub HonestMoment : BootKind → World → Moment → Type 0
HonestMoment boot w m =
    (child : Child) (exit : Exit) → child.class ≡ Boot → m.call ≡ Run child
    → m.after.runs ≡ w.runs ++ record { child = child; exit = exit } ∷ [] → HonestRun boot child exit w.vars

abbrev pub EachHonest : BootKind → World → List Moment → Type 0
EachHonest boot w [] = Unit {0}
EachHonest boot w (m ∷ ms) = HonestMoment boot w m × EachHonest boot m.after ms

-- the machine has the boot loader of the configuration, and the boot programs that were run since were honest
pub record Honest (kind : BootKind) (old new : Past) : Type 0 where
  pub boot : old.boot ≡ kind
  pub each : EachHonest kind (world_now old) (moments_since old new)
