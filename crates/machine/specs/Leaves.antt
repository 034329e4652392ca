-- What a child leaves of the world, by its class.
use Rattle.std.specs.Prelude.{◌≡◌, ◌⊎◌, ◌∷◌}
use Rattle.boot_model.specs.declared.boot_kind.BootKind.{BootKind}
use Rattle.boot_model.specs.Vars.{Variables}
use Rattle.boot_programs.specs.Programs.{program}
use Rattle.machine.specs.declared.world.Child.{Child}
use Rattle.machine.specs.declared.world.ChildClass.{ChildClass}
use Rattle.machine.specs.declared.world.ChildClass.TheVariants.{Boot, Helper, Handler, Hook}
use Rattle.machine.specs.declared.world.Ended.{Ended}
use Rattle.machine.specs.declared.world.Ended.TheVariants.{Code}
use Rattle.machine.specs.declared.world.World.{World}
use Rattle.machine.specs.Spares.{Spared}

-- the variables that a boot program makes of these, where the child is one
abbrev pub program_vars : BootKind → Child → Variables → Variables
program_vars kind child vars = (program kind (child.program ∷ child.args) vars).vars

-- v is w but for its runs, and for the variables, which the boot program changed wholly or not at all
pub record BootLeaves (kind : BootKind) (child : Child) (w v : World) : Type 0 where
  pub rest : v ≡ record w { vars = v.vars; runs = v.runs }
  pub vars : (v.vars ≡ w.vars) ⊎ (v.vars ≡ program_vars kind child w.vars)

-- what a child of this class leaves
abbrev pub Leaves : ChildClass → BootKind → Child → World → World → Type 0
Leaves Boot kind child w v = BootLeaves kind child w v
Leaves Helper kind child w v = Spared child w v
Leaves Handler kind child w v = Spared child w v
Leaves Hook kind child w v = Spared child w v

-- a boot program that ended with 0 changed the variables wholly
abbrev pub Serves : ChildClass → BootKind → Child → Ended → World → World → Type 0
Serves Boot kind child ended w v = ended ≡ Code 0 → v.vars ≡ program_vars kind child w.vars
Serves Helper kind child ended w v = Unit {0}
Serves Handler kind child ended w v = Unit {0}
Serves Hook kind child ended w v = Unit {0}
