-- The worlds to which commands lead, and what a stop may leave of them.
use Rattle.std.specs.Prelude.{◌≡◌, ℕ, false, List, [], ◌∷◌, ◌++◌}
use Rattle.boot_model.specs.Vars.{Variables}
use Rattle.boot_model.specs.declared.boot_kind.BootKind.{BootKind}
use Rattle.boot_commands.specs.declared.command.Command.{Command}
use Rattle.boot_commands.specs.Effects.{vars_after}
use Rattle.machine.specs.declared.world.RunNote.{RunNote}
use Rattle.machine.specs.declared.world.World.{World}
use Rattle.machine.specs.Crash.{is_in}
use Rattle.machine.specs.World.{disk_byte, disk_length}
use Rattle.boot_backends.specs.Runs.{boot_child}

-- the runs are of the first of these commands, in order
abbrev pub AreRunsOf : List Command → List RunNote → Type 0
AreRunsOf cs [] = Unit {0}
AreRunsOf [] (n ∷ ns) = ⊥
AreRunsOf (c ∷ cs) (n ∷ ns) = (n.child ≡ boot_child c) × AreRunsOf cs ns

-- the variables after the first of these commands
pub record VarsAfterFirst (boot : BootKind) (cs : List Command) (before after : Variables) : Type 0 where
  pub done : List Command
  pub left : List Command
  pub order : cs ≡ done ++ left
  pub vars : after ≡ vars_after boot done before

-- the first of these commands were run
pub record RanFirst (cs : List Command) (before after : List RunNote) : Type 0 where
  pub notes : List RunNote
  pub runs : after ≡ before ++ notes
  pub order : AreRunsOf cs notes

-- u is w but that the first of these commands were run, and for the variables, which are those after the first of them
pub record Through (boot : BootKind) (cs : List Command) (w u : World) : Type 0 where
  pub rest : u ≡ record w { vars = u.vars; runs = u.runs }
  pub vars : VarsAfterFirst boot cs w.vars u.vars
  pub runs : RanFirst cs w.runs u.runs

-- v, which a stop left, is the same but for bytes that were pending in w
pub record StoppedThrough (boot : BootKind) (cs : List Command) (w v : World) : Type 0 where
  pub files : v.files ≡ w.files
  pub writes : v.writes ≡ w.writes
  pub lengths : (path : List ℕ) → disk_length v path ≡ disk_length w path
  pub bytes : (path : List ℕ) (i : ℕ) → is_in w.pending path i ≡ false → disk_byte v path i ≡ disk_byte w path i
  pub vars : VarsAfterFirst boot cs w.vars v.vars
  pub runs : RanFirst cs w.runs v.runs
