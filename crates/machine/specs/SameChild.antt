-- Whether two children are the same: program, arguments, variables, and what they must leave alone.
use Rattle.std.specs.Prelude.{◌&&◌, ℕ, Bool, true, false, List, bytes_eq}
use Rattle.std.specs.Bool.{beq}
use Rattle.std.specs.Cmp.Lexicographic.{pointwise}
use Rattle.machine.specs.declared.world.Child.{Child}
use Rattle.machine.specs.declared.world.ChildClass.{ChildClass}
use Rattle.machine.specs.declared.world.ChildClass.TheVariants.{Boot, Helper, Handler, Hook}
use Rattle.machine.specs.declared.world.EnvVar.{EnvVar}
use Rattle.machine.specs.declared.world.Spares.{Spares}

abbrev pub is_class : ChildClass → ChildClass → Bool
is_class Boot Boot = true
is_class Helper Helper = true
is_class Handler Handler = true
is_class Hook Hook = true
is_class class other = false

-- the same texts, in the same order
abbrev pub are_texts : List (List ℕ) → List (List ℕ) → Bool
are_texts = pointwise bytes_eq

abbrev pub is_var : EnvVar → EnvVar → Bool
is_var v other = bytes_eq v.name other.name && bytes_eq v.value other.value

abbrev pub are_spares : Spares → Spares → Bool
are_spares s other = are_texts s.disks other.disks && (are_texts s.files other.files && beq s.boot other.boot)

abbrev pub is_child : Child → Child → Bool
is_child c other =
    is_class c.class other.class
    && (bytes_eq c.program other.program
    && (are_texts c.args other.args && (pointwise is_var c.env other.env && are_spares c.spares other.spares)))
