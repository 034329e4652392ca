-- What starts a child.
use Rattle.std.specs.Prelude.{ℕ, List, reverse, Option, find, bytes_eq}
use Rattle.machine.specs.declared.world.EnvVar.{EnvVar}

-- the last of the variables that has the name, where one has it
abbrev pub last_var : List EnvVar → List ℕ → Option EnvVar
last_var vars name = find (λ v. bytes_eq v.name name) (reverse vars)
