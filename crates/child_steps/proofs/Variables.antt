-- Variables of what is not there.
use Rattle.std.proofs.Common.{◌≡◌, List, [], ◌++◌, Option, None, ◌∙◌, sym, ap}
use Rattle.std.proofs.lemmas.List.{append-nil}
use Rattle.std.specs.Option.{option_map_or}
use Rattle.machine.specs.declared.world.EnvVar.{EnvVar}

pub nothing : {A : Type 0} (vars : A → List EnvVar) (there : Option A) (env : List EnvVar) → there ≡ None → env ≡ env ++ option_map_or vars there []
nothing vars there env none = sym (append-nil env) ∙ ap (λ o. env ++ option_map_or vars o []) (sym none)
