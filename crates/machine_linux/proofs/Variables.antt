-- Variables that are set in turn.
use Rattle.std.proofs.Common.{◌≡◌, ℕ, true, false, cond, List, [], ◌∷◌, ◌++◌, Option, Some, refl, sym, ◌∙◌, subst}
use Rattle.std.specs.Prelude.{bytes_eq, option_map}
use Rattle.std.specs.Option.{option_or}
use Rattle.std.specs.Process.{command_var, SameOtherVars}
use Rattle.std.specs.declared.process.Command.{Command}
use Rattle.std.proofs.lemmas.Bool.{true≢false}
use Rattle.std.proofs.lemmas.List.{reverse-append}
use Rattle.std.proofs.lemmas.Slice.Eq.{bytes_eq-Decides}
use Rattle.machine.specs.declared.world.EnvVar.{EnvVar}
use Rattle.machine_linux.specs.Started.{last_var}

-- what is value_after of a name after these variables are set, where this was value_after of it before
abbrev pub value_after : List EnvVar → List ℕ → Option (Option (List ℕ)) → Option (Option (List ℕ))
value_after vars name before = option_or (option_map (λ var. Some var.value) (last_var vars name)) before

last_var_more : (vars : List EnvVar) (v : EnvVar) (name : List ℕ) → last_var (vars ++ v ∷ []) name ≡ cond (bytes_eq v.name name) (Some v) (last_var vars name)
last_var_more vars v name = rw (reverse-append vars (v ∷ [])) refl

pub value_more : {A : Type 0} (start old new : Command A) (vars : List EnvVar) (v : EnvVar) (name : List ℕ) → command_var old name ≡ value_after vars name (command_var start name) → command_var new v.name ≡ Some (Some v.value) → SameOtherVars old new v.name → command_var new name ≡ value_after (vars ++ v ∷ []) name (command_var start name)
value_more start old new vars v name before is others =
    rw (last_var_more vars v name)
    (elim (bytes_eq v.name name) as (λ b. bytes_eq v.name name ≡ b → command_var new name ≡ option_or (option_map (λ var. Some var.value) (cond b (Some v) (last_var vars name))) (command_var start name)) [
      | true ↦ λ e. subst (λ (n : List ℕ). command_var new n ≡ Some (Some v.value)) ((bytes_eq-Decides v.name name).0 e) is
      | false ↦ λ e. others name (λ same. true≢false (sym ((bytes_eq-Decides v.name name).1 (sym same)) ∙ e)) ∙ before
    ] refl)
