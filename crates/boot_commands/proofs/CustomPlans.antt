-- A program of the system's own: what the commands of a mark leave.
use Rattle.std.proofs.Common.{◌≡◌, ℕ, List, [], ◌∷◌, map, Some, codes, refl, ◌∙◌, ap}
use Rattle.std.specs.Option.{option_map}
use Rattle.boot_model.specs.Vars.{Variables}
use Rattle.boot_model.specs.declared.boot_kind.BootKind.TheVariants as boot
use Rattle.boot_programs.specs.declared.program_end.ProgramEnd.{ProgramEnd}
use Rattle.boot_programs.proofs.Changes.{program-set_primary, program-set_state}
use Rattle.boot_programs.proofs.Readings.{keeps_get_primary, keeps_get_state}
use Rattle.boot_commands.specs.Effects.{left_by, vars_after}
use Rattle.boot_commands.specs.Plans.{plan, readings}
use Rattle.boot_commands.specs.declared.command.Command.TheVariants.{GetState}
use Rattle.boot_commands.specs.declared.command.Mark.{Mark}
use Rattle.boot_commands.specs.declared.command.Mark.TheVariants.{Bad, Good, Primary}
use Rattle.boot_commands.proofs.Along.{Along}

module _ (path : List ℕ) (names : List (List ℕ)) where
  states_keep : (xs : List (List ℕ)) (vars v : Variables) → v ≡ vars → Along (λ w. w ≡ vars) (boot.Custom path) (map (λ (x : List ℕ). GetState path x) xs) v
  states_keep [] vars v same = same
  states_keep (x ∷ xs) vars v same = (same, states_keep xs vars _ (keeps_get_state path path x v ∙ same))

  pub readings_keep : (vars : Variables) → Along (λ w. w ≡ vars) (boot.Custom path) (readings (boot.Custom path) names) vars
  readings_keep vars = (refl, states_keep names vars _ (keeps_get_primary path path vars))

  pub plan_does : (mark : Mark) (name : List ℕ) (vars : Variables) → option_map (λ commands. vars_after (boot.Custom path) commands vars) (plan (boot.Custom path) names mark name vars) ≡ left_by (boot.Custom path) names mark name vars
  plan_does Bad name vars = ap (λ (e : ProgramEnd). Some e.vars) (program-set_state path name (codes "bad") vars)
  plan_does Good name vars = ap (λ (e : ProgramEnd). Some e.vars) (program-set_state path name (codes "good") vars)
  plan_does Primary name vars = ap (λ (e : ProgramEnd). Some e.vars) (program-set_primary path name vars)
