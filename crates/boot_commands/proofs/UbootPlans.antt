-- U-Boot: what the commands of a mark leave.
use Rattle.std.proofs.Common.{◌≡◌, ℕ, true, false, cond, List, [], ◌∷◌, ◌++◌, map, Option, Some, codes, refl, ◌∙◌}
use Rattle.std.specs.Option.{option_map}
use Rattle.boot_model.specs.Vars.{Variables}
use Rattle.boot_model.specs.declared.boot_kind.BootKind.{BootKind}
use Rattle.boot_model.specs.declared.boot_kind.BootKind.TheVariants as boot
use Rattle.boot_state.specs.Orders.{digit_of, has_word, without_word}
use Rattle.boot_state.specs.Uboot.{left_name, order_name, order_of, with_attempts, with_order}
use Rattle.boot_programs.proofs.Readings.{keeps_fw_printenv}
use Rattle.boot_commands.specs.Effects.{left_by, vars_after}
use Rattle.boot_commands.specs.Plans.{looks, plan, readings}
use Rattle.boot_commands.specs.Uboot.{write_order}
use Rattle.boot_commands.specs.declared.command.Command.TheVariants.{PrintVariable}
use Rattle.boot_commands.specs.declared.command.Mark.{Mark}
use Rattle.boot_commands.specs.declared.command.Mark.TheVariants.{Bad, Good, Primary}
use Rattle.boot_commands.proofs.Along.{Along}

module _ (attempts primary_attempts : ℕ) (names : List (List ℕ)) where
  abbrev kind : BootKind
  kind = boot.Uboot attempts primary_attempts

  pub looks_keep : (mark : Mark) (vars : Variables) → vars_after kind (looks kind names mark) vars ≡ vars
  looks_keep mark vars = keeps_fw_printenv attempts primary_attempts order_name vars

  prints_keep : (xs : List (List ℕ)) (vars v : Variables) → v ≡ vars → Along (λ w. w ≡ vars) kind (map (λ (x : List ℕ). PrintVariable (left_name x)) xs) v
  prints_keep [] vars v same = same
  prints_keep (x ∷ xs) vars v same = (same, prints_keep xs vars _ (keeps_fw_printenv attempts primary_attempts (left_name x) v ∙ same))

  pub readings_keep : (vars : Variables) → Along (λ w. w ≡ vars) kind (readings kind names) vars
  readings_keep vars = (refl, prints_keep names vars _ (keeps_fw_printenv attempts primary_attempts order_name vars))

  module _ (name : List ℕ) (vars : Variables) where
    pub plan_does : (mark : Mark) → option_map (λ commands. vars_after kind commands vars) (plan kind names mark name vars) ≡ left_by kind names mark name vars
    plan_does Bad =
        let w = with_attempts (codes "0") name vars in
        let order = without_word (order_of vars) name in
        elim (has_word (order_of vars) name) as (λ b. ◌≡◌ {A = Option Variables} (Some (vars_after kind (cond b (write_order order ∷ []) []) w)) (Some (cond b (with_order order w) w))) [
          | true ↦ refl
          | false ↦ refl
        ]
    plan_does Good =
        let w = with_attempts (digit_of attempts) name vars in
        let order = order_of vars ++ name ∷ [] in
        elim (has_word (order_of vars) name) as (λ b. ◌≡◌ {A = Option Variables} (Some (vars_after kind (cond b [] (write_order order ∷ [])) w)) (Some (cond b w (with_order order w)))) [
          | true ↦ refl
          | false ↦ refl
        ]
    plan_does Primary = refl
