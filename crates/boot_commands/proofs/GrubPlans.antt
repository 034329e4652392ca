-- GRUB: what the commands of a mark leave.
use Rattle.std.proofs.Common.{◌≡◌, ℕ, false, List, [], ◌∷◌, Some, codes, refl, ap}
use Rattle.std.specs.Option.{option_map}
use Rattle.boot_model.specs.Vars.{Variables}
use Rattle.boot_model.specs.declared.boot_kind.BootKind.TheVariants as boot
use Rattle.boot_state.specs.Grub.{ok_name, order_name, try_name, with_mark}
use Rattle.boot_state.specs.Orders.{joined, others, words_at}
use Rattle.boot_programs.specs.declared.program_end.ProgramEnd.{ProgramEnd}
use Rattle.boot_programs.proofs.Changes.{program-grub_set}
use Rattle.boot_programs.proofs.Readings.{keeps_grub_list}
use Rattle.boot_programs.proofs.Spellings.{has_sign}
use Rattle.boot_commands.specs.Effects.{left_by, vars_after}
use Rattle.boot_commands.specs.Grub.{marks}
use Rattle.boot_commands.specs.Plans.{looks, plan, readings}
use Rattle.boot_commands.specs.declared.command.Command.TheVariants.{SetVariables}
use Rattle.boot_commands.specs.declared.command.Mark.{Mark}
use Rattle.boot_commands.specs.declared.command.Mark.TheVariants.{Bad, Good, Primary}
use Rattle.boot_commands.proofs.Names.{unsigned_front}

module _ (file : List ℕ) (names : List (List ℕ)) where
  pub readings_keep : (vars : Variables) → vars_after (boot.Grub file) (readings (boot.Grub file) names) vars ≡ vars
  readings_keep vars = keeps_grub_list file file vars

  pub looks_keep : (mark : Mark) (vars : Variables) → vars_after (boot.Grub file) (looks (boot.Grub file) names mark) vars ≡ vars
  looks_keep Bad vars = refl
  looks_keep Good vars = refl
  looks_keep Primary vars = readings_keep vars

  module _ (name : List ℕ) (vars : Variables) (unsigned : has_sign name ≡ false) where
    both_set : (works : List ℕ) → vars_after (boot.Grub file) (SetVariables file (marks works name) ∷ []) vars ≡ with_mark works name vars
    both_set works =
        ap (λ (e : ProgramEnd). e.vars)
        (program-grub_set file (ok_name name, works) ((try_name name, codes "0") ∷ []) vars (unsigned_front name (codes "_OK") unsigned refl, (unsigned_front name (codes "_TRY") unsigned refl, tt)))

    pub plan_does : (mark : Mark) → option_map (λ commands. vars_after (boot.Grub file) commands vars) (plan (boot.Grub file) names mark name vars) ≡ left_by (boot.Grub file) names mark name vars
    plan_does Bad = ap (λ (v : Variables). Some v) (both_set (codes "0"))
    plan_does Good = ap (λ (v : Variables). Some v) (both_set (codes "1"))
    plan_does Primary =
        ap (λ (e : ProgramEnd). Some e.vars)
        (program-grub_set file (ok_name name, codes "1") ((try_name name, codes "0") ∷ (order_name, joined 32 (name ∷ others names name (words_at vars order_name))) ∷ []) vars
        (unsigned_front name (codes "_OK") unsigned refl, (unsigned_front name (codes "_TRY") unsigned refl, (refl, tt))))
