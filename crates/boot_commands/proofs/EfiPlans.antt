-- EFI: what the commands of a mark leave.
use Rattle.std.proofs.Common.{◌≡◌, ℕ, Bool, true, false, cond, List, [], ◌∷◌, ◌++◌, Some, None, refl, sym, ◌∙◌, ap}
use Rattle.std.specs.Prelude.{is_some, slice_get}
use Rattle.std.specs.FinMap as fin
use Rattle.std.specs.Option.{option_map, option_map_or}
use Rattle.std.specs.Str.{bytes_eq}
use Rattle.std.proofs.lemmas.Bool.{true≢false}
use Rattle.std.proofs.lemmas.Slice.Eq.{bytes_eq-Decides}
use Rattle.boot_model.specs.Vars.{Variables}
use Rattle.boot_model.specs.declared.boot_kind.BootKind.{BootKind}
use Rattle.boot_model.specs.declared.boot_kind.BootKind.TheVariants as boot
use Rattle.boot_state.specs.Efi.{bad_with, good_with, is_good, is_next, is_number, is_number_of, next_name, numbers_of, order_name, primary_with, rest_of, with_order, without_next}
use Rattle.boot_state.specs.Orders.{joined, put, value}
use Rattle.boot_state.proofs.EfiMarks.{first_is, is_number_there}
use Rattle.boot_state.proofs.Values.{OnFirst}
use Rattle.boot_programs.specs.Programs.{program}
use Rattle.boot_commands.specs.Commands.{argv}
use Rattle.boot_commands.specs.Efi.{bad_plan, good_plan, is_order, led_order, plan_with, primary_plan, when, write_order}
use Rattle.boot_commands.specs.Effects.{left_by, vars_after}
use Rattle.boot_commands.specs.Plans.{plan}
use Rattle.boot_commands.specs.declared.command.Command.TheVariants.{RemoveNext, SetOrder}
use Rattle.boot_commands.specs.declared.command.Mark.{Mark}
use Rattle.boot_commands.specs.declared.command.Mark.TheVariants.{Bad, Good, Primary}
use Rattle.boot_commands.proofs.Maps.{insert_there, remove_absent}

-- an order that a number leads is not empty, so it is set as it is
led_set : (first : List ℕ) (rest : List (List ℕ)) (vars : Variables) → is_number first ≡ true → put vars order_name (joined 44 (first ∷ rest)) ≡ fin.insert vars order_name (joined 44 (first ∷ rest))
led_set [] rest vars is = absurd (true≢false (sym is))
led_set (byte ∷ more) [] vars is = refl
led_set (byte ∷ more) (next ∷ rest) vars is = refl

order_there : (vars : Variables) (text : List ℕ) → is_order vars text ≡ true → value vars order_name ≡ Some text
order_there vars text =
    elim (value vars order_name) as (λ o. option_map_or (λ order. bytes_eq order text) o false ≡ true → o ≡ Some text) [
      | None ↦ λ h. absurd (true≢false (sym h))
      | Some order ↦ λ h. ap (λ (t : List ℕ). Some t) ((bytes_eq-Decides order text).0 h)
    ]

module _ (use_next : Bool) where
  abbrev kind : BootKind
  kind = boot.Efi use_next

  order_written : (text : List ℕ) (vars : Variables) → (program kind (argv (write_order text)) vars).vars ≡ put vars order_name text
  order_written [] vars = refl
  order_written (byte ∷ more) vars = refl

  module _ (name : List ℕ) (vars : Variables) where
    bad_does : vars_after kind (bad_plan name vars) vars ≡ cond (is_good vars name) (with_order (rest_of vars name) (without_next name vars)) (without_next name vars)
    bad_does =
        let text = joined 44 (rest_of vars name) in
        elim (is_next vars name) as (λ a. vars_after kind (when a RemoveNext ++ when (is_good vars name) (write_order text)) vars ≡ cond (is_good vars name) (put (cond a (fin.remove vars next_name) vars) order_name text) (cond a (fin.remove vars next_name) vars)) [
          | true ↦ elim (is_good vars name) as (λ b. vars_after kind (when b (write_order text)) (fin.remove vars next_name) ≡ cond b (put (fin.remove vars next_name) order_name text) (fin.remove vars next_name)) [
            | true ↦ order_written text (fin.remove vars next_name)
            | false ↦ refl
          ]
          | false ↦ elim (is_good vars name) as (λ b. vars_after kind (when b (write_order text)) vars ≡ cond b (put vars order_name text) vars) [
            | true ↦ order_written text vars
            | false ↦ refl
          ]
        ]

    module _ (first : List ℕ) (is : is_number first ≡ true) where
      good_does : vars_after kind (good_plan first name vars) vars ≡ with_order (first ∷ rest_of vars name) vars
      good_does =
          let text = led_order first name vars in
          let set = sym (led_set first (rest_of vars name) vars is) in
          elim (is_order vars text) as (λ b. is_order vars text ≡ b → vars_after kind (cond b [] (SetOrder text ∷ [])) vars ≡ put vars order_name text) [
            | true ↦ λ e. sym (insert_there vars order_name text (order_there vars text e)) ∙ set
            | false ↦ λ e. set
          ] refl

      primary_does : vars_after kind (primary_plan false first name vars) vars ≡ with_order (first ∷ rest_of vars name) (fin.remove vars next_name)
      primary_does =
          let text = led_order first name vars in
          let set = sym (led_set first (rest_of vars name) (fin.remove vars next_name) is) in
          elim (value vars next_name) as (λ o. value vars next_name ≡ o → vars_after kind (when (is_some o) RemoveNext ++ SetOrder text ∷ []) vars ≡ put (fin.remove vars next_name) order_name text) [
            | None ↦ λ e. ap (λ (v : Variables). fin.insert v order_name text) (sym (remove_absent vars next_name e)) ∙ set
            | Some number ↦ λ e. set
          ] refl

    is_first : (first : List ℕ) → is_number_of vars name first ≡ true → is_number first ≡ true
    is_first first is = is_number_there vars name first is

    bad_leaves : (numbers : List (List ℕ)) → option_map (λ commands. vars_after kind commands vars) (option_map (plan_with use_next Bad name vars) (slice_get numbers 0)) ≡ bad_with numbers name vars
    bad_leaves [] = refl
    bad_leaves (first ∷ more) = ap (λ (v : Variables). Some v) bad_does

    good_leaves : (numbers : List (List ℕ)) → OnFirst (λ first. is_number_of vars name first ≡ true) numbers → option_map (λ commands. vars_after kind commands vars) (option_map (plan_with use_next Good name vars) (slice_get numbers 0)) ≡ good_with numbers name vars
    good_leaves [] is = refl
    good_leaves (first ∷ more) is = ap (λ (v : Variables). Some v) (good_does first (is_first first is))

primary_leaves : (use_next : Bool) (name : List ℕ) (vars : Variables) (numbers : List (List ℕ)) → OnFirst (λ first. is_number_of vars name first ≡ true) numbers
    → option_map (λ commands. vars_after (boot.Efi use_next) commands vars) (option_map (plan_with use_next Primary name vars) (slice_get numbers 0)) ≡ primary_with use_next numbers name vars
primary_leaves use_next name vars [] is = refl
primary_leaves true name vars (first ∷ more) is = refl
primary_leaves false name vars (first ∷ more) is = ap (λ (v : Variables). Some v) (primary_does false name vars first (is_first false name vars first is))

pub plan_does : (use_next : Bool) (names : List (List ℕ)) (mark : Mark) (name : List ℕ) (vars : Variables) → option_map (λ commands. vars_after (boot.Efi use_next) commands vars) (plan (boot.Efi use_next) names mark name vars) ≡ left_by (boot.Efi use_next) names mark name vars
plan_does use_next names Bad name vars = bad_leaves use_next name vars (numbers_of vars name)
plan_does use_next names Good name vars = good_leaves use_next name vars (numbers_of vars name) (first_is vars name)
plan_does use_next names Primary name vars = primary_leaves use_next name vars (numbers_of vars name) (first_is vars name)
