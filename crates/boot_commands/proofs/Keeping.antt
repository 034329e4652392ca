-- While one name is marked, the commands keep of another name what it is: down stays down, and good stays good.
use Rattle.std.proofs.Common.{◌≡◌, ◌≢◌, ℕ, Bool, true, false, cond, List, [], ◌∷◌, ◌++◌, Option, Some, None, codes, refl, sym, ◌∙◌, ap}
use Rattle.std.specs.Prelude.{is_some, unwrap_or}
use Rattle.std.specs.FinMap as fin
use Rattle.std.specs.List.{list_all}
use Rattle.std.specs.Option.{option_map}
use Rattle.boot_model.specs.Vars.{Variables}
use Rattle.boot_model.specs.declared.boot_kind.BootKind.{BootKind}
use Rattle.boot_model.specs.declared.boot_kind.BootKind.TheVariants as boot
use Rattle.boot_state.specs.Efi.{is_good, is_next, next_name, rest_of}
use Rattle.boot_state.specs.Orders.{digit_of, has_word, joined, value, without_word}
use Rattle.boot_state.specs.States.{KeepsName}
use Rattle.boot_state.specs.Uboot.{left_name, order_of, with_attempts}
use Rattle.boot_state.proofs.EfiMarks.{no_next_keeps}
use Rattle.boot_state.proofs.Marks.{bad_keeps, good_keeps, primary_keeps}
use Rattle.boot_state.proofs.UbootMarks.{attempts_keep}
use Rattle.boot_programs.specs.Programs.{program}
use Rattle.boot_commands.specs.Efi.{first_number, is_order, led_order, plan_with, when, write_order}
use Rattle.boot_commands.specs.Effects.{commands_of, is_name, left_by, vars_after}
use Rattle.boot_commands.specs.Plans.{looks, plan}
use Rattle.boot_commands.specs.Uboot as uboot
use Rattle.boot_commands.specs.declared.command.Command.{Command}
use Rattle.boot_commands.specs.declared.command.Command.TheVariants.{RemoveNext, SetOrder, StoreVariable}
use Rattle.boot_commands.specs.declared.command.Mark.{Mark}
use Rattle.boot_commands.specs.declared.command.Mark.TheVariants.{Bad, Good, Primary}
use Rattle.boot_commands.proofs.Along.{Along, AtMostOne, Between, after_part, behind_looks, by_ends}
use Rattle.boot_commands.proofs.Marks.{looks_keep, plan_does}
use Rattle.boot_commands.proofs.Names.{name_word, names_words}

-- ---- what is read

few_looks : (P : Variables → Type 0) (kind : BootKind) (names : List (List ℕ)) (mark : Mark) → AtMostOne P kind (looks kind names mark)
few_looks P (boot.Grub file) names Bad = tt
few_looks P (boot.Grub file) names Good = tt
few_looks P (boot.Grub file) names Primary = tt
few_looks P (boot.Uboot attempts primary_attempts) names mark = tt
few_looks P (boot.Barebox state attempts primary_attempts) names Bad = tt
few_looks P (boot.Barebox state attempts primary_attempts) [] Good = tt
few_looks P (boot.Barebox state attempts primary_attempts) (name ∷ names) Good = tt
few_looks P (boot.Barebox state attempts primary_attempts) [] Primary = tt
few_looks P (boot.Barebox state attempts primary_attempts) (name ∷ names) Primary = tt
few_looks P (boot.Efi use_next) names mark = tt
few_looks P (boot.Custom program) names mark = tt
few_looks P boot.Noop names mark = tt

-- ---- what is written

module _ (names : List (List ℕ)) (name other : List ℕ) (vars : Variables) (ne : other ≢ name) where
  module _ (attempts primary_attempts : ℕ) where
    left_between : (text : List ℕ) → KeepsName (boot.Uboot attempts primary_attempts) names other vars (with_attempts text name vars)
    left_between text =
        let parts = attempts_keep text name other vars ne in
        record {
          stays_down = parts.0;
          stays_good = parts.1;
        }

    uboot_between : (mark : Mark) → Between (KeepsName (boot.Uboot attempts primary_attempts) names other vars) (boot.Uboot attempts primary_attempts) (uboot.plan attempts primary_attempts names mark name vars) vars
    uboot_between Bad =
        let order = order_of vars in
        elim (has_word order name) as (λ b. Between (KeepsName (boot.Uboot attempts primary_attempts) names other vars) (boot.Uboot attempts primary_attempts) (StoreVariable (left_name name) (codes "0") ∷ cond b (uboot.write_order (without_word order name) ∷ []) []) vars) [
          | true ↦ left_between (codes "0")
          | false ↦ tt
        ]
    uboot_between Good =
        let order = order_of vars in
        elim (has_word order name) as (λ b. Between (KeepsName (boot.Uboot attempts primary_attempts) names other vars) (boot.Uboot attempts primary_attempts) (StoreVariable (left_name name) (digit_of attempts) ∷ cond b [] (uboot.write_order (order ++ name ∷ []) ∷ [])) vars) [
          | true ↦ tt
          | false ↦ left_between (digit_of attempts)
        ]
    uboot_between Primary = left_between (digit_of primary_attempts)

  module _ (use_next : Bool) where
    no_next_between : KeepsName (boot.Efi use_next) names other vars (fin.remove vars next_name)
    no_next_between =
        let parts = no_next_keeps other vars in
        record {
          stays_down = parts.0;
          stays_good = parts.1;
        }

    when_between : (a b : Bool) (command : Command) → Between (KeepsName (boot.Efi use_next) names other vars) (boot.Efi use_next) (when a RemoveNext ++ when b command) vars
    when_between true true command = no_next_between
    when_between true false command = tt
    when_between false true command = tt
    when_between false false command = tt

    good_between : (b : Bool) (text : List ℕ) → Between (KeepsName (boot.Efi use_next) names other vars) (boot.Efi use_next) (cond b [] (SetOrder text ∷ [])) vars
    good_between true text = tt
    good_between false text = tt

  efi_between : (use_next : Bool) (mark : Mark) (number : Option (List ℕ)) → Between (KeepsName (boot.Efi use_next) names other vars) (boot.Efi use_next) (unwrap_or (option_map (plan_with use_next mark name vars) number) []) vars
  efi_between use_next mark None = tt
  efi_between use_next Bad (Some first) = when_between use_next (is_next vars name) (is_good vars name) (write_order (joined 44 (rest_of vars name)))
  efi_between use_next Good (Some first) = good_between use_next (is_order vars (led_order first name vars)) (led_order first name vars)
  efi_between true Primary (Some first) = tt
  efi_between false Primary (Some first) = when_between false (is_some (value vars next_name)) true (SetOrder (led_order first name vars))

  plan_between : (kind : BootKind) (mark : Mark) → Between (KeepsName kind names other vars) kind (unwrap_or (plan kind names mark name vars) []) vars
  plan_between (boot.Grub file) mark = tt
  plan_between (boot.Uboot attempts primary_attempts) mark = uboot_between attempts primary_attempts mark
  plan_between (boot.Barebox state attempts primary_attempts) mark = tt
  plan_between (boot.Efi use_next) mark = efi_between use_next mark (first_number vars name)
  plan_between (boot.Custom program) mark = tt
  plan_between boot.Noop mark = tt

  module _ (kind : BootKind) (is : is_name name ≡ true) (are : list_all is_name names ≡ true) where
    -- the whole mark
    mark_keeps : (mark : Mark) (after : Variables) → left_by kind names mark name vars ≡ Some after → KeepsName kind names other vars after
    mark_keeps Bad after h = bad_keeps names name other vars after ne kind h
    mark_keeps Good after h = good_keeps names name other vars after ne kind (name_word name is) h
    mark_keeps Primary after h = primary_keeps names name other vars after ne kind (name_word name is) (names_words names are) h

    plan_keeps : (mark : Mark) (commands : Option (List Command)) → plan kind names mark name vars ≡ commands
        → Between (KeepsName kind names other vars) kind (unwrap_or commands []) vars → Along (KeepsName kind names other vars) kind (unwrap_or commands []) vars
    plan_keeps mark None e between = record {
      stays_down = λ h. h;
      stays_good = λ h. h;
    }
    plan_keeps mark (Some commands) e between =
        by_ends (KeepsName kind names other vars) kind commands vars between (record {
          stays_down = λ h. h;
          stays_good = λ h. h;
        })
        (mark_keeps mark (vars_after kind commands vars)
        (sym (plan_does kind names mark name vars is are) ∙ ap (option_map (λ (cs : List Command). vars_after kind cs vars)) e))

    -- after each first part of the commands
    pub commands_keep : (mark : Mark) (done left : List Command) → commands_of kind names mark name vars ≡ done ++ left → KeepsName kind names other vars (vars_after kind done vars)
    commands_keep mark done left e =
        after_part (KeepsName kind names other vars) kind done left (commands_of kind names mark name vars) vars e
        (behind_looks (KeepsName kind names other vars) kind (looks kind names mark) (unwrap_or (plan kind names mark name vars) []) vars (few_looks (KeepsName kind names other vars) kind names mark) (looks_keep kind names mark vars)
        (plan_keeps mark (plan kind names mark name vars) refl (plan_between kind mark)))
