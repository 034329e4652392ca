-- barebox: what the commands of a mark leave.
use Rattle.std.proofs.Common.{◌≡◌, ℕ, true, false, cond, eqb, List, [], ◌∷◌, ◌++◌, map, Option, Some, None, codes, refl, sym, ◌∙◌, ap, subst}
use Rattle.std.specs.Prelude.{fold, nat_lt}
use Rattle.std.specs.List.{list_all}
use Rattle.std.specs.Option.{option_map}
use Rattle.std.specs.Str.{bytes_eq}
use Rattle.std.proofs.lemmas.Bool.{and_parts}
use Rattle.std.proofs.lemmas.List.{map-append}
use Rattle.boot_model.specs.Vars.{Variables}
use Rattle.boot_model.specs.declared.boot_kind.BootKind.{BootKind}
use Rattle.boot_model.specs.declared.boot_kind.BootKind.TheVariants as boot
use Rattle.boot_state.specs.Barebox.{attempts_name, marked_good, priority_name, priority_of, ranked, with_both}
use Rattle.boot_state.specs.Orders.{digit_of}
use Rattle.std.specs.FinMap as fin
use Rattle.boot_programs.specs.declared.program_end.ProgramEnd.{ProgramEnd}
use Rattle.boot_programs.specs.Programs.{program}
use Rattle.boot_programs.specs.Settings.{spelled}
use Rattle.boot_programs.proofs.Changes.{program-barebox_set, program-barebox_set_of, set_words}
use Rattle.boot_programs.proofs.Readings.{keeps_barebox_get, keeps_barebox_get_of}
use Rattle.boot_programs.proofs.Spellings.{AreNamed, Pairs, has_sign, with_pairs}
use Rattle.boot_commands.specs.Barebox.{attempts_setting, bad_settings, good_settings, priority_setting, rank, ranks, variables_of}
use Rattle.boot_commands.specs.Commands.{argv, behind_each, spellings}
use Rattle.boot_commands.specs.Effects.{is_name, left_by, vars_after}
use Rattle.boot_commands.specs.Plans.{looks, plan, readings}
use Rattle.boot_commands.specs.declared.command.Command.TheVariants.{PrintState, StoreState}
use Rattle.boot_commands.specs.declared.command.Mark.{Mark}
use Rattle.boot_commands.specs.declared.command.Mark.TheVariants.{Bad, Good, Primary}
use Rattle.boot_commands.specs.declared.command.Setting.{Setting}
use Rattle.boot_commands.proofs.Names.{name_unsigned, unsigned_front}

-- ---- settings, as names and values

abbrev pairs_of : List Setting → Pairs
pairs_of settings = map (λ (s : Setting). (s.name, s.value)) settings

set_words-pairs_of : (settings : List Setting) → behind_each (codes "-s") (spellings settings) ≡ set_words (pairs_of settings)
set_words-pairs_of [] = refl
set_words-pairs_of (s ∷ settings) = ap (λ (words : List (List ℕ)). codes "-s" ∷ spelled s.name s.value ∷ words) (set_words-pairs_of settings)

with_pairs-append : (xs ys : Pairs) (vars : Variables) → with_pairs vars (xs ++ ys) ≡ with_pairs (with_pairs vars xs) ys
with_pairs-append [] ys vars = refl
with_pairs-append (x ∷ xs) ys vars = with_pairs-append xs ys (fin.insert vars x.0 x.1)

named-append : (xs ys : Pairs) → AreNamed xs → AreNamed ys → AreNamed (xs ++ ys)
named-append [] ys one other = other
named-append (x ∷ xs) ys one other = (one.0, named-append xs ys one.1 other)

pairs_of-append : (xs ys : List Setting) → pairs_of (xs ++ ys) ≡ pairs_of xs ++ pairs_of ys
pairs_of-append xs ys = map-append (λ (s : Setting). (s.name, s.value)) xs ys

module _ (state : Option (List ℕ)) (attempts primary_attempts : ℕ) where
  abbrev kind : BootKind
  kind = boot.Barebox state attempts primary_attempts

  -- the command that sets sets all
  store_does : (settings : List Setting) (vars : Variables) → AreNamed (pairs_of settings) → (program kind (argv (StoreState state settings)) vars).vars ≡ with_pairs vars (pairs_of settings)
  store_does [] vars named = elim state as (λ s. (program kind (argv (StoreState s [])) vars).vars ≡ vars) [ None ↦ refl | Some of ↦ refl ]
  store_does (s ∷ settings) vars named =
      elim state as (λ of. (program kind (argv (StoreState of (s ∷ settings))) vars).vars ≡ with_pairs vars (pairs_of (s ∷ settings))) [
        | None ↦
            ap (λ (words : List (List ℕ)). (program kind (codes "barebox-state" ∷ words) vars).vars) (set_words-pairs_of (s ∷ settings))
            ∙ ap (λ (e : ProgramEnd). e.vars) (program-barebox_set state attempts primary_attempts (s.name, s.value) (pairs_of settings) vars named)
        | Some of ↦
            ap (λ (words : List (List ℕ)). (program kind (codes "barebox-state" ∷ codes "-n" ∷ of ∷ words) vars).vars) (set_words-pairs_of (s ∷ settings))
            ∙ ap (λ (e : ProgramEnd). e.vars) (program-barebox_set_of state attempts primary_attempts (s.name, s.value) (pairs_of settings) vars named of)
      ]

  pub readings_keep : (names : List (List ℕ)) (vars : Variables) → vars_after kind (readings kind names) vars ≡ vars
  readings_keep [] vars = refl
  readings_keep (name ∷ names) vars =
      let words = priority_name name ∷ codes "-g" ∷ attempts_name name ∷ behind_each (codes "-g") (variables_of names) in
      elim state as (λ of. (program kind (argv (PrintState of (variables_of (name ∷ names)))) vars).vars ≡ vars) [
        | None ↦ keeps_barebox_get state attempts primary_attempts words vars
        | Some of ↦ keeps_barebox_get_of state attempts primary_attempts of words vars
      ]

  pub looks_keep : (names : List (List ℕ)) (mark : Mark) (vars : Variables) → vars_after kind (looks kind names mark) vars ≡ vars
  looks_keep names Bad vars = refl
  looks_keep names Good vars = readings_keep names vars
  looks_keep names Primary vars = readings_keep names vars

  -- ---- names of variables

  priority_unsigned : (name : List ℕ) → has_sign name ≡ false → has_sign (priority_name name) ≡ false
  priority_unsigned name unsigned = unsigned_front name (codes ".priority") unsigned refl

  attempts_unsigned : (name : List ℕ) → has_sign name ≡ false → has_sign (attempts_name name) ≡ false
  attempts_unsigned name unsigned = unsigned_front name (codes ".remaining_attempts") unsigned refl

  -- ---- the names in their order

  module _ (name : List ℕ) (before : Variables) (unsigned : has_sign name ≡ false) where
    rank_named : (other : List ℕ) → has_sign other ≡ false → AreNamed (pairs_of (rank (digit_of primary_attempts) name before other))
    rank_named other also =
        elim (bytes_eq other name) as (λ b. AreNamed (pairs_of (cond b (priority_setting (codes "20") name ∷ attempts_setting (digit_of primary_attempts) name ∷ []) (cond (nat_lt 0 (priority_of before other)) (priority_setting (codes "10") other ∷ []) [])))) [
          | true ↦ (priority_unsigned name unsigned, (attempts_unsigned name unsigned, tt))
          | false ↦ elim (nat_lt 0 (priority_of before other)) as (λ b. AreNamed (pairs_of (cond b (priority_setting (codes "10") other ∷ []) []))) [ true ↦ (priority_unsigned other also, tt) | false ↦ tt ]
        ]

    ranks_named : (names : List (List ℕ)) → list_all is_name names ≡ true → AreNamed (pairs_of (ranks primary_attempts names name before))
    ranks_named [] are = tt
    ranks_named (x ∷ xs) are =
        let parts = and_parts (is_name x) (list_all is_name xs) are in
        subst AreNamed (sym (pairs_of-append (rank (digit_of primary_attempts) name before x) (ranks primary_attempts xs name before)))
        (named-append (pairs_of (rank (digit_of primary_attempts) name before x)) (pairs_of (ranks primary_attempts xs name before)) (rank_named x (name_unsigned x parts.0)) (ranks_named xs parts.1))

    rank_does : (other : List ℕ) (vars : Variables) → with_pairs vars (pairs_of (rank (digit_of primary_attempts) name before other)) ≡ ranked primary_attempts name before vars other
    rank_does other vars =
        elim (bytes_eq other name) as (λ b. with_pairs vars (pairs_of (cond b (priority_setting (codes "20") name ∷ attempts_setting (digit_of primary_attempts) name ∷ []) (cond (nat_lt 0 (priority_of before other)) (priority_setting (codes "10") other ∷ []) []))) ≡ cond b (with_both (codes "20") (digit_of primary_attempts) name vars) (cond (nat_lt 0 (priority_of before other)) (fin.insert vars (priority_name other) (codes "10")) vars)) [
          | true ↦ refl
          | false ↦ elim (nat_lt 0 (priority_of before other)) as (λ b. with_pairs vars (pairs_of (cond b (priority_setting (codes "10") other ∷ []) [])) ≡ cond b (fin.insert vars (priority_name other) (codes "10")) vars) [ true ↦ refl | false ↦ refl ]
        ]

    ranks_do : (names : List (List ℕ)) (vars : Variables) → with_pairs vars (pairs_of (ranks primary_attempts names name before)) ≡ fold (ranked primary_attempts name before) vars names
    ranks_do [] vars = refl
    ranks_do (x ∷ xs) vars =
        ap (with_pairs vars) (pairs_of-append (rank (digit_of primary_attempts) name before x) (ranks primary_attempts xs name before))
        ∙ with_pairs-append (pairs_of (rank (digit_of primary_attempts) name before x)) (pairs_of (ranks primary_attempts xs name before)) vars
        ∙ ap (λ (v : Variables). with_pairs v (pairs_of (ranks primary_attempts xs name before))) (rank_does x vars)
        ∙ ranks_do xs (ranked primary_attempts name before vars x)

  -- ---- what a mark leaves

  module _ (names : List (List ℕ)) (name : List ℕ) (vars : Variables) (unsigned : has_sign name ≡ false) (are : list_all is_name names ≡ true) where
    good_does : vars_after kind (StoreState state (good_settings attempts name vars) ∷ []) vars ≡ marked_good attempts name vars
    good_does =
        let w = fin.insert vars (attempts_name name) (digit_of attempts) in
        elim (eqb (priority_of vars name) 0) as (λ b. (program kind (argv (StoreState state (attempts_setting (digit_of attempts) name ∷ cond b (priority_setting (codes "10") name ∷ []) []))) vars).vars ≡ cond b (fin.insert w (priority_name name) (codes "10")) w) [
          | true ↦ store_does (attempts_setting (digit_of attempts) name ∷ priority_setting (codes "10") name ∷ []) vars (attempts_unsigned name unsigned, (priority_unsigned name unsigned, tt))
          | false ↦ store_does (attempts_setting (digit_of attempts) name ∷ []) vars (attempts_unsigned name unsigned, tt)
        ]

    pub plan_does : (mark : Mark) → option_map (λ commands. vars_after kind commands vars) (plan kind names mark name vars) ≡ left_by kind names mark name vars
    plan_does Bad = ap (λ (v : Variables). Some v) (store_does (bad_settings name) vars (priority_unsigned name unsigned, (attempts_unsigned name unsigned, tt)))
    plan_does Good = ap (λ (v : Variables). Some v) good_does
    plan_does Primary = ap (λ (v : Variables). Some v) (store_does (ranks primary_attempts names name vars) vars (ranks_named name vars unsigned names are) ∙ ranks_do name vars unsigned names vars)
