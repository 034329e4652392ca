-- What a program of the system's own prints reads back.
use Rattle.std.proofs.Common.{◌≡◌, ◌≢◌, ⊎_elim, ℕ, Bool, true, false, cond, not, ◌&&◌, ◌||◌, List, [], ◌∷◌, ◌++◌, map, Option, Some, None, codes, refl, sym, ◌∙◌, ap, subst, bytes_eq, slice_get}
use Rattle.std.specs.Prelude.{option_and_then, unwrap_or}
use Rattle.std.specs.FinMap as fin
use Rattle.std.specs.Option.{option_map_or}
use Rattle.std.proofs.lemmas.Bool.{and_parts, or_cases, true≢false}
use Rattle.std.proofs.lemmas.List.{append_cancel_left}
use Rattle.std.proofs.lemmas.Option.{cond_some, same_Some}
use Rattle.std.proofs.lemmas.Slice.Eq.{bytes_eq-Decides}
use Rattle.boot_model.specs.Vars.{Variables}
use Rattle.boot_model.specs.declared.boot_kind.BootKind.TheVariants.{Custom}
use Rattle.boot_state.specs.Custom as custom
use Rattle.boot_state.specs.Custom.{is_down, primary_name, state_name, with_state}
use Rattle.boot_state.specs.Orders.{has_word, value}
use Rattle.boot_state.proofs.Values.{numbers_differ, value-insert_other, value-insert_same}
use Rattle.boot_programs.specs.Custom.{primary_text, state_text}
use Rattle.boot_programs.specs.Programs.{program}
use Rattle.boot_programs.specs.declared.program_end.ProgramEnd.{ProgramEnd}
use Rattle.boot_programs.proofs.Readings.{keeps_get_primary, keeps_get_state, program-get_primary, program-get_state}
use Rattle.boot_commands.specs.Commands.{argv}
use Rattle.boot_commands.specs.Custom.{readings}
use Rattle.boot_commands.specs.declared.command.Command.TheVariants.{GetPrimary, GetState}
use Rattle.boot_outputs.specs.Custom.{primary_told, state_told}
use Rattle.boot_outputs.specs.Plain.{ArePlain, is_plain, lacks}
use Rattle.boot_outputs.specs.Saw.{Saw}
use Rattle.boot_outputs.proofs.Gathered.{value_passes}
use Rattle.boot_outputs.proofs.PrintedLines.{first_line-line}

value_line : (vars : Variables) (name text : List ℕ) → ArePlain vars → value vars name ≡ Some text → lacks 10 text ≡ true
value_line vars name text plain e = (and_parts (lacks 61 name && lacks 10 name) (lacks 10 text) (value_passes is_plain vars name text plain.each e)).1

primary_line : (vars : Variables) → ArePlain vars → lacks 10 (primary_text vars) ≡ true
primary_line vars plain = by_value (value vars primary_name) refl
  where
    by_value : (o : Option (List ℕ)) → value vars primary_name ≡ o → lacks 10 (option_map_or (λ name. cond (is_down vars name) [] name) o []) ≡ true
    by_value None e = refl
    by_value (Some name) e = elim (is_down vars name) as (λ b. lacks 10 (cond b [] name) ≡ true) [ true ↦ refl | false ↦ value_line vars primary_name name plain e ]

state_line : (vars : Variables) (name : List ℕ) → ArePlain vars → lacks 10 (state_text vars name) ≡ true
state_line vars name plain = by_value (value vars (state_name name)) refl
  where
    by_value : (o : Option (List ℕ)) → value vars (state_name name) ≡ o → lacks 10 (unwrap_or o (codes "good")) ≡ true
    by_value None e = refl
    by_value (Some text) e = value_line vars (state_name name) text plain e

-- the primary name is read, and nothing where none is set or its state is bad
pub primary_back : (path : List ℕ) (vars read : Variables) → ArePlain vars → primary_told (program (Custom path) (argv (GetPrimary path)) vars).out read ≡ Some (fin.insert read primary_name (primary_text vars))
primary_back path vars read plain =
    ap (λ (e : ProgramEnd). primary_told e.out read) (program-get_primary path vars)
    ∙ ap (λ (t : List ℕ). Some (fin.insert read primary_name t)) (first_line-line (primary_text vars) [] (primary_line vars plain))

-- the state of a name is read, where it is one
pub state_back : (path name : List ℕ) (vars read more : Variables) → ArePlain vars → state_told name (program (Custom path) (argv (GetState path name)) vars).out read ≡ Some more
    → more ≡ with_state (state_text vars name) name read
state_back path name vars read more plain told =
    let line = first_line-line (state_text vars name) [] (state_line vars name plain) in
    let shown : state_told name (state_text vars name ++ 10 ∷ []) read ≡ Some more = sym (ap (λ (e : ProgramEnd). state_told name e.out read) (program-get_state path name vars)) ∙ told in
    let at : cond (bytes_eq (state_text vars name) (codes "good") || bytes_eq (state_text vars name) (codes "bad")) (Some (with_state (state_text vars name) name read)) None ≡ Some more =
    sym (ap (λ (t : List ℕ). cond (bytes_eq t (codes "good") || bytes_eq t (codes "bad")) (Some (with_state t name read)) None) line) ∙ shown in
    sym (cond_some _ _ _ at).1

-- ---- what they tell of the names

state_not_primary : (name : List ℕ) → primary_name ≢ state_name name
state_not_primary name e = numbers_differ 112 115 refl (ap (λ (text : List ℕ). unwrap_or (slice_get text 0) 0) e)

-- after the states of these names were read
pub record AfterStates (names : List (List ℕ)) (vars read last : Variables) : Type 0 where
  pub states : (name : List ℕ) → has_word names name ≡ true → value last (state_name name) ≡ Some (state_text vars name)
  pub kept : (name : List ℕ) → value read (state_name name) ≡ Some (state_text vars name) → value last (state_name name) ≡ Some (state_text vars name)
  pub primary : value last primary_name ≡ value read primary_name

state_read : (vars read : Variables) (name : List ℕ) → value (with_state (state_text vars name) name read) (state_name name) ≡ Some (state_text vars name)
state_read vars read name = value-insert_same read (state_name name) (state_text vars name)

state_stays : (vars read : Variables) (name other : List ℕ) → value read (state_name other) ≡ Some (state_text vars other) → value (with_state (state_text vars name) name read) (state_name other) ≡ Some (state_text vars other)
state_stays vars read name other is =
    elim (bytes_eq name other) as (λ b. bytes_eq name other ≡ b → value (with_state (state_text vars name) name read) (state_name other) ≡ Some (state_text vars other)) [
      | true ↦ λ e. subst (λ (n : List ℕ). value (with_state (state_text vars name) name read) (state_name n) ≡ Some (state_text vars n)) ((bytes_eq-Decides name other).0 e) (state_read vars read name)
      | false ↦ λ e. value-insert_other read (state_name name) (state_text vars name) (state_name other)
          (λ same. true≢false (sym ((bytes_eq-Decides name other).1 (sym (append_cancel_left (codes "state.") other name same))) ∙ e)) ∙ is
    ] refl

pub after_states : (path : List ℕ) (names : List (List ℕ)) (vars read last : Variables) → Saw (Custom path) (map (λ name. GetState path name) names) vars read last → AfterStates names vars read last
after_states path [] vars read last saw = record {
  states = λ name has. absurd (true≢false (sym has));
  kept = λ name is. ap (λ (v : Variables). value v (state_name name)) saw ∙ is;
  primary = ap (λ (v : Variables). value v primary_name) saw;
}
after_states path (first ∷ names) vars read last saw =
    let is : saw.0 ≡ with_state (state_text vars first) first read = ⊎_elim (λ shown. state_back path first vars read saw.0 saw.1.0 shown) (λ unset. absurd unset.0) saw.1.1 in
    let rest = subst (λ (v : Variables). Saw (Custom path) (map (λ name. GetState path name) names) v saw.0 last) (keeps_get_state path path first vars) saw.1.2 in
    let more = after_states path names vars saw.0 last rest in
    record {
      states = λ name has. ⊎_elim
          (λ same. subst (λ (n : List ℕ). value last (state_name n) ≡ Some (state_text vars n)) ((bytes_eq-Decides first name).0 same)
          (more.kept first (ap (λ (v : Variables). value v (state_name first)) is ∙ state_read vars read first)))
          (λ later. more.states name later)
          (or_cases (bytes_eq first name) (has_word names name) has);
      kept = λ name was. more.kept name (ap (λ (v : Variables). value v (state_name name)) is ∙ state_stays vars read first name was);
      primary = more.primary ∙ ap (λ (v : Variables). value v primary_name) is ∙ value-insert_other read (state_name first) (state_text vars first) primary_name (state_not_primary first);
    }

-- after the primary name too
pub record AfterReadings (names : List (List ℕ)) (vars last : Variables) : Type 0 where
  pub states : (name : List ℕ) → has_word names name ≡ true → value last (state_name name) ≡ Some (state_text vars name)
  pub primary : value last primary_name ≡ Some (primary_text vars)

pub custom_saw : (path : List ℕ) (names : List (List ℕ)) (vars last : Variables) → Saw (Custom path) (readings path names) vars fin.empty last → AfterReadings names vars last
custom_saw path names vars last saw =
    let is : saw.0 ≡ fin.insert fin.empty primary_name (primary_text vars) = ⊎_elim (λ shown. same_Some saw.0 _ (sym shown ∙ primary_back path vars fin.empty saw.1.0)) (λ unset. absurd unset.0) saw.1.1 in
    let rest = subst (λ (v : Variables). Saw (Custom path) (map (λ name. GetState path name) names) v saw.0 last) (keeps_get_primary path path vars) saw.1.2 in
    let more = after_states path names vars saw.0 last rest in
    record {
      states = more.states;
      primary = more.primary ∙ ap (λ (v : Variables). value v primary_name) is ∙ value-insert_same fin.empty primary_name (primary_text vars);
    }

abbrev name_if : Bool → List ℕ → Option (List ℕ)
name_if is name = cond is (Some name) None

module _ (names : List (List ℕ)) (vars last : Variables) (after : AfterReadings names vars last) where
  down_alike : (name : List ℕ) → has_word names name ≡ true → is_down last name ≡ is_down vars name
  down_alike name has =
      ap (λ (o : Option (List ℕ)). option_map_or (λ state. bytes_eq state (codes "bad")) o false) (after.states name has)
      ∙ elim (value vars (state_name name)) as (λ o. bytes_eq (unwrap_or o (codes "good")) (codes "bad") ≡ option_map_or (λ state. bytes_eq state (codes "bad")) o false) [ None ↦ refl | Some text ↦ refl ]

  pub good_alike : (name : List ℕ) → has_word names name ≡ true → custom.is_good last name ≡ custom.is_good vars name
  good_alike name has = ap not (down_alike name has)

  pub primary_alike : has_word names [] ≡ false → custom.primary last names ≡ custom.primary vars names
  primary_alike no_empty =
      ap (option_and_then (λ (name : List ℕ). name_if (has_word names name && custom.is_good last name) name)) after.primary
      ∙ by_value (value vars primary_name)
    where
      nothing : name_if (has_word names [] && custom.is_good last []) [] ≡ None
      nothing = ap (λ (b : Bool). name_if (b && custom.is_good last []) []) no_empty

      not_good : (has : Bool) (name : List ℕ) → name_if (has && false) name ≡ None
      not_good true name = refl
      not_good false name = refl

      up_alike : (name : List ℕ) (has : Bool) → has_word names name ≡ has → name_if (has && custom.is_good last name) name ≡ name_if (has && custom.is_good vars name) name
      up_alike name true has = ap (λ (b : Bool). name_if b name) (good_alike name has)
      up_alike name false has = refl

      by_down : (name : List ℕ) (down : Bool) → is_down vars name ≡ down → name_if (has_word names (cond down [] name) && custom.is_good last (cond down [] name)) (cond down [] name) ≡ name_if (has_word names name && not (is_down vars name)) name
      by_down name true down = nothing ∙ sym (ap (λ (b : Bool). name_if (has_word names name && not b) name) down ∙ not_good (has_word names name) name)
      by_down name false down = up_alike name (has_word names name) refl

      by_value : (o : Option (List ℕ))
          → name_if (has_word names (option_map_or (λ name. cond (is_down vars name) [] name) o []) && custom.is_good last (option_map_or (λ name. cond (is_down vars name) [] name) o [])) (option_map_or (λ name. cond (is_down vars name) [] name) o [])
          ≡ option_and_then (λ name. name_if (has_word names name && not (is_down vars name)) name) o
      by_value None = nothing
      by_value (Some name) = by_down name (is_down vars name) refl
