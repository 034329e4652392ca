-- EFI: the numbers of a name are all whose entry has it as label, so each mark is given where there is one.
use Rattle.std.proofs.Common.{◌≡◌, ◌≢◌, ℕ, Bool, true, false, cond, ◌||◌, List, [], ◌∷◌, Option, Some, None, refl, sym, ◌∙◌, ap}
use Rattle.std.specs.Prelude.{filter_map}
use Rattle.std.specs.FinMap as fin
use Rattle.std.specs.List.{cons_option}
use Rattle.std.specs.Option.{option_map_or}
use Rattle.std.specs.Str.{bytes_eq}
use Rattle.std.proofs.lemmas.Bool.{or_right, true≢false}
use Rattle.std.proofs.lemmas.Option.{none-some}
use Rattle.std.proofs.lemmas.Slice.Eq.{bytes_eq-Decides}
use Rattle.boot_model.specs.Vars.{Variables}
use Rattle.boot_state.specs.Orders.{has_word, value}
use Rattle.boot_state.specs.Efi.{bad_with, entry_name, good_with, is_number, is_number_of, made_primary, marked_bad, marked_good, number_in, numbers_of, primary_with}
use Rattle.boot_state.proofs.Lookups.{present}
use Rattle.boot_state.proofs.Values.{any_filtered, bytes_eq_same}

-- what a map gives of one of the words is one of what it gives
mapped : (h : List ℕ → Option (List ℕ)) (words : List (List ℕ)) (word given : List ℕ) → h word ≡ Some given → has_word words word ≡ true → has_word (filter_map h words) given ≡ true
mapped h [] word given e has = absurd (true≢false (sym has))
mapped h (w ∷ ws) word given e has =
    elim (bytes_eq w word) as (λ b. bytes_eq w word ≡ b → (b || has_word ws word) ≡ true → has_word (cons_option (h w) (filter_map h ws)) given ≡ true) [
      | true ↦ λ same s.
          ap (λ (o : Option (List ℕ)). has_word (cons_option o (filter_map h ws)) given) (ap h ((bytes_eq-Decides w word).0 same) ∙ e)
          ∙ ap (λ (b : Bool). b || has_word (filter_map h ws) given) (bytes_eq_same given)
      | false ↦ λ other s.
          let later = mapped h ws word given e s in
          elim (h w) as (λ o. has_word (cons_option o (filter_map h ws)) given ≡ true) [
            | None ↦ later
            | Some x ↦ or_right (bytes_eq x given) (has_word (filter_map h ws) given) later
          ]
    ] refl has

-- the entry of a number, by its name and label
entry_there : (vars : Variables) (name number : List ℕ) → is_number_of vars name number ≡ true → (is_number number ≡ true) × (value vars (entry_name number) ≡ Some name)
entry_there vars name number =
    elim (is_number number) as (λ b. option_map_or (λ label. bytes_eq label name) (cond b (value vars (entry_name number)) None) false ≡ true → (b ≡ true) × (value vars (entry_name number) ≡ Some name)) [
      | true ↦ elim (value vars (entry_name number)) as (λ o. option_map_or (λ label. bytes_eq label name) o false ≡ true → (true ≡ true) × (o ≡ Some name)) [
        | None ↦ λ h. absurd (true≢false (sym h))
        | Some label ↦ λ h. (refl, ap (λ (l : List ℕ). Some l) ((bytes_eq-Decides label name).0 h))
      ]
      | false ↦ λ h. absurd (true≢false (sym h))
    ]

-- each number of the name is among its numbers
pub all_numbers : (vars : Variables) (name number : List ℕ) → is_number_of vars name number ≡ true → has_word (numbers_of vars name) number ≡ true
all_numbers vars name number is =
    let entry = entry_there vars name number is in
    let given : number_in (entry_name number) ≡ Some number = ap (λ (b : Bool). cond b (Some number) None) entry.0 in
    let has = mapped number_in (fin.keys vars) (entry_name number) number given (present vars (entry_name number) name entry.1) in
    any_filtered (λ w. bytes_eq w number) (is_number_of vars name) (filter_map number_in (fin.keys vars)) (λ x same. ap (is_number_of vars name) ((bytes_eq-Decides x number).0 same) ∙ is) has

marks_with : (use_next : Bool) (vars : Variables) (name number : List ℕ) (numbers : List (List ℕ)) → has_word numbers number ≡ true → (bad_with numbers name vars ≢ None) × (good_with numbers name vars ≢ None) × (primary_with use_next numbers name vars ≢ None)
marks_with use_next vars name number [] has = absurd (true≢false (sym has))
marks_with use_next vars name number (first ∷ more) has = ((λ e. none-some _ (sym e)), (λ e. none-some _ (sym e)), (λ e. none-some _ (sym e)))

-- so each mark is given of a name with a number
pub has_marks : (use_next : Bool) (vars : Variables) (name number : List ℕ) → is_number_of vars name number ≡ true → (marked_bad name vars ≢ None) × (marked_good name vars ≢ None) × (made_primary use_next name vars ≢ None)
has_marks use_next vars name number is = marks_with use_next vars name number (numbers_of vars name) (all_numbers vars name number is)
