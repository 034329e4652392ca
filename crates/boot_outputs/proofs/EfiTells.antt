-- What `efibootmgr` prints tells the next boot, the order and the entries as they are.
use Rattle.std.proofs.Common.{◌≡◌, ◌≢◌, ⊎_elim, ℕ, ◌==◌, Bool, true, false, cond, not, ◌&&◌, List, [], ◌∷◌, ◌++◌, length, take, drop, map, filter, Option, Some, None, codes, refl, sym, ◌∙◌, ap, subst, bytes_eq, slice_get, arith}
use Rattle.std.specs.Prelude.{filter_map, is_some, option_and_then, unwrap_or}
use Rattle.std.specs.Prelude as std
use Rattle.std.specs.FinMap as fin
use Rattle.std.specs.FinMap.{entries, entries_sorted, find, get-empty, get-entries, nat_cmp-IsAntisymmetric, slice_cmp-IsAntisymmetric}
use Rattle.std.specs.FinMap.Entries.{find-where_key, is_sorted-where_key, same_entries}
use Rattle.std.specs.Cmp.Lexicographic.{nat_list_cmp_total}
use Rattle.std.specs.List.{cons_option, list_any}
use Rattle.std.specs.Option.{option_map, option_map_or, option_or}
use Rattle.std.proofs.lemmas.Bool.{and_from, and_parts, eq-eqb, eqb-true, true≢false}
use Rattle.std.proofs.lemmas.List.{length-drop}
use Rattle.boot_model.specs.Vars.{Variables}
use Rattle.boot_model.specs.declared.boot_kind.BootKind.TheVariants.{Efi}
use Rattle.boot_state.specs.Efi as state
use Rattle.boot_state.specs.Efi.{entry_name, is_next, is_number_of, label_of, name_at, next_name, number_in, numbers_of, order_name, order_of, rest_of}
use Rattle.boot_state.specs.Orders.{has_word, is_comma, joined, value, words_between}
use Rattle.boot_state.proofs.Values.{numbers_differ, value-insert_other, value-insert_same}
use Rattle.boot_programs.specs.Efi.{efi_listing, is_entry}
use Rattle.boot_commands.specs.Efi.{plan, plan_with, when, write_order}
use Rattle.boot_commands.specs.declared.command.Command.TheVariants.{ListEntries, RemoveNext, SetOrder}
use Rattle.boot_commands.specs.declared.command.Mark.{Mark}
use Rattle.boot_commands.specs.declared.command.Mark.TheVariants.{Bad, Good, Primary}
use Rattle.boot_outputs.specs.Efi.{entered}
use Rattle.boot_outputs.specs.Plain.{ArePlainEntries}
use Rattle.boot_outputs.specs.Saw.{Saw}
use Rattle.boot_outputs.specs.Texts.{with_all}
use Rattle.boot_outputs.proofs.EfiLines.{entries_only, fifth, listing_told, told}
use Rattle.boot_outputs.proofs.Gathered.{Pairs, by_name, option_or-none, same_name, value-with_all, with_all-append}

-- the name of an entry, by its number
entry_named : (number : List ℕ) → state.is_number number ≡ true → is_entry (entry_name number) ≡ true
entry_named number h =
    let four = and_parts (length number == 4) _ h in
    let eight : (length (entry_name number) == 8) ≡ true = eq-eqb _ _ (omega (arith, eqb-true (length number) 4 four.0)) in
    and_from (length (entry_name number) == 8) (bytes_eq (codes "Boot") (take 4 (entry_name number)) && state.is_number (drop 4 (entry_name number))) eight h

-- a variable that is no entry has no number in its name
no_entry : (name : List ℕ) → is_entry name ≡ false → number_in name ≡ None
no_entry name h =
    elim (bytes_eq (codes "Boot") (take 4 name) && state.is_number (drop 4 name)) as (λ b. (bytes_eq (codes "Boot") (take 4 name) && state.is_number (drop 4 name)) ≡ b → cond b (Some (drop 4 name)) None ≡ None) [
      | true ↦ λ e.
          let parts = and_parts (bytes_eq (codes "Boot") (take 4 name)) (state.is_number (drop 4 name)) e in
          let four = eqb-true (length (drop 4 name)) 4 (and_parts (length (drop 4 name) == 4) _ parts.1).0 in
          let eight : (length name == 8) ≡ true = eq-eqb (length name) 8 (omega (arith, four, length-drop 4 name)) in
          absurd (true≢false (sym (and_from (length name == 8) (bytes_eq (codes "Boot") (take 4 name) && state.is_number (drop 4 name)) eight e) ∙ h))
      | false ↦ λ e. refl
    ] refl

next_not_order : next_name ≢ order_name
next_not_order e = numbers_differ 78 79 refl (ap fifth e)

not_entry : (q name : List ℕ) → is_entry name ≡ false → is_entry q ≡ true → q ≢ name
not_entry q name other is e = true≢false (sym is ∙ ap is_entry e ∙ other)

find_entry : (q : List ℕ) (es : Pairs) → find by_name q (entries_only es) ≡ cond (is_entry q) (find by_name q es) None
find_entry q es = find-where_key by_name is_entry q (λ x e. ap is_entry (sym (same_name q x e))) es

-- the numbers are those of the entries
numbers_only : (es : Pairs) → filter_map number_in (map (λ e. e.0) (entries_only es)) ≡ filter_map number_in (map (λ e. e.0) es)
numbers_only [] = refl
numbers_only (e ∷ es) =
    elim (is_entry e.0) as (λ b. is_entry e.0 ≡ b → filter_map number_in (map (λ e. e.0) (cond b (e ∷ entries_only es) (entries_only es))) ≡ cons_option (number_in e.0) (filter_map number_in (map (λ e. e.0) es))) [
      | true ↦ λ is. ap (cons_option (number_in e.0)) (numbers_only es)
      | false ↦ λ is. numbers_only es ∙ ap (λ (o : Option (List ℕ)). cons_option o (filter_map number_in (map (λ e. e.0) es))) (sym (no_entry e.0 is))
    ] refl

told_other : (v : Variables) (name : List ℕ) (o : Option (List ℕ)) (q : List ℕ) → q ≢ name → value (with_all v (told name o)) q ≡ value v q
told_other v name None q other = refl
told_other v name (Some text) q other = value-insert_other v name text q other

told_same : (v : Variables) (name : List ℕ) (o : Option (List ℕ)) → value v name ≡ None → value (with_all v (told name o)) name ≡ o
told_same v name None none = none
told_same v name (Some text) none = value-insert_same v name text

-- the next boot and the order alone
abbrev heads : Variables → Variables
heads vars = with_all (with_all fin.empty (told next_name (value vars next_name))) (told order_name (value vars order_name))

-- these variables of EFI are alike
pub record AreAlike (last vars : Variables) : Type 0 where
  pub next : value last next_name ≡ value vars next_name
  pub order : value last order_name ≡ value vars order_name
  pub label : (number : List ℕ) → label_of last number ≡ label_of vars number
  pub numbers : (name : List ℕ) → numbers_of last name ≡ numbers_of vars name

module _ (vars last : Variables) (plain : ArePlainEntries vars) (reads : entered (efi_listing vars) fin.empty ≡ Some last) where
  whole : last ≡ with_all (heads vars) (entries_only (entries vars))
  whole =
      listing_told vars last plain reads
      ∙ with_all-append fin.empty (told next_name (value vars next_name)) (told order_name (value vars order_name) ++ entries_only (entries vars))
      ∙ with_all-append (with_all fin.empty (told next_name (value vars next_name))) (told order_name (value vars order_name)) (entries_only (entries vars))

  value_last : (q : List ℕ) → value last q ≡ option_or (cond (is_entry q) (value vars q) None) (value (heads vars) q)
  value_last q =
      ap (λ (v : Variables). value v q) whole
      ∙ value-with_all _ (entries_only (entries vars)) q (is_sorted-where_key by_name is_entry (entries vars) (entries_sorted vars))
      ∙ ap (λ (o : Option (List ℕ)). option_or o (value (heads vars) q))
      (find_entry q (entries vars) ∙ ap (λ (o : Option (List ℕ)). cond (is_entry q) o None) (sym (get-entries vars q)))

  next_back : value last next_name ≡ value vars next_name
  next_back =
      value_last next_name
      ∙ told_other (with_all fin.empty (told next_name (value vars next_name))) order_name (value vars order_name) next_name next_not_order
      ∙ told_same fin.empty next_name (value vars next_name) (get-empty by_name next_name)

  order_back : value last order_name ≡ value vars order_name
  order_back =
      value_last order_name
      ∙ told_same (with_all fin.empty (told next_name (value vars next_name))) order_name (value vars order_name)
      (told_other fin.empty next_name (value vars next_name) order_name (λ e. next_not_order (sym e)) ∙ get-empty by_name order_name)

  entry_back : (q : List ℕ) → is_entry q ≡ true → value last q ≡ value vars q
  entry_back q is =
      let none : value (heads vars) q ≡ None =
      told_other (with_all fin.empty (told next_name (value vars next_name))) order_name (value vars order_name) q (not_entry q order_name refl is)
      ∙ told_other fin.empty next_name (value vars next_name) q (not_entry q next_name refl is)
      ∙ get-empty by_name q in
      value_last q ∙ (λ i. option_or (cond (is i) (value vars q) None) (none i)) ∙ option_or-none (value vars q)

  label_back : (number : List ℕ) → label_of last number ≡ label_of vars number
  label_back number =
      elim (state.is_number number) as (λ b. state.is_number number ≡ b → cond b (value last (entry_name number)) None ≡ cond b (value vars (entry_name number)) None) [
        | true ↦ λ is. entry_back (entry_name number) (entry_named number is)
        | false ↦ λ is. refl
      ] refl

  same_found : (q : List ℕ) → find by_name q (entries_only (entries last)) ≡ find by_name q (entries_only (entries vars))
  same_found q =
      find_entry q (entries last)
      ∙ elim (is_entry q) as (λ b. is_entry q ≡ b → cond b (find by_name q (entries last)) None ≡ cond b (find by_name q (entries vars)) None) [
        | true ↦ λ is. sym (get-entries last q) ∙ entry_back q is ∙ get-entries vars q
        | false ↦ λ is. refl
      ] refl
      ∙ sym (find_entry q (entries vars))

  entries_back : entries_only (entries last) ≡ entries_only (entries vars)
  entries_back =
      same_entries by_name nat_list_cmp_total (slice_cmp-IsAntisymmetric nat_cmp-IsAntisymmetric) (entries_only (entries last)) (entries_only (entries vars))
      (is_sorted-where_key by_name is_entry (entries last) (entries_sorted last))
      (is_sorted-where_key by_name is_entry (entries vars) (entries_sorted vars))
      same_found

  numbers_back : (name : List ℕ) → numbers_of last name ≡ numbers_of vars name
  numbers_back name =
      let keys : filter_map number_in (fin.keys last) ≡ filter_map number_in (fin.keys vars) =
      sym (numbers_only (entries last)) ∙ ap (λ (es : Pairs). filter_map number_in (map (λ e. e.0) es)) entries_back ∙ numbers_only (entries vars) in
      λ i. filter (λ number. option_map_or (λ label. bytes_eq label name) (label_back number i) false) (keys i)

  -- so what counts of EFI's variables reads back
  pub efi_back : AreAlike last vars
  efi_back = record { next = next_back; order = order_back; label = label_back; numbers = numbers_back }

pub efi_saw : (use_next : Bool) (vars last : Variables) → Saw (Efi use_next) (ListEntries ∷ []) vars fin.empty last → AreAlike last vars
efi_saw use_next vars last saw =
    ⊎_elim
    (λ shown. subst (λ (v : Variables). AreAlike v vars) (sym saw.1.2) (efi_back vars saw.0 saw.1.0 shown))
    (λ unset. absurd unset.0)
    saw.1.1

-- ---- what variables that are alike mean

module _ (last vars : Variables) (alike : AreAlike last vars) where
  number_alike : (name number : List ℕ) → is_number_of last name number ≡ is_number_of vars name number
  number_alike name number = ap (λ (o : Option (List ℕ)). option_map_or (λ label. bytes_eq label name) o false) (alike.label number)

  order_alike : order_of last ≡ order_of vars
  order_alike = ap (λ (o : Option (List ℕ)). words_between is_comma (unwrap_or o [])) alike.order

  next_alike : (name : List ℕ) → is_next last name ≡ is_next vars name
  next_alike name = λ i. option_map_or (λ number. number_alike name number i) (alike.next i) false

  pub good_alike : (name : List ℕ) → state.is_good last name ≡ state.is_good vars name
  good_alike name = λ i. list_any (λ number. number_alike name number i) (order_alike i)

  rest_alike : (name : List ℕ) → rest_of last name ≡ rest_of vars name
  rest_alike name = λ i. filter (λ number. not (number_alike name number i)) (order_alike i)

  named_alike : (names : List (List ℕ)) (number : List ℕ) → name_at last names number ≡ name_at vars names number
  named_alike names number = ap (option_and_then (λ (label : List ℕ). cond (has_word names label) (Some label) None)) (alike.label number)

  pub primary_alike : (names : List (List ℕ)) → state.primary last names ≡ state.primary vars names
  primary_alike names = λ i.
      option_or (option_and_then (λ number. named_alike names number i) (alike.next i))
      (option_and_then (λ number. named_alike names number i) (std.find (λ number. is_some (named_alike names number i)) (order_alike i)))

  plan_with_alike : (use_next : Bool) (mark : Mark) (name first : List ℕ) → plan_with use_next mark name last first ≡ plan_with use_next mark name vars first
  plan_with_alike use_next Bad name first = λ i. when (next_alike name i) RemoveNext ++ when (good_alike name i) (write_order (joined 44 (rest_alike name i)))
  plan_with_alike use_next Good name first = λ i.
      cond (option_map_or (λ order. bytes_eq order (joined 44 (first ∷ rest_alike name i))) (alike.order i) false) [] (SetOrder (joined 44 (first ∷ rest_alike name i)) ∷ [])
  plan_with_alike true Primary name first = refl
  plan_with_alike false Primary name first = λ i. when (is_some (alike.next i)) RemoveNext ++ SetOrder (joined 44 (first ∷ rest_alike name i)) ∷ []

  pub plan_alike : (use_next : Bool) (mark : Mark) (name : List ℕ) → plan use_next mark name last ≡ plan use_next mark name vars
  plan_alike use_next mark name = λ i. option_map (λ first. plan_with_alike use_next mark name first i) (slice_get (alike.numbers name i) 0)
