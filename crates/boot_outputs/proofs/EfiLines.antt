-- The lines that `efibootmgr` prints, and what each tells.
use Rattle.std.proofs.Common.{◌≡◌, ◌≢◌, ℕ, ◌+◌, ◌==◌, Bool, true, false, cond, not, ◌&&◌, ◌||◌, eqb, List, [], ◌∷◌, ◌++◌, append_assoc, length, take, drop, map, filter, Option, Some, None, codes, refl, sym, ◌∙◌, ap, subst, bytes_eq, arith}
use Rattle.std.specs.Prelude.{is_some, option_and_then}
use Rattle.std.specs.Char.{is_ascii_hexdigit, to_ascii_uppercase}
use Rattle.std.specs.FinMap as fin
use Rattle.std.specs.FinMap.{entries}
use Rattle.std.specs.List.{before_first, cons_option, filter_map, list_all, list_any, position_or_len, prefix_len, starts_with}
use Rattle.std.specs.Option.{option_map, option_or}
use Rattle.std.specs.Str.{str_to_ascii_uppercase}
use Rattle.std.proofs.Math.Seq.{take-length}
use Rattle.std.proofs.lemmas.Bool.{and_from, and_parts, not-true, or_from, or_parts, true≢false}
use Rattle.std.proofs.lemmas.Bool.Decides.{nat_tests}
use Rattle.std.proofs.lemmas.List.{take-append-drop}
use Rattle.std.proofs.lemmas.List.Folds.{list_all-append, list_any-append}
use Rattle.std.proofs.lemmas.List.Elements.{filter_map-append}
use Rattle.std.proofs.lemmas.Option.{cond_some, none-some, same_Some}
use Rattle.std.proofs.lemmas.Slice.Eq.{bytes_eq-Decides}
use Rattle.boot_model.specs.Vars.{Variables}
use Rattle.boot_state.specs.Efi as state
use Rattle.boot_state.specs.Efi.{entry_name, is_hex_digit, next_name, order_name}
use Rattle.boot_state.specs.Orders.{value}
use Rattle.boot_programs.specs.Efi.{efi_listing, entry_lines, is_entry, line_if_set}
use Rattle.boot_outputs.specs.Efi.{entered, entry_from, entry_in, entry_setting, is_formed, is_number, is_order, label_from, next_in, next_setting, order_in, order_setting, text_if, variable_in}
use Rattle.boot_outputs.specs.Plain.{ArePlainEntries, IsUpper, is_plain_label, lacks}
use Rattle.boot_outputs.specs.Texts.{is_line_end, lines_of, with_all}
use Rattle.boot_outputs.proofs.Fronts.{behind-front, behind-other, starts_with-front, starts_with-other}
use Rattle.boot_outputs.proofs.Gathered.{Pairs, value_passes}
use Rattle.boot_outputs.proofs.Lines.{lines_of-line}

-- ---- digits

abbrev pub fifth : List ℕ → ℕ
fifth (a ∷ b ∷ c ∷ d ∷ e ∷ rest) = e
fifth _ = 0

not_digit : (digit other : ℕ) → is_hex_digit digit ≡ true → is_hex_digit other ≡ false → digit ≢ other
not_digit digit other is differs e = true≢false (sym is ∙ ap is_hex_digit e ∙ differs)

digit_printed : (digit : ℕ) → is_hex_digit digit ≡ true → is_ascii_hexdigit digit ≡ true
digit_printed digit is = grind (arith, nat_tests)

digit_upper : (digit : ℕ) → is_hex_digit digit ≡ true → to_ascii_uppercase digit ≡ digit
digit_upper digit is = grind (arith, nat_tests)

digit_within : (digit : ℕ) → is_hex_digit digit ≡ true → is_line_end digit ≡ false
digit_within digit is = grind (arith, nat_tests)

-- four of them
record Digits (number : List ℕ) : Type 0 where
  a : ℕ
  b : ℕ
  c : ℕ
  d : ℕ
  whole : number ≡ a ∷ b ∷ c ∷ d ∷ []
  is_a : is_hex_digit a ≡ true
  is_b : is_hex_digit b ≡ true
  is_c : is_hex_digit c ≡ true
  is_d : is_hex_digit d ≡ true

digits_of : (number : List ℕ) → state.is_number number ≡ true → Digits number
digits_of [] h = absurd (true≢false (sym h))
digits_of (a ∷ []) h = absurd (true≢false (sym h))
digits_of (a ∷ b ∷ []) h = absurd (true≢false (sym h))
digits_of (a ∷ b ∷ c ∷ []) h = absurd (true≢false (sym h))
digits_of (a ∷ b ∷ c ∷ d ∷ []) h =
    let first = and_parts (is_hex_digit a) (is_hex_digit b && (is_hex_digit c && (is_hex_digit d && true))) h in
    let second = and_parts (is_hex_digit b) (is_hex_digit c && (is_hex_digit d && true)) first.1 in
    let third = and_parts (is_hex_digit c) (is_hex_digit d && true) second.1 in
    record { a = a; b = b; c = c; d = d; whole = refl; is_a = first.0; is_b = second.0; is_c = third.0; is_d = (and_parts (is_hex_digit d) true third.1).0 }
digits_of (a ∷ b ∷ c ∷ d ∷ e ∷ rest) h =
    let longer : eqb (length (a ∷ b ∷ c ∷ d ∷ e ∷ rest)) 4 ≡ false = grind (arith, nat_tests) in
    absurd (true≢false (sym (and_parts (eqb (length (a ∷ b ∷ c ∷ d ∷ e ∷ rest)) 4) (list_all is_hex_digit (a ∷ b ∷ c ∷ d ∷ e ∷ rest)) h).0 ∙ longer))

-- the name of an entry is `Boot` and a number
pub entry_parts : (name : List ℕ) → is_entry name ≡ true → (name ≡ entry_name (drop 4 name)) × (state.is_number (drop 4 name) ≡ true)
entry_parts name h =
    let parts = and_parts (bytes_eq (codes "Boot") (take 4 name)) (state.is_number (drop 4 name)) (and_parts (length name == 8) (bytes_eq (codes "Boot") (take 4 name) && state.is_number (drop 4 name)) h).1 in
    (sym (take-append-drop 4 name) ∙ ap (λ (t : List ℕ). t ++ drop 4 name) (sym ((bytes_eq-Decides (codes "Boot") (take 4 name)).0 parts.0)), parts.1)

-- ---- the line of an entry

tab_nowhere : (text : List ℕ) → list_any (λ b. b == 9) text ≡ false → position_or_len (λ b. b == 9) text ≡ length text
tab_nowhere [] h = refl
tab_nowhere (byte ∷ text) h =
    let parts = or_parts (byte == 9) (list_any (λ b. b == 9) text) h in
    let later = tab_nowhere text parts.1 in
    ap (λ (b : Bool). cond (not b) (1 + prefix_len (λ b. not (b == 9)) text) 0) parts.0 ∙ omega arith

whole_label : (label : List ℕ) → lacks 9 label ≡ true → before_first (λ b. b == 9) label ≡ label
whole_label label h = ap (λ (n : ℕ). take n label) (tab_nowhere label (not-true (list_any (λ b. b == 9) label) h)) ∙ take-length label

-- without its end
abbrev pub entry_text : List ℕ × List ℕ → List ℕ
entry_text e = e.0 ++ codes "* " ++ e.1

pub record TellsEntry (name label : List ℕ) : Type 0 where
  pub variable : variable_in (entry_text (name, label)) ≡ Some (name, label)
  pub formed : is_formed (entry_text (name, label)) ≡ true
  pub within : list_any is_line_end (entry_text (name, label)) ≡ false

module _ (a b c d : ℕ) (is_a : is_hex_digit a ≡ true) (is_b : is_hex_digit b ≡ true) (is_c : is_hex_digit c ≡ true) (is_d : is_hex_digit d ≡ true) (label : List ℕ) (plain : is_plain_label (entry_name (a ∷ b ∷ c ∷ d ∷ []), label) ≡ true) where
  not_next : (rest : List ℕ) → entry_text (entry_name (a ∷ b ∷ c ∷ d ∷ []), label) ≢ codes "BootNext: " ++ rest
  not_next rest e = not_digit a 78 is_a refl (ap fifth e)

  not_order : (rest : List ℕ) → entry_text (entry_name (a ∷ b ∷ c ∷ d ∷ []), label) ≢ codes "BootOrder: " ++ rest
  not_order rest e = not_digit a 79 is_a refl (ap fifth e)

  printed_number : is_number (a ∷ b ∷ c ∷ d ∷ []) ≡ true
  printed_number =
      and_from (is_ascii_hexdigit a) (is_ascii_hexdigit b && (is_ascii_hexdigit c && (is_ascii_hexdigit d && true))) (digit_printed a is_a)
      (and_from (is_ascii_hexdigit b) (is_ascii_hexdigit c && (is_ascii_hexdigit d && true)) (digit_printed b is_b)
      (and_from (is_ascii_hexdigit c) (is_ascii_hexdigit d && true) (digit_printed c is_c)
      (and_from (is_ascii_hexdigit d) true (digit_printed d is_d) refl)))

  upper_number : str_to_ascii_uppercase (a ∷ b ∷ c ∷ d ∷ []) ≡ a ∷ b ∷ c ∷ d ∷ []
  upper_number = λ i. digit_upper a is_a i ∷ digit_upper b is_b i ∷ digit_upper c is_c i ∷ digit_upper d is_d i ∷ []

  label_told : label_from (42 ∷ 32 ∷ label) ≡ Some label
  label_told = ap (λ (t : List ℕ). Some t) (whole_label label (and_parts (lacks 9 label) (lacks 10 label) plain).0)

  entry_told : entry_in (entry_text (entry_name (a ∷ b ∷ c ∷ d ∷ []), label)) ≡ Some (a ∷ b ∷ c ∷ d ∷ [], label)
  entry_told =
      ap (option_and_then entry_from) (behind-front (codes "Boot") (a ∷ b ∷ c ∷ d ∷ 42 ∷ 32 ∷ label))
      ∙ ap (λ (t : Bool). option_and_then (λ (number : List ℕ). option_map (λ (l : List ℕ). (number, l)) (label_from (42 ∷ 32 ∷ label))) (text_if t (a ∷ b ∷ c ∷ d ∷ []))) printed_number
      ∙ ap (option_map (λ (l : List ℕ). (a ∷ b ∷ c ∷ d ∷ [], l))) label_told

  four_tell : TellsEntry (entry_name (a ∷ b ∷ c ∷ d ∷ [])) label
  four_tell = record {
    variable =
        (λ i. option_or (option_map next_setting (option_and_then (λ (t : List ℕ). text_if (is_number t) t) (behind-other (codes "BootNext: ") _ not_next i)))
        (option_or (option_map order_setting (option_and_then (λ (t : List ℕ). text_if (is_order t) t) (behind-other (codes "BootOrder: ") _ not_order i))) (option_map entry_setting (entry_told i))))
        ∙ ap (λ (number : List ℕ). Some (entry_name number, label)) upper_number;
    formed = (λ i. cond (starts_with-other (codes "BootNext: ") _ not_next i) (is_some (next_in (entry_text (entry_name (a ∷ b ∷ c ∷ d ∷ []), label))))
        (cond (starts_with-other (codes "BootOrder: ") _ not_order i) (is_some (order_in (entry_text (entry_name (a ∷ b ∷ c ∷ d ∷ []), label)))) true));
    within =
        (λ i. digit_within a is_a i || (digit_within b is_b i || (digit_within c is_c i || (digit_within d is_d i || list_any is_line_end label))))
        ∙ not-true (list_any is_line_end label) (and_parts (lacks 9 label) (lacks 10 label) plain).1;
  }

pub tells_entry : (name label : List ℕ) → is_entry name ≡ true → is_plain_label (name, label) ≡ true → TellsEntry name label
tells_entry name label is plain =
    let parts = entry_parts name is in
    let digits = digits_of (drop 4 name) parts.1 in
    let same : entry_name (digits.a ∷ digits.b ∷ digits.c ∷ digits.d ∷ []) ≡ name = sym (parts.0 ∙ ap entry_name digits.whole) in
    subst (λ (n : List ℕ). TellsEntry n label) same
    (four_tell digits.a digits.b digits.c digits.d digits.is_a digits.is_b digits.is_c digits.is_d label plain)

-- ---- the lines of all entries

abbrev pub entries_only : Pairs → Pairs
entries_only es = filter (λ e. is_entry e.0) es

pub record TellEntries (es : Pairs) : Type 0 where
  pub lines : lines_of (entry_lines es) ≡ map entry_text (entries_only es)
  pub variables : filter_map variable_in (map entry_text (entries_only es)) ≡ entries_only es
  pub formed : list_all is_formed (map entry_text (entries_only es)) ≡ true

pub tell_entries : (es : Pairs) → list_all is_plain_label es ≡ true → TellEntries es
tell_entries [] h = record { lines = refl; variables = refl; formed = refl }
tell_entries (e ∷ es) h =
    let parts = and_parts (is_plain_label e) (list_all is_plain_label es) h in
    let told = by_entry (tell_entries es parts.1) (is_entry e.0) refl in
    record { lines = told.0; variables = told.1; formed = told.2 }
  where
    by_entry : TellEntries es → (b : Bool) → is_entry e.0 ≡ b → (lines_of (cond b (entry_text e ++ 10 ∷ []) [] ++ entry_lines es) ≡ map entry_text (cond b (e ∷ entries_only es) (entries_only es)))
        × (filter_map variable_in (map entry_text (cond b (e ∷ entries_only es) (entries_only es))) ≡ cond b (e ∷ entries_only es) (entries_only es))
        × (list_all is_formed (map entry_text (cond b (e ∷ entries_only es) (entries_only es))) ≡ true)
    by_entry more true is =
        let one = tells_entry e.0 e.1 is (and_parts (is_plain_label e) (list_all is_plain_label es) h).0 in (
          ap lines_of (append_assoc (entry_text e) (10 ∷ []) (entry_lines es)) ∙ lines_of-line (entry_text e) (entry_lines es) one.within ∙ ap (λ (ls : List (List ℕ)). entry_text e ∷ ls) more.lines,
          (λ i. cons_option (one.variable i) (more.variables i)),
          and_from (is_formed (entry_text e)) (list_all is_formed (map entry_text (entries_only es))) one.formed more.formed,
        )
    by_entry more false is = (more.lines, more.variables, more.formed)

-- ---- the lines above them

-- a value behind its heading, where it is set
abbrev pub heading_lines : List ℕ → Option (List ℕ) → List (List ℕ)
heading_lines heading None = []
heading_lines heading (Some text) = (heading ++ text) ∷ []

-- the variable that it tells
abbrev pub told : List ℕ → Option (List ℕ) → Pairs
told name None = []
told name (Some text) = (name, text) ∷ []

lines_of-heading : (heading : List ℕ) (o : Option (List ℕ)) (rest : List ℕ) → ((text : List ℕ) → o ≡ Some text → list_any is_line_end (heading ++ text) ≡ false) → lines_of (line_if_set heading o ++ rest) ≡ heading_lines heading o ++ lines_of rest
lines_of-heading heading None rest within = refl
lines_of-heading heading (Some text) rest within =
    ap lines_of (append_assoc (heading ++ text) (10 ∷ []) rest) ∙ lines_of-line (heading ++ text) rest (within text refl)

is_formed_if : (formed : Bool) (text : List ℕ) → is_some (text_if formed text) ≡ true → text_if formed text ≡ Some text
is_formed_if true text h = refl
is_formed_if false text h = absurd (true≢false (sym h))

setting_told : (name : List ℕ) (o : Option (List ℕ)) (text : List ℕ) (others : Option (List ℕ × List ℕ)) → option_map str_to_ascii_uppercase o ≡ Some text
    → cons_option (option_or (option_map (λ (t : List ℕ). (name, str_to_ascii_uppercase t)) o) others) [] ≡ (name, text) ∷ []
setting_told name None text others h = absurd (none-some text h)
setting_told name (Some t) text others h = ap (λ (u : List ℕ). (name, u) ∷ []) (same_Some (str_to_ascii_uppercase t) text h)

next_told : (o : Option (List ℕ)) → IsUpper o → list_all is_formed (heading_lines (codes "BootNext: ") o) ≡ true → filter_map variable_in (heading_lines (codes "BootNext: ") o) ≡ told next_name o
next_told None upper h = refl
next_told (Some text) upper h =
    let line = codes "BootNext: " ++ text in
    let number : next_in line ≡ text_if (is_number text) text = ap (option_and_then (λ (t : List ℕ). text_if (is_number t) t)) (behind-front (codes "BootNext: ") text) in
    let formed : is_some (next_in line) ≡ true =
    sym (ap (λ (b : Bool). cond b (is_some (next_in line)) (cond (starts_with eqb line (codes "BootOrder: ")) (is_some (order_in line)) true)) (starts_with-front (codes "BootNext: ") text)) ∙ (and_parts (is_formed line) true h).0 in
    let told_text : option_map str_to_ascii_uppercase (next_in line) ≡ Some text = ap (option_map str_to_ascii_uppercase) (number ∙ is_formed_if (is_number text) text (ap is_some (sym number) ∙ formed)) ∙ upper in
    setting_told next_name (next_in line) text (option_or (option_map order_setting (order_in line)) (option_map entry_setting (entry_in line))) told_text

order_told : (o : Option (List ℕ)) → IsUpper o → list_all is_formed (heading_lines (codes "BootOrder: ") o) ≡ true → filter_map variable_in (heading_lines (codes "BootOrder: ") o) ≡ told order_name o
order_told None upper h = refl
order_told (Some text) upper h =
    let line = codes "BootOrder: " ++ text in
    let order : order_in line ≡ text_if (is_order text) text = ap (option_and_then (λ (t : List ℕ). text_if (is_order t) t)) (behind-front (codes "BootOrder: ") text) in
    let formed : is_some (order_in line) ≡ true =
    sym (ap (λ (b : Bool). cond b (is_some (order_in line)) true) (starts_with-front (codes "BootOrder: ") text)) ∙ (and_parts (is_formed line) true h).0 in
    let told_text : option_map str_to_ascii_uppercase (order_in line) ≡ Some text = ap (option_map str_to_ascii_uppercase) (order ∙ is_formed_if (is_order text) text (ap is_some (sym order) ∙ formed)) ∙ upper in
    setting_told order_name (order_in line) text (option_map entry_setting (entry_in line)) told_text

-- ---- all lines

within_value : (heading : List ℕ) (vars : Variables) (name : List ℕ) → list_any is_line_end heading ≡ false → list_all is_plain_label (entries vars) ≡ true → (text : List ℕ) → value vars name ≡ Some text → list_any is_line_end (heading ++ text) ≡ false
within_value heading vars name clean plain text there =
    list_any-append is_line_end heading text
    ∙ or_from (list_any is_line_end heading) (list_any is_line_end text) clean
    (not-true (list_any is_line_end text) (and_parts (lacks 9 text) (lacks 10 text) (value_passes is_plain_label vars name text plain there)).1)

module _ (vars last : Variables) (plain : ArePlainEntries vars) where
  listing_lines : lines_of (efi_listing vars) ≡ heading_lines (codes "BootNext: ") (value vars next_name) ++ (heading_lines (codes "BootOrder: ") (value vars order_name) ++ map entry_text (entries_only (entries vars)))
  listing_lines =
      ap lines_of (append_assoc (line_if_set (codes "BootNext: ") (value vars next_name)) (line_if_set (codes "BootOrder: ") (value vars order_name)) (entry_lines (entries vars)))
      ∙ lines_of-heading (codes "BootNext: ") (value vars next_name) (line_if_set (codes "BootOrder: ") (value vars order_name) ++ entry_lines (entries vars)) (within_value (codes "BootNext: ") vars next_name refl plain.each)
      ∙ ap (λ (ls : List (List ℕ)). heading_lines (codes "BootNext: ") (value vars next_name) ++ ls)
      (lines_of-heading (codes "BootOrder: ") (value vars order_name) (entry_lines (entries vars)) (within_value (codes "BootOrder: ") vars order_name refl plain.each)
      ∙ ap (λ (ls : List (List ℕ)). heading_lines (codes "BootOrder: ") (value vars order_name) ++ ls) (tell_entries (entries vars) plain.each).lines)

  -- what is printed reads back as the next boot, the order and the entries
  pub listing_told : entered (efi_listing vars) fin.empty ≡ Some last
      → last ≡ with_all fin.empty (told next_name (value vars next_name) ++ (told order_name (value vars order_name) ++ entries_only (entries vars)))
  listing_told h =
      let a = heading_lines (codes "BootNext: ") (value vars next_name) in
      let b = heading_lines (codes "BootOrder: ") (value vars order_name) in
      let es = map entry_text (entries_only (entries vars)) in
      let at : cond (list_all is_formed (a ++ (b ++ es))) (Some (with_all fin.empty (filter_map variable_in (a ++ (b ++ es))))) None ≡ Some last =
      sym (ap (λ (ls : List (List ℕ)). cond (list_all is_formed ls) (Some (with_all fin.empty (filter_map variable_in ls))) None) listing_lines) ∙ h in
      let both = cond_some _ _ _ at in
      let first = and_parts (list_all is_formed a) (list_all is_formed (b ++ es)) (sym (list_all-append is_formed a (b ++ es)) ∙ both.0) in
      let second = and_parts (list_all is_formed b) (list_all is_formed es) (sym (list_all-append is_formed b es) ∙ first.1) in
      let more = tell_entries (entries vars) plain.each in
      sym both.1
      ∙ ap (with_all fin.empty)
      (filter_map-append variable_in a (b ++ es)
      ∙ (λ i. next_told (value vars next_name) plain.next first.0 i ++ (filter_map-append variable_in b es ∙ (λ j. order_told (value vars order_name) plain.order second.0 j ++ more.variables j)) i))
