-- barebox's values read back as the same counts.
use Rattle.std.proofs.Common.{◌≡◌, ⊎_elim, ℕ, ◌==◌, Bool, true, false, cond, ◌&&◌, List, [], ◌∷◌, ◌++◌, length, map, Option, Some, None, codes, refl, sym, ◌∙◌, ap, bytes_eq}
use Rattle.std.specs.Prelude.{fold, nat_lt, unwrap_or}
use Rattle.std.specs.FinMap as fin
use Rattle.std.specs.FinMap.{get}
use Rattle.std.specs.List.{flat_map, list_all, zip}
use Rattle.std.proofs.lemmas.Bool.{and_from, and_parts, cases_Bool, eq-eqb, or_cases, or_left, or_parts, or_right, true≢false}
use Rattle.std.proofs.lemmas.List.{length-map}
use Rattle.std.proofs.lemmas.Option.{same_Some}
use Rattle.std.proofs.lemmas.Slice.Eq.{bytes_eq-Decides}
use Rattle.boot_model.specs.Vars.{Variables}
use Rattle.boot_model.specs.declared.boot_kind.BootKind.TheVariants.{Barebox}
use Rattle.boot_state.specs.Barebox as barebox
use Rattle.boot_state.specs.Barebox.{attempts_name, attempts_of, best_with, is_better, priority_name, priority_of}
use Rattle.boot_state.specs.Orders.{count_of, digit_of, has_word, value}
use Rattle.boot_state.proofs.Values.{bytes_eq_same, value-insert}
use Rattle.boot_programs.specs.Barebox.{value_line}
use Rattle.boot_programs.specs.Ends.{printed}
use Rattle.boot_programs.specs.Programs.{program}
use Rattle.boot_programs.specs.declared.program_end.ProgramEnd.{ProgramEnd}
use Rattle.boot_programs.proofs.Readings.{get_words, program-barebox_get, program-barebox_get_of}
use Rattle.boot_commands.specs.Barebox.{attempts_setting, priority_setting, rank, readings, settings_of, variables_of}
use Rattle.boot_commands.specs.Commands.{argv, behind_each}
use Rattle.boot_commands.specs.declared.command.Command.TheVariants.{PrintState}
use Rattle.boot_commands.specs.declared.command.Mark.{Mark}
use Rattle.boot_commands.specs.declared.command.Mark.TheVariants.{Bad, Good, Primary}
use Rattle.boot_outputs.specs.Barebox.{gotten}
use Rattle.boot_outputs.specs.Plain.{ArePlain, is_plain, lacks}
use Rattle.boot_outputs.specs.Saw.{Saw}
use Rattle.boot_outputs.specs.Texts.{with_all}
use Rattle.boot_outputs.proofs.Gathered.{Pairs, value_passes}
use Rattle.boot_outputs.proofs.PrintedLines.{lines_of-flat_map}

-- what is printed for a name
abbrev pub value_text : Variables → List ℕ → List ℕ
value_text vars name = unwrap_or (get vars name) (codes "0")

one_line : (vars : Variables) (name : List ℕ) → ArePlain vars → lacks 10 (value_text vars name) ≡ true
one_line vars name plain = by_value (value vars name) refl
  where
    by_value : (o : Option (List ℕ)) → value vars name ≡ o → lacks 10 (unwrap_or o (codes "0")) ≡ true
    by_value None e = refl
    by_value (Some text) e = (and_parts (lacks 61 name && lacks 10 name) (lacks 10 text) (value_passes is_plain vars name text plain.each e)).1

all_lines : (vars : Variables) (names : List (List ℕ)) → ArePlain vars → list_all (λ name. lacks 10 (value_text vars name)) names ≡ true
all_lines vars [] plain = refl
all_lines vars (name ∷ names) plain =
    and_from (lacks 10 (value_text vars name)) (list_all (λ n. lacks 10 (value_text vars n)) names) (one_line vars name plain) (all_lines vars names plain)

-- each name with what is printed for it
abbrev pub value_pairs : Variables → List (List ℕ) → Pairs
value_pairs vars names = zip names (map (value_text vars) names)

pub gotten-value_lines : (names : List (List ℕ)) (vars read : Variables) → ArePlain vars → gotten names (flat_map (value_line vars) names) read ≡ Some (with_all read (value_pairs vars names))
gotten-value_lines names vars read plain =
    ap (λ (ls : List (List ℕ)). cond (length ls == length names) (Some (with_all read (zip names ls))) None) (lines_of-flat_map (value_text vars) names (all_lines vars names plain))
    ∙ ap (λ (b : Bool). cond b (Some (with_all read (value_pairs vars names))) None) (eq-eqb (length (map (value_text vars) names)) (length names) (length-map names (value_text vars)))

-- the words of the command are those of the program
behind_each-get_words : (names : List (List ℕ)) → behind_each (codes "-g") names ≡ get_words names
behind_each-get_words [] = refl
behind_each-get_words (name ∷ names) = ap (λ (words : List (List ℕ)). codes "-g" ∷ name ∷ words) (behind_each-get_words names)

printed_by : (state : Option (List ℕ)) (a p : ℕ) (of : Option (List ℕ)) (name : List ℕ) (names : List (List ℕ)) (vars : Variables)
    → program (Barebox state a p) (argv (PrintState of (name ∷ names))) vars ≡ printed vars (flat_map (value_line vars) (name ∷ names))
printed_by state a p None name names vars =
    ap (λ (words : List (List ℕ)). program (Barebox state a p) (codes "barebox-state" ∷ words) vars) (behind_each-get_words (name ∷ names))
    ∙ program-barebox_get state a p name names vars
printed_by state a p (Some of) name names vars =
    ap (λ (words : List (List ℕ)). program (Barebox state a p) (codes "barebox-state" ∷ codes "-n" ∷ of ∷ words) vars) (behind_each-get_words (name ∷ names))
    ∙ program-barebox_get_of state a p name names vars of

-- what is asked for is read, and `0` where it is not set
pub values_back : (state : Option (List ℕ)) (a p : ℕ) (of : Option (List ℕ)) (name : List ℕ) (names : List (List ℕ)) (vars read : Variables) → ArePlain vars
    → gotten (name ∷ names) (program (Barebox state a p) (argv (PrintState of (name ∷ names))) vars).out read ≡ Some (with_all read (value_pairs vars (name ∷ names)))
values_back state a p of name names vars read plain =
    ap (λ (e : ProgramEnd). gotten (name ∷ names) e.out read) (printed_by state a p of name names vars) ∙ gotten-value_lines (name ∷ names) vars read plain

-- the program leaves the variables
pub values_keep : (state : Option (List ℕ)) (a p : ℕ) (of : Option (List ℕ)) (name : List ℕ) (names : List (List ℕ)) (vars : Variables) → (program (Barebox state a p) (argv (PrintState of (name ∷ names))) vars).vars ≡ vars
values_keep state a p of name names vars = ap (λ (e : ProgramEnd). e.vars) (printed_by state a p of name names vars)

other_value : (vars read : Variables) (names : List (List ℕ)) (q : List ℕ) → has_word names q ≡ false → value (with_all read (value_pairs vars names)) q ≡ value read q
other_value vars read [] q h = refl
other_value vars read (name ∷ names) q h =
    let parts = or_parts (bytes_eq name q) (has_word names q) h in
    let differs : bytes_eq q name ≡ false = ⊎_elim (λ t. absurd (true≢false (sym ((bytes_eq-Decides name q).1 (sym ((bytes_eq-Decides q name).0 t))) ∙ parts.0))) (λ f. f) (cases_Bool (bytes_eq q name)) in
    other_value vars (fin.insert read name (value_text vars name)) names q parts.1
    ∙ value-insert read name (value_text vars name) q
    ∙ ap (λ (b : Bool). cond b (Some (value_text vars name)) (value read q)) differs

same_count : (o : Option (List ℕ)) → count_of (Some (unwrap_or o (codes "0"))) ≡ count_of o
same_count None = refl
same_count (Some text) = refl

-- and counts as it did
pub counts_back : (vars read : Variables) (names : List (List ℕ)) (q : List ℕ) → has_word names q ≡ true → count_of (value (with_all read (value_pairs vars names)) q) ≡ count_of (value vars q)
counts_back vars read [] q h = absurd (true≢false (sym h))
counts_back vars read (name ∷ names) q h =
    let text = value_text vars name in
    let more = fin.insert read name text in
    ⊎_elim
    (λ later. counts_back vars more names q later)
    (λ last.
    let here : bytes_eq name q ≡ true = ⊎_elim (λ t. t) (λ t. absurd (true≢false (sym t ∙ last))) (or_cases (bytes_eq name q) (has_word names q) h) in
    let same : name ≡ q = (bytes_eq-Decides name q).0 here in
    ap count_of (other_value vars more names q last ∙ value-insert read name text q ∙ ap (λ (b : Bool). cond b (Some text) (value read q)) ((bytes_eq-Decides q name).1 (sym same)))
    ∙ same_count (value vars name)
    ∙ ap (λ (x : List ℕ). count_of (value vars x)) same)
    (cases_Bool (has_word names q))

-- ---- what they tell of the names

-- to each of the names the variables mean the same
pub record IsAlike (last vars : Variables) (name : List ℕ) : Type 0 where
  pub priority : priority_of last name ≡ priority_of vars name
  pub attempts : attempts_of last name ≡ attempts_of vars name

asked : (names : List (List ℕ)) (name : List ℕ) → has_word names name ≡ true → (has_word (variables_of names) (priority_name name) ≡ true) × (has_word (variables_of names) (attempts_name name) ≡ true)
asked [] name h = absurd (true≢false (sym h))
asked (first ∷ names) name h =
    ⊎_elim
    (λ same.
    let is : first ≡ name = (bytes_eq-Decides first name).0 same in (
      or_left (bytes_eq (priority_name first) (priority_name name)) _ ((bytes_eq-Decides (priority_name first) (priority_name name)).1 (ap priority_name is)),
      or_right (bytes_eq (priority_name first) (attempts_name name)) _ (or_left (bytes_eq (attempts_name first) (attempts_name name)) _ ((bytes_eq-Decides (attempts_name first) (attempts_name name)).1 (ap attempts_name is))),
    ))
    (λ later.
    let both = asked names name later in (
      or_right (bytes_eq (priority_name first) (priority_name name)) _ (or_right (bytes_eq (attempts_name first) (priority_name name)) _ both.0),
      or_right (bytes_eq (priority_name first) (attempts_name name)) _ (or_right (bytes_eq (attempts_name first) (attempts_name name)) _ both.1),
    ))
    (or_cases (bytes_eq first name) (has_word names name) h)

pub barebox_saw : (state : Option (List ℕ)) (a p : ℕ) (of : Option (List ℕ)) (names : List (List ℕ)) (vars last : Variables) → Saw (Barebox state a p) (readings of names) vars fin.empty last
    → (name : List ℕ) → has_word names name ≡ true → IsAlike last vars name
barebox_saw state a p of [] vars last saw name has = absurd (true≢false (sym has))
barebox_saw state a p of (first ∷ names) vars last saw name has =
    ⊎_elim
    (λ shown.
    let all = variables_of (first ∷ names) in
    let is : last ≡ with_all fin.empty (value_pairs vars all) = saw.1.2 ∙ same_Some saw.0 _ (sym shown ∙ values_back state a p of (priority_name first) (attempts_name first ∷ variables_of names) vars fin.empty saw.1.0) in
    let both = asked (first ∷ names) name has in
    record {
      priority = ap (λ (v : Variables). priority_of v name) is ∙ counts_back vars fin.empty all (priority_name name) both.0;
      attempts = ap (λ (v : Variables). attempts_of v name) is ∙ counts_back vars fin.empty all (attempts_name name) both.1;
    })
    (λ unset. absurd unset.0)
    saw.1.1

pub good_alike : (last vars : Variables) (name : List ℕ) → IsAlike last vars name → barebox.is_good last name ≡ barebox.is_good vars name
good_alike last vars name alike = λ i. nat_lt 0 (alike.priority i) && nat_lt 0 (alike.attempts i)

-- all of these names
abbrev AreAlike : Variables → Variables → List (List ℕ) → Type 0
AreAlike last vars [] = Unit {0}
AreAlike last vars (name ∷ names) = IsAlike last vars name × AreAlike last vars names

each_alike : (last vars : Variables) (names : List (List ℕ)) → ((name : List ℕ) → has_word names name ≡ true → IsAlike last vars name) → AreAlike last vars names
each_alike last vars [] all = tt
each_alike last vars (name ∷ names) all = (
  all name (or_left (bytes_eq name name) (has_word names name) (bytes_eq_same name)),
  each_alike last vars names (λ other has. all other (or_right (bytes_eq name other) (has_word names other) has)),
)

-- the best so far is one of them, where there is one
abbrev IsBestAlike : Variables → Variables → Option (List ℕ) → Type 0
IsBestAlike last vars None = Unit {0}
IsBestAlike last vars (Some best) = IsAlike last vars best

better_alike : (last vars : Variables) (best : Option (List ℕ)) (name : List ℕ) → IsBestAlike last vars best → IsAlike last vars name → is_better last best name ≡ is_better vars best name
better_alike last vars None name so_far alike = good_alike last vars name alike
better_alike last vars (Some best) name so_far alike = λ i. good_alike last vars name alike i && nat_lt (so_far.priority i) (alike.priority i)

best_alike : (last vars : Variables) (best : Option (List ℕ)) (name : List ℕ) → IsBestAlike last vars best → IsAlike last vars name → IsBestAlike last vars (best_with vars best name)
best_alike last vars best name so_far alike = elim (is_better vars best name) as (λ b. IsBestAlike last vars (cond b (Some name) best)) [ true ↦ alike | false ↦ so_far ]

fold_alike : (last vars : Variables) (best : Option (List ℕ)) (names : List (List ℕ)) → IsBestAlike last vars best → AreAlike last vars names → fold (best_with last) best names ≡ fold (best_with vars) best names
fold_alike last vars best [] so_far all = refl
fold_alike last vars best (name ∷ names) so_far all =
    ap (λ (b : Bool). fold (best_with last) (cond b (Some name) best) names) (better_alike last vars best name so_far all.0)
    ∙ fold_alike last vars (best_with vars best name) names (best_alike last vars best name so_far all.0) all.1

module _ (last vars : Variables) (names : List (List ℕ)) (all : (name : List ℕ) → has_word names name ≡ true → IsAlike last vars name) where
  pub primary_alike : barebox.primary last names ≡ barebox.primary vars names
  primary_alike = fold_alike last vars None names tt (each_alike last vars names all)

  ranks_alike : (attempts name : List ℕ) (some : List (List ℕ)) → AreAlike last vars some → flat_map (rank attempts name last) some ≡ flat_map (rank attempts name vars) some
  ranks_alike attempts name [] are = refl
  ranks_alike attempts name (other ∷ some) are = λ i.
      cond (bytes_eq other name) (priority_setting (codes "20") name ∷ attempts_setting attempts name ∷ [])
      (cond (nat_lt 0 (are.0.priority i)) (priority_setting (codes "10") other ∷ []) [])
      ++ ranks_alike attempts name some are.1 i

  pub settings_alike : (a p : ℕ) (mark : Mark) (name : List ℕ) → has_word names name ≡ true → settings_of a p names mark name last ≡ settings_of a p names mark name vars
  settings_alike a p Bad name has = refl
  settings_alike a p Good name has = λ i. attempts_setting (digit_of a) name ∷ cond ((all name has).priority i == 0) (priority_setting (codes "10") name ∷ []) []
  settings_alike a p Primary name has = ranks_alike (digit_of p) name names (each_alike last vars names all)
