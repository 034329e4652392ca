-- U-Boot's variables read back.
use Rattle.std.proofs.Common.{◌≡◌, ◌≢◌, ⊎_elim, ℕ, true, false, cond, ◌&&◌, List, [], ◌∷◌, ◌++◌, append_assoc, map, Option, Some, None, codes, refl, sym, ◌∙◌, ap, subst, bytes_eq}
use Rattle.std.specs.Prelude.{find, nat_lt, unwrap_or}
use Rattle.std.specs.FinMap as fin
use Rattle.std.specs.FinMap.{get-empty}
use Rattle.std.specs.Option.{option_map, option_map_or}
use Rattle.std.proofs.lemmas.Bool.{or_cases, true≢false}
use Rattle.std.proofs.lemmas.Option.{none-some, same_Some}
use Rattle.std.proofs.lemmas.Slice.Eq.{bytes_eq-Decides}
use Rattle.boot_model.specs.Vars.{Variables}
use Rattle.boot_model.specs.declared.boot_kind.BootKind.TheVariants.{Uboot}
use Rattle.boot_state.specs.Orders.{count_of, has_word, is_blank, value, words_between}
use Rattle.boot_state.specs.Uboot as state
use Rattle.boot_state.specs.Uboot.{left_name, order_name}
use Rattle.boot_state.proofs.Values.{value-insert, value-insert_same}
use Rattle.boot_programs.specs.Ends.{printed, refused}
use Rattle.boot_programs.specs.Programs.{program}
use Rattle.boot_programs.specs.Settings.{setting_line, spelled}
use Rattle.boot_programs.specs.declared.program_end.ProgramEnd.{ProgramEnd}
use Rattle.boot_programs.proofs.Readings.{keeps_fw_printenv, program-fw_printenv}
use Rattle.boot_commands.specs.Commands.{argv}
use Rattle.boot_commands.specs.Uboot.{bad_plan, good_plan, plan, primary_plan, readings}
use Rattle.boot_commands.specs.declared.command.Command.TheVariants.{PrintVariable}
use Rattle.boot_commands.specs.declared.command.Mark.{Mark}
use Rattle.boot_commands.specs.declared.command.Mark.TheVariants.{Bad, Good, Primary}
use Rattle.boot_outputs.specs.Plain.{ArePlain, is_plain}
use Rattle.boot_outputs.specs.Saw.{Saw, Shows}
use Rattle.boot_outputs.specs.Texts.{behind}
use Rattle.boot_outputs.specs.Uboot as uboot
use Rattle.boot_outputs.proofs.Fronts.{behind-front, behind-other}
use Rattle.boot_outputs.proofs.GrubTells.{one_line}
use Rattle.boot_outputs.proofs.PrintedLines.{first_line-line}
use Rattle.boot_outputs.proofs.Gathered.{by_name, value_passes}

pub printed-setting_line : (name text : List ℕ) (read : Variables) → is_plain (name, text) ≡ true → uboot.printed name (setting_line name text) read ≡ Some (fin.insert read name text)
printed-setting_line name text read plain =
    let there : behind (name ++ codes "=") (spelled name text) ≡ Some text = subst (λ (t : List ℕ). behind (name ++ codes "=") t ≡ Some text) (append_assoc name (codes "=") text) (behind-front (name ++ codes "=") text) in
    ap (λ (t : List ℕ). option_map (λ (x : List ℕ). fin.insert read name x) (behind (name ++ codes "=") t)) (first_line-line (spelled name text) [] (one_line name text plain))
    ∙ ap (λ (o : Option (List ℕ)). option_map (λ (x : List ℕ). fin.insert read name x) o) there

-- a variable that is set is read
pub printing_back : (a p : ℕ) (name text : List ℕ) (vars read : Variables) → ArePlain vars → value vars name ≡ Some text
    → uboot.printed name (program (Uboot a p) (argv (PrintVariable name)) vars).out read ≡ Some (fin.insert read name text)
printing_back a p name text vars read plain there =
    ap (λ (e : ProgramEnd). uboot.printed name e.out read)
    (program-fw_printenv a p name vars ∙ ap (λ (o : Option (List ℕ)). option_map_or (λ t. printed vars (setting_line name t)) o (refused vars)) there)
    ∙ printed-setting_line name text read (value_passes is_plain vars name text plain.each there)

-- ---- what several of them tell

-- what was read is set so
abbrev pub AreSet : Variables → Variables → Type 0
AreSet read vars = (q text : List ℕ) → value read q ≡ Some text → value vars q ≡ Some text

nothing_read : (name : List ℕ) (read more : Variables) → uboot.printed name [] read ≡ Some more → ⊥
nothing_read name read more told =
    let none : behind (name ++ codes "=") [] ≡ None = behind-other (name ++ codes "=") [] (λ rest. not_empty name rest) in
    none-some more (sym (ap (option_map (λ (text : List ℕ). fin.insert read name text)) none) ∙ told)
  where
    not_empty : (name rest : List ℕ) → [] ≢ (name ++ codes "=") ++ rest
    not_empty [] rest e = cc
    not_empty (byte ∷ name) rest e = cc

-- after one more
pub record AfterPrint (name : List ℕ) (vars read more : Variables) : Type 0 where
  pub all_set : AreSet more vars
  pub printed : value more name ≡ value vars name
  pub others : (q : List ℕ) → value read q ≡ value vars q → value more q ≡ value vars q

module _ (a p : ℕ) (name : List ℕ) (vars read more : Variables) (plain : ArePlain vars) (set : AreSet read vars) where
  after_set : (text : List ℕ) → value vars name ≡ Some text → AfterPrint name vars read (fin.insert read name text)
  after_set text there = record {
    all_set = λ q t is.
        elim (bytes_eq q name) as (λ b. bytes_eq q name ≡ b → cond b (Some text) (value read q) ≡ Some t → value vars q ≡ Some t) [
          | true ↦ λ same e. ap (value vars) ((bytes_eq-Decides q name).0 same) ∙ there ∙ e
          | false ↦ λ other e. set q t e
        ] refl (sym (value-insert read name text q) ∙ is);
    printed = value-insert_same read name text ∙ sym there;
    others = λ q same.
        value-insert read name text q
        ∙ elim (bytes_eq q name) as (λ b. bytes_eq q name ≡ b → cond b (Some text) (value read q) ≡ value vars q) [
          | true ↦ λ is. sym there ∙ ap (value vars) (sym ((bytes_eq-Decides q name).0 is))
          | false ↦ λ other. same
        ] refl;
  }

  after_unset : value vars name ≡ None → AfterPrint name vars read read
  after_unset none = record {
    all_set = set;
    printed = by_read (value read name) refl ∙ sym none;
    others = λ q same. same;
  }
    where
      by_read : (o : Option (List ℕ)) → value read name ≡ o → value read name ≡ None
      by_read None e = e
      by_read (Some text) e = absurd (none-some text (sym none ∙ set name text e))

  pub after_print : Shows (Uboot a p) (PrintVariable name) vars read more → AfterPrint name vars read more
  after_print shows = by_value (value vars name) refl
    where
      by_value : (o : Option (List ℕ)) → value vars name ≡ o → AfterPrint name vars read more
      by_value None none =
          ⊎_elim
          (λ told. absurd (nothing_read name read more (sym (ap (λ (e : ProgramEnd). uboot.printed name e.out read) (program-fw_printenv a p name vars ∙ ap (λ (o : Option (List ℕ)). option_map_or (λ t. printed vars (setting_line name t)) o (refused vars)) none)) ∙ told)))
          (λ unset. subst (λ (v : Variables). AfterPrint name vars read v) (sym unset.1) (after_unset none))
          shows
      by_value (Some text) there =
          ⊎_elim
          (λ told. subst (λ (v : Variables). AfterPrint name vars read v) (same_Some _ more (sym (printing_back a p name text vars read plain there) ∙ told)) (after_set text there))
          (λ unset. absurd (none-some text (sym unset.0 ∙ there)))
          shows

-- after all of them each variable that was asked for is read as it is
pub record AfterPrints (f : List ℕ → List ℕ) (names : List (List ℕ)) (vars read last : Variables) : Type 0 where
  pub printed : (name : List ℕ) → has_word names name ≡ true → value last (f name) ≡ value vars (f name)
  pub others : (q : List ℕ) → value read q ≡ value vars q → value last q ≡ value vars q

pub after_prints : (a p : ℕ) (f : List ℕ → List ℕ) (names : List (List ℕ)) (vars read last : Variables) → AreSet read vars → Saw (Uboot a p) (map (λ name. PrintVariable (f name)) names) vars read last → AfterPrints f names vars read last
after_prints a p f [] vars read last set saw = record {
  printed = λ name has. absurd (true≢false (sym has));
  others = λ q same. ap (λ (v : Variables). value v q) saw ∙ same;
}
after_prints a p f (first ∷ names) vars read last set saw =
    let one = after_print a p (f first) vars read saw.0 saw.1.0 set saw.1.1 in
    let rest = subst (λ (v : Variables). Saw (Uboot a p) (map (λ name. PrintVariable (f name)) names) v saw.0 last) (keeps_fw_printenv a p (f first) vars) saw.1.2 in
    let more = after_prints a p f names vars saw.0 last one.all_set rest in
    record {
      printed = λ name has. ⊎_elim
          (λ same. let is : first ≡ name = (bytes_eq-Decides first name).0 same in subst (λ (n : List ℕ). value last (f n) ≡ value vars (f n)) is (more.others (f first) one.printed))
          (λ later. more.printed name later)
          (or_cases (bytes_eq first name) (has_word names name) has);
      others = λ q same. more.others q (one.others q same);
    }

-- ---- what they tell of the names

none_set : (vars : Variables) → AreSet fin.empty vars
none_set vars q text is = absurd (none-some text (sym (get-empty by_name q) ∙ is))

pub looks_saw : (a p : ℕ) (vars last : Variables) → Saw (Uboot a p) (PrintVariable order_name ∷ []) vars fin.empty last → value last order_name ≡ value vars order_name
looks_saw a p vars last saw =
    ap (λ (v : Variables). value v order_name) saw.1.2 ∙ (after_print a p order_name vars fin.empty saw.0 saw.1.0 (none_set vars) saw.1.1).printed

-- the order and the attempts of each name are as they were
pub record AfterReadings (names : List (List ℕ)) (vars last : Variables) : Type 0 where
  pub order : value last order_name ≡ value vars order_name
  pub attempts : (name : List ℕ) → has_word names name ≡ true → value last (left_name name) ≡ value vars (left_name name)

pub uboot_saw : (a p : ℕ) (names : List (List ℕ)) (vars last : Variables) → Saw (Uboot a p) (readings names) vars fin.empty last → AfterReadings names vars last
uboot_saw a p names vars last saw =
    let one = after_print a p order_name vars fin.empty saw.0 saw.1.0 (none_set vars) saw.1.1 in
    let rest = subst (λ (v : Variables). Saw (Uboot a p) (map (λ name. PrintVariable (left_name name)) names) v saw.0 last) (keeps_fw_printenv a p order_name vars) saw.1.2 in
    let more = after_prints a p left_name names vars saw.0 last one.all_set rest in
    record { order = more.others order_name one.printed; attempts = more.printed }

module _ (names : List (List ℕ)) (vars last : Variables) (after : AfterReadings names vars last) where
  pub good_alike : (name : List ℕ) → has_word names name ≡ true → state.is_good last name ≡ state.is_good vars name
  good_alike name has = λ i. nat_lt 0 (count_of (after.attempts name has i)) && has_word (words_between is_blank (unwrap_or (after.order i) [])) name

  good_name : (word : List ℕ) → (has_word names word && state.is_good last word) ≡ (has_word names word && state.is_good vars word)
  good_name word =
      elim (has_word names word) as (λ b. has_word names word ≡ b → (b && state.is_good last word) ≡ (b && state.is_good vars word)) [
        | true ↦ λ has. good_alike word has
        | false ↦ λ has. refl
      ] refl

  pub primary_alike : state.primary last names ≡ state.primary vars names
  primary_alike = λ i. find (λ word. good_name word i) (words_between is_blank (unwrap_or (after.order i) []))

-- a mark looks at the order alone
pub plan_alike : (a p : ℕ) (names : List (List ℕ)) (mark : Mark) (name : List ℕ) (vars last : Variables) → value last order_name ≡ value vars order_name → plan a p names mark name last ≡ plan a p names mark name vars
plan_alike a p names Bad name vars last same = ap (λ (o : Option (List ℕ)). bad_plan name (words_between is_blank (unwrap_or o []))) same
plan_alike a p names Good name vars last same = ap (λ (o : Option (List ℕ)). good_plan a name (words_between is_blank (unwrap_or o []))) same
plan_alike a p names Primary name vars last same = ap (λ (o : Option (List ℕ)). primary_plan p names name (words_between is_blank (unwrap_or o []))) same
