-- GRUB's list reads back.
use Rattle.std.proofs.Common.{◌≡◌, ⊎_elim, ℕ, ◌==◌, true, ◌&&◌, List, [], ◌∷◌, map, Option, Some, refl, sym, ◌∙◌, ap}
use Rattle.std.specs.FinMap as fin
use Rattle.std.specs.FinMap.{entries}
use Rattle.std.specs.List.{cons_option, filter_map, list_all, list_any}
use Rattle.std.proofs.lemmas.Bool.{and_from, and_parts, not-true, not_from_false, or_from}
use Rattle.std.proofs.lemmas.List.Folds.{list_any-append}
use Rattle.std.proofs.lemmas.Option.{same_Some}
use Rattle.boot_model.specs.Vars.{Variables}
use Rattle.boot_model.specs.declared.boot_kind.BootKind.TheVariants.{Grub}
use Rattle.boot_programs.specs.Grub.{listing}
use Rattle.boot_programs.specs.Programs.{program}
use Rattle.boot_programs.specs.Settings.{setting, spelled}
use Rattle.boot_programs.specs.declared.program_end.ProgramEnd.{ProgramEnd}
use Rattle.boot_programs.proofs.Readings.{program-grub_list}
use Rattle.boot_programs.proofs.Spellings.{setting-spelled}
use Rattle.boot_commands.specs.Commands.{argv}
use Rattle.boot_commands.specs.declared.command.Command.TheVariants.{ListVariables}
use Rattle.boot_outputs.specs.Grub.{listed}
use Rattle.boot_outputs.specs.Plain.{ArePlain, is_plain, lacks}
use Rattle.boot_outputs.specs.Saw.{Saw}
use Rattle.boot_outputs.specs.Texts.{with_all}
use Rattle.boot_outputs.proofs.PrintedLines.{lines_of-flat_map}
use Rattle.boot_outputs.proofs.Gathered.{Pairs, with_all-entries}

-- a line of a list
abbrev line_of : List ℕ × List ℕ → List ℕ
line_of e = spelled e.0 e.1

-- a plain variable stands on one line
pub one_line : (name text : List ℕ) → is_plain (name, text) ≡ true → lacks 10 (spelled name text) ≡ true
one_line name text h =
    let parts = and_parts (lacks 61 name && lacks 10 name) (lacks 10 text) h in
    let names = and_parts (lacks 61 name) (lacks 10 name) parts.0 in
    not_from_false _ (list_any-append (λ b. b == 10) name (61 ∷ text)
    ∙ or_from (list_any (λ b. b == 10) name) (list_any (λ b. b == 10) text) (not-true (list_any (λ b. b == 10) name) names.1) (not-true (list_any (λ b. b == 10) text) parts.1))

all_lines : (es : Pairs) → list_all is_plain es ≡ true → list_all (λ e. lacks 10 (line_of e)) es ≡ true
all_lines [] h = refl
all_lines (e ∷ es) h =
    let parts = and_parts (is_plain e) (list_all is_plain es) h in
    and_from (lacks 10 (line_of e)) (list_all (λ e. lacks 10 (line_of e)) es) (one_line e.0 e.1 parts.0) (all_lines es parts.1)

all_read : (es : Pairs) → list_all is_plain es ≡ true → filter_map setting (map line_of es) ≡ es
all_read [] h = refl
all_read (e ∷ es) h =
    let parts = and_parts (is_plain e) (list_all is_plain es) h in
    let name = and_parts (lacks 61 e.0) (lacks 10 e.0) (and_parts (lacks 61 e.0 && lacks 10 e.0) (lacks 10 e.1) parts.0).0 in
    ap (λ (o : Option (List ℕ × List ℕ)). cons_option o (filter_map setting (map line_of es))) (setting-spelled e.0 e.1 (not-true (list_any (λ b. b == 61) e.0) name.0))
    ∙ ap (λ (ps : Pairs). e ∷ ps) (all_read es parts.1)

pub listed-listing : (es : Pairs) (read : Variables) → list_all is_plain es ≡ true → listed (listing es) read ≡ Some (with_all read es)
listed-listing es read h =
    ap (λ (ls : List (List ℕ)). Some (with_all read (filter_map setting ls))) (lines_of-flat_map line_of es (all_lines es h))
    ∙ ap (λ (ps : Pairs). Some (with_all read ps)) (all_read es h)

-- so all variables are read, and no other
pub listing_back : (file : List ℕ) (vars : Variables) → ArePlain vars → listed (program (Grub file) (argv (ListVariables file)) vars).out fin.empty ≡ Some vars
listing_back file vars plain =
    ap (λ (e : ProgramEnd). listed e.out fin.empty) (program-grub_list file vars)
    ∙ listed-listing (entries vars) fin.empty plain.each
    ∙ ap (λ (v : Variables). Some v) (with_all-entries vars)

pub grub_saw : (file : List ℕ) (vars last : Variables) → Saw (Grub file) (ListVariables file ∷ []) vars fin.empty last → last ≡ vars
grub_saw file vars last saw =
    ⊎_elim
    (λ shown. saw.1.2 ∙ same_Some saw.0 vars (sym shown ∙ listing_back file vars saw.1.0))
    (λ unset. absurd unset.0)
    saw.1.1
