-- The programs that write: they print nothing, and leave exactly the variables with these ones set or taken away.
use Rattle.std.proofs.Common.{◌≡◌, ℕ, ◌&&◌, Bool, true, false, cond, List, [], ◌∷◌, Option, Some, codes, refl, ◌∙◌, ap}
use Rattle.std.specs.Option.{option_map, option_and_then}
use Rattle.std.specs.FinMap.{insert, remove}
use Rattle.boot_model.specs.declared.boot_kind.BootKind.TheVariants.{Grub, Uboot, Barebox, Efi, Custom}
use Rattle.boot_model.specs.Vars.{Variables}
use Rattle.boot_programs.specs.Ends.{refused, changed, changed_if}
use Rattle.boot_programs.specs.Settings.{spelled, with_settings}
use Rattle.boot_programs.specs.Barebox.{operands}
use Rattle.boot_state.specs.Custom.{made_primary, state_name}
use Rattle.boot_programs.specs.Programs.{program}
use Rattle.boot_programs.proofs.Spellings.{bytes_eq_same, Pairs, AreNamed, has_sign, spellings, with_pairs, with_settings-spellings}

-- GRUB: one setting or more
pub program-grub_set : (file : List ℕ) (first : List ℕ × List ℕ) (pairs : Pairs) (vars : Variables) → AreNamed (first ∷ pairs)
    → program (Grub file) (codes "grub-editenv" ∷ file ∷ codes "set" ∷ spellings (first ∷ pairs)) vars ≡ changed (with_pairs vars (first ∷ pairs))
program-grub_set file first pairs vars named =
    ap (λ (b : Bool). cond (b && true) (changed_if vars (with_settings vars (spellings (first ∷ pairs)))) (refused vars)) (bytes_eq_same file)
    ∙ ap (λ (o : Option Variables). changed_if vars o) (with_settings-spellings vars (first ∷ pairs) named)

pub program-grub_set_one : (file name text : List ℕ) (vars : Variables) → has_sign name ≡ false
    → program (Grub file) (codes "grub-editenv" ∷ file ∷ codes "set" ∷ spelled name text ∷ []) vars ≡ changed (insert vars name text)
program-grub_set_one file name text vars named = program-grub_set file (name, text) [] vars (named, tt)

pub program-grub_set_two : (file name text other more : List ℕ) (vars : Variables) → has_sign name ≡ false → has_sign other ≡ false
    → program (Grub file) (codes "grub-editenv" ∷ file ∷ codes "set" ∷ spelled name text ∷ spelled other more ∷ []) vars ≡ changed (insert (insert vars name text) other more)
program-grub_set_two file name text other more vars named also = program-grub_set file (name, text) ((other, more) ∷ []) vars (named, (also, tt))

-- U-Boot
pub program-fw_setenv : (a p : ℕ) (name : List ℕ) (b : ℕ) (bs : List ℕ) (vars : Variables) → program (Uboot a p) (codes "fw_setenv" ∷ name ∷ (b ∷ bs) ∷ []) vars ≡ changed (insert vars name (b ∷ bs))
program-fw_setenv a p name b bs vars = refl

pub program-fw_setenv_empty : (a p : ℕ) (name : List ℕ) (vars : Variables) → program (Uboot a p) (codes "fw_setenv" ∷ name ∷ [] ∷ []) vars ≡ changed (remove vars name)
program-fw_setenv_empty a p name vars = refl

-- a backend of the system's own
pub program-set_state : (path name state : List ℕ) (vars : Variables) → program (Custom path) (path ∷ codes "set-state" ∷ name ∷ state ∷ []) vars ≡ changed (insert vars (state_name name) state)
program-set_state path name state vars = ap (λ (b : Bool). cond b (changed (insert vars (state_name name) state)) (refused vars)) (bytes_eq_same path)

pub program-set_primary : (path name : List ℕ) (vars : Variables) → program (Custom path) (path ∷ codes "set-primary" ∷ name ∷ []) vars ≡ changed (insert (insert vars (codes "primary") name) (state_name name) (codes "good"))
program-set_primary path name vars = ap (λ (b : Bool). cond b (changed (made_primary name vars)) (refused vars)) (bytes_eq_same path)

-- EFI
module _ (use_next : Bool) (text : List ℕ) (vars : Variables) where
  pub program-efi_next : program (Efi use_next) (codes "efibootmgr" ∷ codes "-n" ∷ text ∷ []) vars ≡ changed (insert vars (codes "BootNext") text)
  program-efi_next = refl

  pub program-efi_order : program (Efi use_next) (codes "efibootmgr" ∷ codes "-o" ∷ text ∷ []) vars ≡ changed (insert vars (codes "BootOrder") text)
  program-efi_order = refl

pub program-efi_no_next : (use_next : Bool) (vars : Variables) → program (Efi use_next) (codes "efibootmgr" ∷ codes "-N" ∷ []) vars ≡ changed (remove vars (codes "BootNext"))
program-efi_no_next use_next vars = refl

pub program-efi_no_order : (use_next : Bool) (vars : Variables) → program (Efi use_next) (codes "efibootmgr" ∷ codes "-O" ∷ []) vars ≡ changed (remove vars (codes "BootOrder"))
program-efi_no_order use_next vars = refl

-- barebox: `-s` before each setting
abbrev pub set_words : Pairs → List (List ℕ)
set_words [] = []
set_words (pair ∷ pairs) = codes "-s" ∷ spelled pair.0 pair.1 ∷ set_words pairs

operands-set_words : (pairs : Pairs) → operands (codes "-s") (set_words pairs) ≡ Some (spellings pairs)
operands-set_words [] = refl
operands-set_words (pair ∷ pairs) = ap (option_map (λ (rest : List (List ℕ)). spelled pair.0 pair.1 ∷ rest)) (operands-set_words pairs)

module _ (state : Option (List ℕ)) (a p : ℕ) (first : List ℕ × List ℕ) (pairs : Pairs) (vars : Variables) (named : AreNamed (first ∷ pairs)) where
  all_set : changed_if vars (option_and_then (λ settings. with_settings vars settings) (operands (codes "-s") (set_words (first ∷ pairs)))) ≡ changed (with_pairs vars (first ∷ pairs))
  all_set =
      ap (λ (o : Option (List (List ℕ))). changed_if vars (option_and_then (λ settings. with_settings vars settings) o)) (operands-set_words (first ∷ pairs))
      ∙ ap (λ (o : Option Variables). changed_if vars o) (with_settings-spellings vars (first ∷ pairs) named)

  pub program-barebox_set : program (Barebox state a p) (codes "barebox-state" ∷ set_words (first ∷ pairs)) vars ≡ changed (with_pairs vars (first ∷ pairs))
  program-barebox_set = all_set

  pub program-barebox_set_of : (of : List ℕ) → program (Barebox state a p) (codes "barebox-state" ∷ codes "-n" ∷ of ∷ set_words (first ∷ pairs)) vars ≡ changed (with_pairs vars (first ∷ pairs))
  program-barebox_set_of of = all_set
