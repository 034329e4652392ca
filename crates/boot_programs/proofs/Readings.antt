-- The programs that only read: what they print, and that they leave the variables, also where they are refused.
use Rattle.std.proofs.Common.{◌≡◌, ℕ, ◌&&◌, Bool, true, false, cond, List, [], ◌∷◌, ◌++◌, Option, Some, None, codes, refl, ap, bytes_eq}
use Rattle.std.specs.Option.{option_map, option_map_or}
use Rattle.std.specs.List.{flat_map}
use Rattle.std.specs.FinMap.{entries, get}
use Rattle.boot_model.specs.declared.boot_kind.BootKind.TheVariants.{Grub, Uboot, Barebox, Efi, Custom}
use Rattle.boot_model.specs.Vars.{Variables}
use Rattle.boot_programs.specs.declared.program_end.ProgramEnd.{ProgramEnd}
use Rattle.boot_programs.specs.Ends.{refused, printed, printed_if}
use Rattle.boot_programs.specs.Settings.{setting_line}
use Rattle.boot_programs.specs.Grub.{listing}
use Rattle.boot_programs.specs.Barebox.{operands, value_line}
use Rattle.boot_programs.specs.Efi.{efi_listing}
use Rattle.boot_programs.specs.Custom.{primary_text, state_text}
use Rattle.boot_programs.specs.Programs.{program}
use Rattle.boot_programs.proofs.Spellings.{bytes_eq_same}

-- a choice between two ends that leave the variables
keeps_both : (b : Bool) (vars : Variables) (one other : ProgramEnd) → one.vars ≡ vars → other.vars ≡ vars → (cond b one other).vars ≡ vars
keeps_both true vars one other p q = p
keeps_both false vars one other p q = q

keeps_printed : (vars : Variables) (out : Option (List ℕ)) → (printed_if vars out).vars ≡ vars
keeps_printed vars None = refl
keeps_printed vars (Some text) = refl

-- GRUB
pub program-grub_list : (file : List ℕ) (vars : Variables) → program (Grub file) (codes "grub-editenv" ∷ file ∷ codes "list" ∷ []) vars ≡ printed vars (listing (entries vars))
program-grub_list file vars = ap (λ (b : Bool). cond (b && true) (printed vars (listing (entries vars))) (refused vars)) (bytes_eq_same file)

pub keeps_grub_list : (file block : List ℕ) (vars : Variables) → (program (Grub file) (codes "grub-editenv" ∷ block ∷ codes "list" ∷ []) vars).vars ≡ vars
keeps_grub_list file block vars = keeps_both (bytes_eq block file && true) vars (printed vars (listing (entries vars))) (refused vars) refl refl

-- U-Boot
pub program-fw_printenv : (a p : ℕ) (name : List ℕ) (vars : Variables) → program (Uboot a p) (codes "fw_printenv" ∷ name ∷ []) vars ≡ option_map_or (λ text. printed vars (setting_line name text)) (get vars name) (refused vars)
program-fw_printenv a p name vars = elim (get vars name) as (λ (o : Option (List ℕ)). printed_if vars (option_map (λ text. setting_line name text) o) ≡ option_map_or (λ text. printed vars (setting_line name text)) o (refused vars)) [ None ↦ refl | Some text ↦ refl ]

pub keeps_fw_printenv : (a p : ℕ) (name : List ℕ) (vars : Variables) → (program (Uboot a p) (codes "fw_printenv" ∷ name ∷ []) vars).vars ≡ vars
keeps_fw_printenv a p name vars = keeps_printed vars (option_map (λ text. setting_line name text) (get vars name))

-- a backend of the system's own
pub program-get_primary : (path : List ℕ) (vars : Variables) → program (Custom path) (path ∷ codes "get-primary" ∷ []) vars ≡ printed vars (primary_text vars ++ 10 ∷ [])
program-get_primary path vars = ap (λ (b : Bool). cond b (printed vars (primary_text vars ++ 10 ∷ [])) (refused vars)) (bytes_eq_same path)

pub keeps_get_primary : (path tool : List ℕ) (vars : Variables) → (program (Custom path) (tool ∷ codes "get-primary" ∷ []) vars).vars ≡ vars
keeps_get_primary path tool vars = keeps_both (bytes_eq tool path) vars (printed vars (primary_text vars ++ 10 ∷ [])) (refused vars) refl refl

pub program-get_state : (path name : List ℕ) (vars : Variables) → program (Custom path) (path ∷ codes "get-state" ∷ name ∷ []) vars ≡ printed vars (state_text vars name ++ 10 ∷ [])
program-get_state path name vars = ap (λ (b : Bool). cond b (printed vars (state_text vars name ++ 10 ∷ [])) (refused vars)) (bytes_eq_same path)

pub keeps_get_state : (path tool name : List ℕ) (vars : Variables) → (program (Custom path) (tool ∷ codes "get-state" ∷ name ∷ []) vars).vars ≡ vars
keeps_get_state path tool name vars = keeps_both (bytes_eq tool path) vars (printed vars (state_text vars name ++ 10 ∷ [])) (refused vars) refl refl

-- EFI
pub program-efi_list : (use_next : Bool) (vars : Variables) → program (Efi use_next) (codes "efibootmgr" ∷ []) vars ≡ printed vars (efi_listing vars)
program-efi_list use_next vars = refl

-- barebox: `-g` before each name
abbrev pub get_words : List (List ℕ) → List (List ℕ)
get_words [] = []
get_words (name ∷ names) = codes "-g" ∷ name ∷ get_words names

pub operands-get_words : (names : List (List ℕ)) → operands (codes "-g") (get_words names) ≡ Some names
operands-get_words [] = refl
operands-get_words (name ∷ names) = ap (option_map (λ (rest : List (List ℕ)). name ∷ rest)) (operands-get_words names)

module _ (state : Option (List ℕ)) (a p : ℕ) (name : List ℕ) (names : List (List ℕ)) (vars : Variables) where
  pub program-barebox_get : program (Barebox state a p) (codes "barebox-state" ∷ get_words (name ∷ names)) vars ≡ printed vars (flat_map (value_line vars) (name ∷ names))
  program-barebox_get = ap (λ (o : Option (List (List ℕ))). printed_if vars (option_map (λ (found : List (List ℕ)). flat_map (value_line vars) found) o)) (operands-get_words (name ∷ names))

  pub program-barebox_get_of : (of : List ℕ) → program (Barebox state a p) (codes "barebox-state" ∷ codes "-n" ∷ of ∷ get_words (name ∷ names)) vars ≡ printed vars (flat_map (value_line vars) (name ∷ names))
  program-barebox_get_of of = ap (λ (o : Option (List (List ℕ))). printed_if vars (option_map (λ (found : List (List ℕ)). flat_map (value_line vars) found) o)) (operands-get_words (name ∷ names))

pub keeps_barebox_get : (state : Option (List ℕ)) (a p : ℕ) (words : List (List ℕ)) (vars : Variables) → (program (Barebox state a p) (codes "barebox-state" ∷ codes "-g" ∷ words) vars).vars ≡ vars
keeps_barebox_get state a p [] vars = refl
keeps_barebox_get state a p (word ∷ words) vars = keeps_printed vars (option_map (λ (found : List (List ℕ)). flat_map (value_line vars) found) (operands (codes "-g") (codes "-g" ∷ word ∷ words)))

pub keeps_barebox_get_of : (state : Option (List ℕ)) (a p : ℕ) (of : List ℕ) (words : List (List ℕ)) (vars : Variables) → (program (Barebox state a p) (codes "barebox-state" ∷ codes "-n" ∷ of ∷ codes "-g" ∷ words) vars).vars ≡ vars
keeps_barebox_get_of state a p of words vars = keeps_printed vars (option_map (λ (found : List (List ℕ)). flat_map (value_line vars) found) (operands (codes "-g") (codes "-g" ∷ words)))
