-- What reads the variables of the configured boot loader leaves those of the machine, whatever boot loader that has.
use Rattle.std.proofs.Common.{◌≡◌, ℕ, Bool, true, false, cond, List, [], ◌∷◌, ◌++◌, map, Option, Some, None, IsTrue, codes, refl, sym, ◌∙◌, ap, subst, bytes_eq}
use Rattle.std.specs.List.{AllByRecursion}
use Rattle.std.proofs.lemmas.Bool.{true≢false}
use Rattle.boot_model.specs.Vars.{Variables}
use Rattle.boot_model.specs.declared.boot_kind.BootKind.{BootKind}
use Rattle.boot_model.specs.declared.boot_kind.BootKind.TheVariants as boot
use Rattle.boot_state.specs.Uboot.{left_name, order_name}
use Rattle.boot_state.proofs.Lookups.{bytes_eq_other}
use Rattle.boot_programs.specs.declared.program_end.ProgramEnd.{ProgramEnd}
use Rattle.boot_programs.specs.Custom.{on_name}
use Rattle.boot_programs.specs.Ends.{refused}
use Rattle.boot_programs.specs.Programs.{program}
use Rattle.boot_programs.proofs.Readings.{keeps_barebox_get, keeps_barebox_get_of, keeps_get_primary, keeps_get_state, keeps_grub_list}
use Rattle.boot_commands.specs.Barebox.{variables_of}
use Rattle.boot_commands.specs.declared.command.Command.{Command}
use Rattle.boot_commands.specs.declared.command.Command.TheVariants as command
use Rattle.boot_commands.specs.Commands.{argv, behind_each}
use Rattle.boot_commands.specs.Effects.{vars_after}
use Rattle.boot_commands.specs.Plans.{readings}
use Rattle.conf_forms.specs.Forms.{is_path}
use Rattle.system_conf.specs.Formed.{is_boot_formed}
use Rattle.boot_backends.proofs.Worlds.{print_keeps}

-- a path differs from a word that is no path
path_differs : (path word : List ℕ) → is_path path ≡ true → is_path word ≡ false → bytes_eq path word ≡ false
path_differs path word is no_path = bytes_eq_other path word (λ same. true≢false (sym is ∙ ap is_path same ∙ no_path))

-- what leaves the variables under a program's own name leaves them under any: under another name it is refused
named_keeps : (named : Bool) (vars : Variables) (end : ProgramEnd) → end.vars ≡ vars → (cond named end (refused vars)).vars ≡ vars
named_keeps true vars end keeps = keeps
named_keeps false vars end keeps = refl

-- ---- each command that reads

-- the command leaves the variables of the machine's boot loader, whatever they are
abbrev Keeps : BootKind → Command → Type 0
Keeps machine c = (vars : Variables) → (program machine (argv c) vars).vars ≡ vars

-- a program of the system's own takes the file for a verb, and a path is none of its verbs
list_keeps : (machine : BootKind) (file : List ℕ) → is_path file ≡ true → Keeps machine (command.ListVariables file)
list_keeps (boot.Grub other) file is vars = keeps_grub_list other file vars
list_keeps (boot.Uboot a p) file is vars = refl
list_keeps (boot.Barebox state a p) file is vars = refl
list_keeps (boot.Efi use_next) file is vars = refl
list_keeps (boot.Custom path) file is vars =
    named_keeps (bytes_eq (codes "grub-editenv") path) vars (on_name file (codes "list") vars)
    (rw (path_differs file (codes "get-state") is refl, path_differs file (codes "set-primary") is refl) refl)
list_keeps boot.Noop file is vars = refl

state_keeps : (machine : BootKind) (state : Option (List ℕ)) (one other : List ℕ) (more : List (List ℕ)) → Keeps machine (command.PrintState state (one ∷ other ∷ more))
state_keeps (boot.Grub file) state one other more vars = refl
state_keeps (boot.Uboot a p) state one other more vars = refl
state_keeps (boot.Barebox own a p) None one other more vars = keeps_barebox_get own a p (one ∷ behind_each (codes "-g") (other ∷ more)) vars
state_keeps (boot.Barebox own a p) (Some of) one other more vars = keeps_barebox_get_of own a p of (one ∷ behind_each (codes "-g") (other ∷ more)) vars
state_keeps (boot.Efi use_next) state one other more vars = refl
state_keeps (boot.Custom path) None one other more vars = named_keeps (bytes_eq (codes "barebox-state") path) vars (refused vars) refl
state_keeps (boot.Custom path) (Some of) one other more vars = named_keeps (bytes_eq (codes "barebox-state") path) vars (refused vars) refl
state_keeps boot.Noop state one other more vars = refl

entries_keep : (machine : BootKind) → Keeps machine command.ListEntries
entries_keep (boot.Grub file) vars = refl
entries_keep (boot.Uboot a p) vars = refl
entries_keep (boot.Barebox state a p) vars = refl
entries_keep (boot.Efi use_next) vars = refl
entries_keep (boot.Custom path) vars = named_keeps (bytes_eq (codes "efibootmgr") path) vars (refused vars) refl
entries_keep boot.Noop vars = refl

-- a path is the name of no program but one of the system's own
own_keeps : (machine : BootKind) (path : List ℕ) (words : List (List ℕ)) (vars : Variables) → is_path path ≡ true → ((own : List ℕ) → (program (boot.Custom own) (path ∷ words) vars).vars ≡ vars) → (program machine (path ∷ words) vars).vars ≡ vars
own_keeps (boot.Grub file) path words vars is keeps = rw (path_differs path (codes "grub-editenv") is refl) refl
own_keeps (boot.Uboot a p) path words vars is keeps = rw (path_differs path (codes "fw_printenv") is refl, path_differs path (codes "fw_setenv") is refl) refl
own_keeps (boot.Barebox state a p) path words vars is keeps = rw (path_differs path (codes "barebox-state") is refl) refl
own_keeps (boot.Efi use_next) path words vars is keeps = rw (path_differs path (codes "efibootmgr") is refl) refl
own_keeps (boot.Custom own) path words vars is keeps = keeps own
own_keeps boot.Noop path words vars is keeps = refl

primary_keeps : (machine : BootKind) (path : List ℕ) → is_path path ≡ true → Keeps machine (command.GetPrimary path)
primary_keeps machine path is vars = own_keeps machine path (codes "get-primary" ∷ []) vars is (λ own. keeps_get_primary own path vars)

name_keeps : (machine : BootKind) (path name : List ℕ) → is_path path ≡ true → Keeps machine (command.GetState path name)
name_keeps machine path name is vars = own_keeps machine path (codes "get-state" ∷ name ∷ []) vars is (λ own. keeps_get_state own path name vars)

-- ---- all of them

names_keep : (machine : BootKind) (asks : List ℕ → Command) → ((name : List ℕ) → Keeps machine (asks name)) → (names : List (List ℕ)) → AllByRecursion (Keeps machine) (map asks names)
names_keep machine asks keeps [] = tt
names_keep machine asks keeps (name ∷ names) = (keeps name, names_keep machine asks keeps names)

each_keeps : (machine kind : BootKind) (names : List (List ℕ)) → IsTrue (is_boot_formed kind) → AllByRecursion (Keeps machine) (readings kind names)
each_keeps machine (boot.Grub file) names formed = (list_keeps machine file formed, tt)
each_keeps machine (boot.Uboot a p) names formed =
    (print_keeps machine order_name, names_keep machine (λ name. command.PrintVariable (left_name name)) (λ name. print_keeps machine (left_name name)) names)
each_keeps machine (boot.Barebox state a p) [] formed = tt
each_keeps machine (boot.Barebox state a p) (name ∷ names) formed = (state_keeps machine state _ _ (variables_of names), tt)
each_keeps machine (boot.Efi use_next) names formed = (entries_keep machine, tt)
each_keeps machine (boot.Custom path) names formed =
    (primary_keeps machine path formed, names_keep machine (λ name. command.GetState path name) (λ name. name_keeps machine path name formed) names)
each_keeps machine boot.Noop names formed = tt

first_keep : (machine : BootKind) (done left : List Command) (vars : Variables) → AllByRecursion (Keeps machine) (done ++ left) → vars_after machine done vars ≡ vars
first_keep machine [] left vars keep = refl
first_keep machine (c ∷ done) left vars keep = first_keep machine done left (program machine (argv c) vars).vars keep.1 ∙ keep.0 vars

-- the first of the commands that read leave the variables of the machine, whose boot loader need not be the configured one
pub any_reading_keeps : (machine kind : BootKind) (names : List (List ℕ)) (vars : Variables) (done left : List Command) → IsTrue (is_boot_formed kind) → readings kind names ≡ done ++ left → vars_after machine done vars ≡ vars
any_reading_keeps machine kind names vars done left formed e =
    first_keep machine done left vars (subst (AllByRecursion (Keeps machine)) e (each_keeps machine kind names formed))
