-- The words of the commands that read and change boot variables.
use Rattle.std.specs.Prelude.{ℕ, List, [], ◌∷◌, ◌++◌, codes, map, Option, Some, None}
use Rattle.std.specs.List.{flat_map}
use Rattle.boot_programs.specs.Settings.{spelled}
use Rattle.boot_commands.specs.declared.command.Setting.{Setting}
use Rattle.boot_commands.specs.declared.command.Command.{Command}
use Rattle.boot_commands.specs.declared.command.Command.TheVariants as command

-- each setting as `name=value`
abbrev pub spellings : List Setting → List (List ℕ)
spellings settings = map (λ s. spelled s.name s.value) settings

-- each word behind the same option
abbrev pub behind_each : List ℕ → List (List ℕ) → List (List ℕ)
behind_each option words = flat_map (λ word. option ∷ word ∷ []) words

-- the state of barebox, where it has a name
abbrev pub state_words : Option (List ℕ) → List (List ℕ)
state_words None = []
state_words (Some state) = codes "-n" ∷ state ∷ []

-- what `barebox-state` is asked for
abbrev pub print_words : Option (List ℕ) → List (List ℕ) → List (List ℕ)
print_words state names = state_words state ++ behind_each (codes "-g") names

-- what it is to set
abbrev pub store_words : Option (List ℕ) → List Setting → List (List ℕ)
store_words state settings = state_words state ++ behind_each (codes "-s") (spellings settings)

-- the name of the program
abbrev pub program_of : Command → List ℕ
program_of (command.ListVariables file) = codes "grub-editenv"
program_of (command.SetVariables file settings) = codes "grub-editenv"
program_of (command.PrintVariable name) = codes "fw_printenv"
program_of (command.StoreVariable name text) = codes "fw_setenv"
program_of (command.PrintState state names) = codes "barebox-state"
program_of (command.StoreState state settings) = codes "barebox-state"
program_of command.ListEntries = codes "efibootmgr"
program_of (command.SetNext number) = codes "efibootmgr"
program_of command.RemoveNext = codes "efibootmgr"
program_of (command.SetOrder order) = codes "efibootmgr"
program_of command.RemoveOrder = codes "efibootmgr"
program_of (command.GetPrimary program) = program
program_of (command.GetState program name) = program
program_of (command.SetState program name state) = program
program_of (command.SetPrimary program name) = program

-- the words after it
abbrev pub arguments_of : Command → List (List ℕ)
arguments_of (command.ListVariables file) = file ∷ codes "list" ∷ []
arguments_of (command.SetVariables file settings) = file ∷ codes "set" ∷ spellings settings
arguments_of (command.PrintVariable name) = name ∷ []
arguments_of (command.StoreVariable name text) = name ∷ text ∷ []
arguments_of (command.PrintState state names) = print_words state names
arguments_of (command.StoreState state settings) = store_words state settings
arguments_of command.ListEntries = []
arguments_of (command.SetNext number) = codes "-n" ∷ number ∷ []
arguments_of command.RemoveNext = codes "-N" ∷ []
arguments_of (command.SetOrder order) = codes "-o" ∷ order ∷ []
arguments_of command.RemoveOrder = codes "-O" ∷ []
arguments_of (command.GetPrimary program) = codes "get-primary" ∷ []
arguments_of (command.GetState program name) = codes "get-state" ∷ name ∷ []
arguments_of (command.SetState program name state) = codes "set-state" ∷ name ∷ state ∷ []
arguments_of (command.SetPrimary program name) = codes "set-primary" ∷ name ∷ []

-- both together
abbrev pub argv : Command → List (List ℕ)
argv c = program_of c ∷ arguments_of c
