-- What the printed text of a command adds to the variables that were read before; none where it is not in its form.
use Rattle.std.specs.Prelude.{ℕ, List, Option, Some}
use Rattle.boot_model.specs.Vars.{Variables}
use Rattle.boot_commands.specs.declared.command.Command.{Command}
use Rattle.boot_commands.specs.declared.command.Command.TheVariants as command
use Rattle.boot_outputs.specs.Barebox.{gotten}
use Rattle.boot_outputs.specs.Custom.{primary_told, state_told}
use Rattle.boot_outputs.specs.Efi.{entered}
use Rattle.boot_outputs.specs.Grub.{listed}
use Rattle.boot_outputs.specs.Uboot.{printed}

-- the text of a command that writes is not looked at
abbrev pub spelled : Command → List ℕ → Variables → Option Variables
spelled (command.ListVariables file) out read = listed out read
spelled (command.SetVariables file settings) out read = Some read
spelled (command.PrintVariable name) out read = printed name out read
spelled (command.StoreVariable name text) out read = Some read
spelled (command.PrintState state names) out read = gotten names out read
spelled (command.StoreState state settings) out read = Some read
spelled command.ListEntries out read = entered out read
spelled (command.SetNext number) out read = Some read
spelled command.RemoveNext out read = Some read
spelled (command.SetOrder order) out read = Some read
spelled command.RemoveOrder out read = Some read
spelled (command.GetPrimary program) out read = primary_told out read
spelled (command.GetState program name) out read = state_told name out read
spelled (command.SetState program name state) out read = Some read
spelled (command.SetPrimary program name) out read = Some read
