use Rattle.std.proofs.Common.{◌≡◌, ◌++◌, take}
use Rattle.std.specs.Process.{SameEnv, command_args, command_program}
use Rattle.machine_linux.proofs.children.add_args.Given as goal

abbrev pub invariant-loop-arg : goal.invariant-loop-arg
invariant-loop-arg l = record {
  args : command_args l.command ≡ command_args l.fn.command ++ take l.arg-index l.args;
  program : command_program l.command ≡ command_program l.fn.command;
  env : SameEnv l.fn.command l.command;
}
