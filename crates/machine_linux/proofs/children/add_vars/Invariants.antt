use Rattle.std.proofs.Common.{◌≡◌, ℕ, List, take}
use Rattle.std.specs.Process.{SameProgramAndArgs, clears_env, command_var}
use Rattle.machine_linux.proofs.Variables.{value_after}
use Rattle.machine_linux.proofs.children.add_vars.Given as goal

abbrev pub invariant-loop-var : goal.invariant-loop-var
invariant-loop-var l = record {
  vars : (name : List ℕ) → command_var l.command name ≡ value_after (take l.var-index l.vars) name (command_var l.fn.command name);
  call : SameProgramAndArgs l.fn.command l.command;
  inherits : clears_env l.command ≡ clears_env l.fn.command;
}
