use Rattle.std.proofs.Common.{append_assoc}
use Rattle.child_steps.specs.Hooks.{hook_vars}
use Rattle.child_steps.proofs.hooks.push_hook_vars.Goals as goal

pub returns : goal.returns
unfolding hook_vars
returns c =
    rw (c.in_ok-push_var-4.ensures, c.in_ok-push_var-3.ensures, c.in_ok-push_var_if_any.ensures, c.in_ok-push_var-2.ensures, c.in_ok-push_var.ensures, c.in_ok-point.ensures)
    (simp append_assoc)
