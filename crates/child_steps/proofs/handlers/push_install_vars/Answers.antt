use Rattle.std.proofs.Common.{append_assoc}
use Rattle.child_steps.specs.Hooks.{install_vars}
use Rattle.child_steps.proofs.handlers.push_install_vars.Goals as goal

pub returns : goal.returns
unfolding install_vars
returns c =
    rw (c.in_ok-push_var-5.ensures, c.in_ok-push_var-4.ensures, c.in_ok-push_booted.ensures, c.in_ok-push_var-3.ensures, c.in_ok-push_var-2.ensures, c.in_ok-push_var.ensures, c.in_ok-point.ensures, c.in_ok-numbers.ensures, c.in_ok-targets.ensures, c.as_slice-slots.ensures)
    (simp append_assoc)
