use Rattle.std.proofs.Common.{append_assoc}
use Rattle.child_steps.specs.Hooks.{file_vars}
use Rattle.child_steps.proofs.hooks.push_file_vars.Goals as goal

pub returns : goal.returns
unfolding file_vars
returns c =
    rw (c.in_ok-push_var-3.ensures, c.in_ok-push_var-2.ensures, c.in_ok-push_var.ensures, c.in_ok-path.ensures, c.as_str.ensures, c.in_ok-size.ensures, c.in_ok-digest.ensures)
    (simp append_assoc)
