use Rattle.std.proofs.Common.{append_assoc}
use Rattle.child_steps.specs.Hooks.{numbered_vars}
use Rattle.child_steps.proofs.handlers.push_slot.Goals as goal

pub returns : goal.returns
unfolding numbered_vars
returns c =
    rw (c.in_ok-push_numbered_if_any-2.ensures, c.in_ok-push_numbered_if_any.ensures, c.in_ok-push_numbered-4.ensures, c.in_ok-push_numbered-3.ensures, c.in_ok-push_numbered-2.ensures, c.in_ok-push_numbered.ensures, c.in_ok-kind.ensures, c.in_ok-parent.ensures)
    (simp append_assoc)
