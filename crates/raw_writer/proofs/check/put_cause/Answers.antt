use Rattle.std.proofs.Common.{◌∙◌}
use Rattle.raw_writer.proofs.check.put_cause.Goals as goal

pub returns-in_ok-text-in-ImageTooLarge : goal.returns-in_ok-text-in-ImageTooLarge
returns-in_ok-text-in-ImageTooLarge c =
    rw c.in-ImageTooLarge.is (c.from_string-in-ImageTooLarge.ensures ∙ c.in_ok-text-in-ImageTooLarge.ensures.ok)
