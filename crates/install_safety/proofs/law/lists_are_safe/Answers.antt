use Rattle.install_safety.proofs.AllSafe.{lists_are_safe}
use Rattle.install_safety.proofs.law.lists_are_safe.Goals as goal

pub returns : goal.returns
returns c = lists_are_safe
