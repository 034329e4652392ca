use Rattle.std.proofs.Common.{◌∙◌, ◌++◌, ◌∷◌, []}
use Rattle.boot_commands.proofs.barebox.push_variables.Goals as goal

pub returns : goal.returns
returns c = c.in_ok-push_two.ensures ∙ (λ i. c.args.variables.now ++ c.in_ok-priority.ensures i ∷ c.in_ok-attempts.ensures i ∷ [])
