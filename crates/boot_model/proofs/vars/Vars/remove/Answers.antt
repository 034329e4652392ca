use Rattle.std.proofs.Common.{◌∙◌, ap}
use Rattle.std.specs.FinMap.{remove}
use Rattle.boot_model.specs.Vars.{Variables}
use Rattle.boot_model.proofs.Shown.{shown_removed}
use Rattle.boot_model.proofs.vars.Vars.remove.Goals as goal

pub returns : goal.returns
returns c = shown_removed c.self.inside.settings c.remove.new.self c.args.name.now c.remove.ensures.updates ∙ ap (λ (m : Variables). remove m c.args.name.now) c.self.view_is
