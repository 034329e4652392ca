use Rattle.std.proofs.Common.{◌∙◌}
use Rattle.boot_model.proofs.Shown.{shown_cloned}
use Rattle.boot_model.proofs.vars.Vars.copy.Goals as goal

pub returns : goal.returns
returns c = shown_cloned c.self.inside.settings c.in_ok-settings.settings c.in_ok-settings.ensures.cases ∙ c.self.view_is
