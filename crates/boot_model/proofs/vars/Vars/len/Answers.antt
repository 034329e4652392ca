use Rattle.std.proofs.Common.{sym, ◌∙◌, ap}
use Rattle.std.specs.FinMap.{len}
use Rattle.boot_model.proofs.Shown.{len-shown}
use Rattle.boot_model.proofs.vars.Vars.len.Goals as goal

pub returns : goal.returns
returns c = c.len.ensures.len ∙ sym (len-shown c.self.inside.settings c.len.ensures.ordered) ∙ ap len c.self.view_is
