use Rattle.std.proofs.Common.{◌∙◌}
use Rattle.std.specs.FinMap.{insert}
use Rattle.boot_model.proofs.Shown.{shown_inserted}
use Rattle.boot_model.proofs.vars.Vars.set.Goals as goal

pub returns-clause-ok : goal.returns-clause-ok
returns-clause-ok c =
    shown_inserted c.self.inside.settings c.insert.new.self c.in_ok-name.name c.in_ok-value.value c.in_ok-insert.ensures.updates
    ∙ (λ i. insert (c.self.view_is i) (c.in_ok-name.ensures.ok i) (c.in_ok-value.ensures.ok i))
