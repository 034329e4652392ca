use Rattle.system_conf.specs.Reads.{system_configuration}
use Rattle.install_core.proofs.FactsFit.{images_fit}
use Rattle.install_core.proofs.Going.{counted_if, works_noted}
use Rattle.install_core.proofs.working.work.Goals as goal

pub change_if-result-requires-clause-fits : goal.change_if-result-requires-clause-fits
change_if-result-requires-clause-fits g c = λ told.
    images_fit (system_configuration c.args.system.now) c.args.request.now (g.M.Machine.past c.args.m.now) (g.M.Machine.past c.gather-facts.new.m) c.gather-facts.result.facts (c.gather-facts.ensures.answers told)

pub returns-clause-works : goal.returns-clause-works
returns-clause-works g c =
    works_noted _ (system_configuration c.args.system.now) c.args.request.now _ _ _ _ _ _ c.gather-facts.result.facts c.change_if-result.result c.gather-facts.result.book_unread
    c.gather-facts.ensures.kept c.gather-facts.ensures.answers c.gather-facts.ensures.sound c.gather-facts.ensures.unread c.gather-facts.ensures.fails c.gather-facts.ensures.notes c.change_if-result.ensures.follows

pub returns-clause-counts : goal.returns-clause-counts
returns-clause-counts g c = counted_if _ _ _ _ _ _ c.gather-facts.result.facts c.change_if-result.result c.gather-facts.ensures.counts c.change_if-result.ensures.counts
