use Rattle.std.proofs.Common.{◌∙◌, ap}
use Rattle.slot_status.specs.Changes.{begin_record, begun}
use Rattle.slot_status.proofs.Changing.{record_changed}
use Rattle.slot_status.proofs.book.StatusBook.begin.Goals as goal

pub returns-clause-ok : goal.returns-clause-ok
returns-clause-ok c =
    record_changed begin_record c.self.inside.records.items c.args.slot c.index_mut.result.now c.begin.new.self c.index_mut.ensures.value c.begin.ensures
    ∙ ap (begun c.args.slot) c.self.view_is
