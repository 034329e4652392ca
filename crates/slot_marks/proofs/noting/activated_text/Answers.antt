use Rattle.std.proofs.Common.{◌∙◌, ap, length}
use Rattle.slot_marks.proofs.FilesPut.{length_changed}
use Rattle.slot_marks.proofs.noting.activated_text.Goals as goal

pub status_text-requires : goal.status_text-requires
status_text-requires c = ap length c.in-Ok.ensures.ok ∙ length_changed c.args.at _ c.args.book.now ∙ c.requires.all
