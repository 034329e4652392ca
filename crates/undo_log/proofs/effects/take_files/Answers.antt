use Rattle.std.proofs.Common.{◌<◌, ◌+◌, length, ◌∙◌, arith}
use Rattle.std.proofs.lemmas.Grind.{drop_more_same}
use Rattle.std.proofs.lemmas.List.{drop-set-lt}
use Rattle.undo_log.specs.Undo.{with_blanks_at, items_at}
use Rattle.undo_log.proofs.Refilling.{emptied_next, marked_next}
use Rattle.undo_log.proofs.effects.take_files.Goals as goal

pub loop-at-preserved : goal.loop-at-preserved
loop-at-preserved c =
    let in_initial : c.loop-at.at < length c.args.files.now = c.loop-at-test.true in
    let in_marks : c.loop-at.at < length c.args.marks.now = omega (arith, in_initial, c.requires.as_many) in
    let in_files : c.loop-at.at < length c.loop-at.files = omega (arith, in_initial, c.loop-at.auto.files) in
    record {
      places = emptied_next c.args.marks.now c.args.files.now c.loop-at.files c.loop-at.at c.index-files-at.result in_marks in_initial in_files c.loop-at.invariant.rest (with_blanks_at c.args.marks.now c.args.files.now) c.take_file.new.place c.take_file.ensures.place c.loop-at.invariant.places;
      rest = drop-set-lt (c.loop-at.at + 1) c.loop-at.files c.loop-at.at c.take_file.new.place (omega arith) ∙ drop_more_same c.loop-at.files c.args.files.now c.loop-at.at c.loop-at.invariant.rest;
      taken = marked_next c.args.marks.now c.args.files.now c.loop-at.files c.loop-at.at c.index-files-at.result in_marks in_initial in_files c.loop-at.invariant.rest (items_at c.args.marks.now c.args.files.now) c.loop-at.taken.items c.take_file.new.taken.items c.take_file.ensures.taken c.loop-at.invariant.taken;
      count = omega (arith, c.take_file.ensures.count, c.loop-at.invariant.count);
      room = c.take_file.ensures.room ∙ c.loop-at.invariant.room;
    }
