use Rattle.std.proofs.Common.{◌⊎◌, ◌<◌, ◌≤◌, ◌+◌, length, ◌∙◌, arith}
use Rattle.std.proofs.lemmas.Bool.Decides.{nat_tests}
use Rattle.std.proofs.lemmas.Grind.{drop_more_same}
use Rattle.std.proofs.lemmas.List.{drop-set-lt}
use Rattle.std.specs.Vec.Iter.{into_iter_items}
use Rattle.undo_log.specs.Undo.{with_files_at}
use Rattle.undo_log.proofs.Refilling.{refill_done, refill_more}
use Rattle.undo_log.proofs.changes.fill_places.Goals as goal

pub loop-at-preserved : goal.loop-at-preserved
loop-at-preserved c =
    let in_marks : c.loop-at.at < length c.args.marks.now = omega (arith, c.loop-at-test.true, c.min-count.ensures) in
    let in_initial : c.loop-at.at < length c.args.places.now = omega (arith, c.loop-at-test.true, c.min-count.ensures) in
    let in_places : c.loop-at.at < length c.loop-at.places = omega (arith, in_initial, c.loop-at.auto.places) in
    record {
      done = refill_more c.args.marks.now c.args.places.now c.loop-at.places (with_files_at c.args.marks.now c.args.places.now c.args.files) c.loop-at.at c.index-places-at.result c.fill_place.new.place in_marks in_initial in_places (into_iter_items c.loop-at.files) (into_iter_items c.fill_place.new.files) c.fill_place.ensures.files c.fill_place.ensures.place c.loop-at.invariant.rest c.loop-at.invariant.done;
      rest = drop-set-lt (c.loop-at.at + 1) c.loop-at.places c.loop-at.at c.fill_place.new.place (omega arith) ∙ drop_more_same c.loop-at.places c.args.places.now c.loop-at.at c.loop-at.invariant.rest;
    }

pub returns : goal.returns
returns c =
    let past : (length c.args.marks.now ≤ c.loop-at.at) ⊎ (length c.args.places.now ≤ c.loop-at.at) = grind (arith, nat_tests, c.loop-at-test.false, c.min-count.ensures) in
    refill_done c.args.marks.now c.args.places.now c.loop-at.places (into_iter_items c.loop-at.files) (with_files_at c.args.marks.now c.args.places.now c.args.files) c.loop-at.at past c.loop-at.invariant.rest c.loop-at.invariant.done
