use Rattle.std.proofs.Common.{Some, ℕ, List, refl, sym, ◌∙◌, ap}
use Rattle.std.specs.Prelude.{slice_set}
use Rattle.std.proofs.Common.{get_or}
use Rattle.undo_log.proofs.Places.{found_bytes, found_none}
use Rattle.undo_log.proofs.Putting.{back_none, found_back}
use Rattle.undo_log.proofs.changes.swap_under.Goals as goal

pub returns-in-Some-clause-list : goal.returns-in-Some-clause-list
returns-in-Some-clause-list c =
    ap (λ (b : List ℕ). slice_set c.args.list.now c.in-Some.place (record (get_or c.args.list.now c.in-Some.place c.index-list-place.result) { bytes = b })) c.replace.ensures.after
    ∙ sym (found_back c.args.list.now c.args.path.now c.args.bytes c.in-Some.place c.index-list-place.result c.in-Some.ensures)

pub returns-in-Some-clause-ok : goal.returns-in-Some-clause-ok
returns-in-Some-clause-ok c =
    found_bytes c.args.list.now c.args.path.now c.in-Some.place c.index-list-place.result c.in-Some.ensures
    ∙ ap (λ (b : List ℕ). Some b) (sym c.replace.ensures.value)

pub returns-in-None-clause-list : goal.returns-in-None-clause-list
returns-in-None-clause-list c =
    sym (back_none c.args.list.now c.args.path.now c.args.bytes (found_none c.args.list.now c.args.path.now c.in-None.ensures))

pub returns-in-None-clause-err : goal.returns-in-None-clause-err
returns-in-None-clause-err c = (refl, found_none c.args.list.now c.args.path.now c.in-None.ensures)
