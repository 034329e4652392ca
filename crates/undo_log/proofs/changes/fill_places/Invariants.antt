use Rattle.std.proofs.Common.{◌≡◌, ◌++◌, take, drop}
use Rattle.std.specs.Vec.Iter.{into_iter_items}
use Rattle.undo_log.specs.Undo.{with_files_at}
use Rattle.undo_log.proofs.changes.fill_places.Given as goal

abbrev pub invariant-loop-at : goal.invariant-loop-at
invariant-loop-at l = record {
  done : take l.at l.places ++ with_files_at (drop l.at l.marks) (drop l.at l.initial.places) (into_iter_items l.files) ≡ with_files_at l.marks l.initial.places l.fn.files;
  rest : drop l.at l.places ≡ drop l.at l.initial.places;
}
