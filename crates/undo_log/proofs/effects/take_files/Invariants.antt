use Rattle.std.proofs.Common.{◌≡◌, ◌≤◌, ◌++◌, take, drop, vec_len}
use Rattle.std.specs.Vec.{vec_capacity}
use Rattle.undo_log.specs.Undo.{with_blanks_at, items_at}
use Rattle.undo_log.proofs.effects.take_files.Given as goal

abbrev pub invariant-loop-at : goal.invariant-loop-at
invariant-loop-at l = record {
  places : take l.at l.files ++ with_blanks_at (drop l.at l.marks) (drop l.at l.initial.files) ≡ with_blanks_at l.marks l.initial.files;
  rest : drop l.at l.files ≡ drop l.at l.initial.files;
  taken : l.taken.items ++ items_at (drop l.at l.marks) (drop l.at l.initial.files) ≡ items_at l.marks l.initial.files;
  count : vec_len l.taken ≤ l.at;
  room : vec_capacity l.taken ≡ vec_capacity l.initial.taken;
}
