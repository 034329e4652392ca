use Rattle.std.proofs.Common.{Some, sym, ◌∙◌, ap, List, ℕ}
use Rattle.undo_log.proofs.Places.{found_bytes, found_none}
use Rattle.undo_log.proofs.lookup.bytes_of.Goals as goal

pub returns-in-Some : goal.returns-in-Some
returns-in-Some c =
    ap (λ (bytes : List ℕ). Some bytes) c.as_slice.ensures
    ∙ sym (found_bytes c.args.list.now c.args.path.now c.in-Some.at c.index-list-at.result c.in-Some.ensures)

pub returns-in-None : goal.returns-in-None
returns-in-None c = sym (found_none c.args.list.now c.args.path.now c.in-None.ensures)
