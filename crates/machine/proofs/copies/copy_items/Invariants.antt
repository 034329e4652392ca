use Rattle.std.proofs.Common.{◌≡◌, take}
use Rattle.machine.proofs.copies.copy_items.Given as goal

abbrev pub invariant-loop-item : goal.invariant-loop-item
invariant-loop-item g l = record {
  copied : l.copy ≡ take l.item-index l.slice;
  all : l.slice ≡ l.fn.items;
}
