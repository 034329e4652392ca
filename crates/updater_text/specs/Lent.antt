-- What items are once a loan of them is over.
use Rattle.std.specs.Prelude.{◌++◌, List, length, take, drop}
use Rattle.std.specs.Borrow.{Lends, Fml, RattleType, MutBor, Array}
use Rattle.updater_text.specs.contracts.items.Items.{the_row}

-- the items, of which there stay as many, with these written over those at the front
abbrev pub with_front : {X : Type 0} → List X → List X → List X
with_front items front = take (length items) (front ++ drop (length front) items)

-- the items end as what was last written through the lent slice
module _ (T : RattleType) (items : MutBor (List T.Denot)) where
  abbrev pub lends_items : MutBor (List T.Denot) → Fml
  lends_items slice = Lends (the_row T) (Array T 0) items slice (with_front items.now)
