use Rattle.std.proofs.Common.{length}
use Rattle.wire_value.specs.Reading.{value_at, items_at}
use Rattle.wire_value.specs.Standing.{StandItems}
use Rattle.wire_value.specs.Gives.{at}
use Rattle.wire_value.specs.View.{views}
use Rattle.wire_value.proofs.ReadLaws.{if_read, is_read, each_found, each_read}
use Rattle.wire_value.proofs.read.read_items.Goals as goal

pub returns-clause-found : goal.returns-clause-found
returns-clause-found c = if_read (λ x. views x.items) (items_at (value_at c.args.depth c.args.little c.args.item.now) (length c.args.place.bytes.now) (at c.args.place)) (λ y. StandItems c.args.little c.args.depth c.args.item.now (at c.args.place) y) (each_found c.args.little c.args.depth c.args.item.now (at c.args.place) c.requires.item (λ i. c.args.place.small i)) c.items_of.result c.items_of.ensures

pub returns-clause-only : goal.returns-clause-only
returns-clause-only c vs h = is_read (λ x. views x.items) (items_at (value_at c.args.depth c.args.little c.args.item.now) (length c.args.place.bytes.now) (at c.args.place)) _ (each_read c.args.little c.args.depth c.args.item.now (at c.args.place) vs h) c.items_of.result c.items_of.ensures
