use Rattle.std.proofs.Common.{inl}
use Rattle.wire_value.specs.Reading.{value_at}
use Rattle.wire_value.specs.Standing.{Stands}
use Rattle.wire_value.specs.Gives.{at}
use Rattle.wire_value.specs.View.{view}
use Rattle.wire_value.proofs.ReadLaws.{if_read, is_read, stands_found, stands_read}
use Rattle.wire_value.proofs.read.read_value.Goals as goal

pub returns-clause-found : goal.returns-clause-found
returns-clause-found c = if_read (λ x. (view x.0, at x.1)) (value_at c.args.depth c.args.little c.args.kind.now (at c.args.place)) (λ y. Stands c.args.little c.args.depth c.args.kind.now (at c.args.place) y.0 y.1) (stands_found c.args.little c.args.depth c.args.kind.now (at c.args.place) (inl c.requires.kind) (λ i. c.args.place.small i)) c.value_of.result c.value_of.ensures

pub returns-clause-only : goal.returns-clause-only
returns-clause-only c v q h = is_read (λ x. (view x.0, at x.1)) (value_at c.args.depth c.args.little c.args.kind.now (at c.args.place)) _ (stands_read c.args.little c.args.depth c.args.kind.now (at c.args.place) v q h) c.value_of.result c.value_of.ensures
