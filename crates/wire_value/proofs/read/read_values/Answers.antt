use Rattle.std.proofs.Common.{suc, length}
use Rattle.wire_value.specs.Reading.{value_at, fields_at}
use Rattle.wire_value.specs.Standing.{StandAll}
use Rattle.wire_value.specs.Gives.{at}
use Rattle.wire_value.specs.View.{views}
use Rattle.wire_value.proofs.ReadLaws.{if_read, is_read, all_found, all_read}
use Rattle.wire_value.proofs.read.read_values.Goals as goal

pub returns-clause-found : goal.returns-clause-found
returns-clause-found c = if_read (λ x. (views x.0.items, at x.1)) (fields_at (value_at c.args.depth c.args.little) (suc (length c.args.signature.now)) c.args.signature.now (at c.args.place)) (λ y. StandAll c.args.little c.args.depth c.args.signature.now (at c.args.place) y.0 y.1) (all_found c.args.little c.args.depth c.args.signature.now (at c.args.place) c.requires.signature (λ i. c.args.place.small i)) c.fields_of.result c.fields_of.ensures

pub returns-clause-only : goal.returns-clause-only
returns-clause-only c vs q h = is_read (λ x. (views x.0.items, at x.1)) (fields_at (value_at c.args.depth c.args.little) (suc (length c.args.signature.now)) c.args.signature.now (at c.args.place)) _ (all_read c.args.little c.args.depth c.args.signature.now (at c.args.place) vs q h) c.fields_of.result c.fields_of.ensures
