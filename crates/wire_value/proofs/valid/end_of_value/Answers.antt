use Rattle.wire_value.specs.View.{view}
use Rattle.wire_value.proofs.ValidLaws.{value_found, value_only}
use Rattle.wire_value.proofs.valid.end_of_value.Goals as goal

pub returns-clause-found : goal.returns-clause-found
returns-clause-found c little = value_found c.args.limit c.args.depth c.args.offset little c.args.kind.now (view c.args.value.now) c.check.result c.requires.kind c.check.ensures.is

pub returns-clause-only : goal.returns-clause-only
returns-clause-only c little e h le = value_only c.args.limit c.args.depth c.args.offset little c.args.kind.now (view c.args.value.now) c.check.result e c.check.ensures.is h le
