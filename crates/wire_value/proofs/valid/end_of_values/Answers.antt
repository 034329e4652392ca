use Rattle.wire_value.specs.View.{views}
use Rattle.wire_value.proofs.ValidLaws.{all_found, all_only}
use Rattle.wire_value.proofs.valid.end_of_values.Goals as goal

pub returns-clause-found : goal.returns-clause-found
returns-clause-found c little = all_found c.args.limit c.args.depth c.args.offset little c.args.signature.now (views c.args.values.now) c.check_fields.result c.requires.signature c.check_fields.ensures.is

pub returns-clause-only : goal.returns-clause-only
returns-clause-only c little e h le = all_only c.args.limit c.args.depth c.args.offset little c.args.signature.now (views c.args.values.now) c.check_fields.result e c.check_fields.ensures.is h le
