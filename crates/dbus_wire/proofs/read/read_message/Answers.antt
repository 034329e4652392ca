use Rattle.std.proofs.Common.{arith}
use Rattle.dbus_wire.proofs.ReadAnswers.{got_clause, whole_clause, part_clause, need_clause, large_clause, bad_clause, refuses_clause, memory_clause}
use Rattle.dbus_wire.proofs.read.read_message.Goals as goal

pub returns-clause-got : goal.returns-clause-got
returns-clause-got c = got_clause c.args.bytes.now c.read.result (λ i. omega (arith, c.type_inv.bytes i)) c.read.ensures

pub returns-clause-whole : goal.returns-clause-whole
returns-clause-whole c = whole_clause c.args.bytes.now c.read.result c.read.ensures

pub returns-clause-part : goal.returns-clause-part
returns-clause-part c = part_clause c.args.bytes.now c.read.result c.read.ensures

pub returns-clause-need : goal.returns-clause-need
returns-clause-need c = need_clause c.args.bytes.now c.read.result c.read.ensures

pub returns-clause-large : goal.returns-clause-large
returns-clause-large c = large_clause c.args.bytes.now c.read.result c.read.ensures

pub returns-clause-bad : goal.returns-clause-bad
returns-clause-bad c = bad_clause c.args.bytes.now c.read.result c.read.ensures

pub returns-clause-refuses : goal.returns-clause-refuses
returns-clause-refuses c = refuses_clause c.args.bytes.now c.read.result (λ i. omega (arith, c.type_inv.bytes i)) c.read.ensures

pub returns-clause-memory : goal.returns-clause-memory
returns-clause-memory c = memory_clause c.args.bytes.now c.read.result c.read.ensures
