use Rattle.std.proofs.Common.{w64}
use Rattle.std.proofs.lemmas.Int.{to_z-of_z}
use Rattle.install_facts.specs.Facts.{facts_content}
use Rattle.install_steps.proofs.BookNoted.{can_activate, can_begin, can_finish}
use Rattle.install_steps.proofs.noting.change_at.Goals as goal

pub begin-requires : goal.begin-requires
begin-requires c = can_begin (facts_content c.args.facts.now) c.args.step.now c.args.now c.requires.can c.requires.now c.in-Begin.slot c.in-Begin.is

pub finish-requires : goal.finish-requires
finish-requires c = record {
  can = can_finish (facts_content c.args.facts.now) c.args.step.now c.args.now c.requires.can c.requires.now c.in-Done.job _ c.in-Done.is (to_z-of_z w64 c.args.now c.ranges.now);
}

pub activate-requires-clause-slot : goal.activate-requires-clause-slot
activate-requires-clause-slot c = (can_activate (facts_content c.args.facts.now) c.args.step.now c.args.now c.requires.can c.requires.now c.in-Activated.root _ c.in-Activated.is (to_z-of_z w64 c.args.now c.ranges.now)).0

pub activate-requires-clause-can : goal.activate-requires-clause-can
activate-requires-clause-can c = (can_activate (facts_content c.args.facts.now) c.args.step.now c.args.now c.requires.can c.requires.now c.in-Activated.root _ c.in-Activated.is (to_z-of_z w64 c.args.now c.ranges.now)).1
