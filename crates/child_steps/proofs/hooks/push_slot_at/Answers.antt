use Rattle.std.proofs.Common.{slice_get}
use Rattle.std.proofs.lemmas.Option.{slice_get_past}
use Rattle.child_steps.specs.Hooks.{slot_vars}
use Rattle.child_steps.proofs.Variables.{nothing}
use Rattle.child_steps.proofs.hooks.push_slot_at.Goals as goal

pub returns-in-None : goal.returns-in-None
returns-in-None c =
    let none = slice_get_past c.args.slots.now c.args.at c.in-None.ensures.lookup.3 in
    nothing (slot_vars c.args.slots.now) (slice_get c.args.slots.now c.args.at) c.args.env.now none
