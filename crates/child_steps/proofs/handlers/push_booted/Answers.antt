use Rattle.std.proofs.Common.{◌∙◌, ap, codes, option_and_then}
use Rattle.std.proofs.lemmas.Option.{slice_get_past}
use Rattle.child_steps.specs.Hooks.{booted_bootname, var}
use Rattle.child_steps.proofs.Variables.{nothing}
use Rattle.child_steps.proofs.handlers.push_booted.Goals as goal

pub returns-in-None : goal.returns-in-None
returns-in-None c =
    let none = slice_get_past c.args.slots.now c.in-Slot.at c.in-None.ensures.lookup.3 in
    nothing (var (codes "RAUC_CURRENT_BOOTNAME")) (booted_bootname c.args.slots.now c.args.booted) c.args.env.now
    (ap (booted_bootname c.args.slots.now) c.in-Slot.is ∙ ap (option_and_then (λ s. s.bootname)) none)
