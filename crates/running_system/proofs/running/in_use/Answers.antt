use Rattle.std.proofs.Common.{◌∙◌, ap}
use Rattle.running_system.specs.Running.{is_in_use}
use Rattle.running_system.proofs.StateLookups.{lies_told, state_found}
use Rattle.running_system.proofs.running.in_use.Goals as goal

pub returns-in-Some-clause-value : goal.returns-in-Some-clause-value
returns-in-Some-clause-value c =
    c.is_in_use.ensures
    ∙ ap is_in_use (state_found c.args.system.now.slots c.args.booted c.args.at c.as_slice.result.now _ c.requires (c.as_slice.ensures.value ∙ c.in_ok-states.ensures.values) c.in-Some.ensures.lookup.1)

pub returns-in-Some-clause-lies : goal.returns-in-Some-clause-lies
returns-in-Some-clause-lies c =
    lies_told c.args.system.now.slots c.args.booted c.args.at c.as_slice.result.now c.in_ok-states.states.items _ c.is_in_use.result c.in_ok-states.ensures.each c.requires c.as_slice.ensures.value c.in-Some.ensures.lookup.1 c.is_in_use.ensures
