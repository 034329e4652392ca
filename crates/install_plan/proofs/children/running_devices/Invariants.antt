use Rattle.std.proofs.Common.{◌≡◌}
use Rattle.std.specs.List.{flat_map, range_with_len}
use Rattle.system_conf.specs.Reads.{system_configuration}
use Rattle.install_facts.specs.Facts.{facts_content}
use Rattle.install_plan.specs.Acts.{running_device}
use Rattle.install_plan.proofs.children.running_devices.Given as goal

abbrev pub invariant-loop-at : goal.invariant-loop-at
invariant-loop-at l = l.devices ≡ flat_map (running_device (system_configuration l.system) (facts_content l.facts)) (range_with_len 0 l.at)
