use Rattle.std.proofs.Common.{◌≡◌, map}
use Rattle.std.specs.List.{filter_map}
use Rattle.slot_graph.specs.Mounts.{mount_in, mount_words}
use Rattle.slot_graph.proofs.mounted.mounts.Given as goal

abbrev pub invariant-loop-line : goal.invariant-loop-line
invariant-loop-line l = l.mounts.items ≡ filter_map (λ line. mount_in (mount_words line)) (map (λ x. x.now) l.yielded)
