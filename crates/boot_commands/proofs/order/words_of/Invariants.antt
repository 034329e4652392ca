use Rattle.std.proofs.Common.{◌≡◌, eqb, map}
use Rattle.std.specs.List.{flat_map}
use Rattle.boot_state.specs.Orders.{words_between}
use Rattle.boot_commands.proofs.order.words_of.Given as goal

abbrev pub invariant-loop-part : goal.invariant-loop-part
invariant-loop-part l = l.words ≡ flat_map (words_between (λ byte. eqb byte 9)) (map (λ x. x.now) l.yielded)
