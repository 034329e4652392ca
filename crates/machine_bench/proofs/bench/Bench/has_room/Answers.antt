use Rattle.std.proofs.Common.{◌≡◌, ◌↔◌, ◌+◌, ℕ, IsTrue, sym, ◌∙◌, ap, subst, arith}
use Rattle.machine.specs.declared.world.World.{World}
use Rattle.machine.specs.World.{HoldsUpTo}
use Rattle.undo_log.proofs.Undoing.{now-past_of}
use Rattle.undo_log.specs.Effects.{has_room}
use Rattle.undo_log.proofs.Children.{holds_is, is_held}
use Rattle.machine_bench.proofs.bench.Bench.has_room.Goals as goal

pub returns : goal.returns
returns c =
    let end : c.args.end + 0 ≡ c.args.end = omega arith in
    let is : c.has_room.result ≡ has_room c.args.self.now.log.world c.args.path.now c.args.end = c.has_room.ensures ∙ ap (λ (n : ℕ). has_room c.args.self.now.log.world c.args.path.now n) end in
    subst (λ (w : World). IsTrue c.has_room.result ↔ HoldsUpTo w c.args.path.now c.args.end) (sym (now-past_of c.args.self.now.log)) (
      λ yes. holds_is c.args.self.now.log.world c.args.path.now c.args.end (sym is ∙ yes),
      λ room. is ∙ is_held c.args.self.now.log.world c.args.path.now c.args.end room,
    )
