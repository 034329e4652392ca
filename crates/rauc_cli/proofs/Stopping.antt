-- What a stop may leave.
use Rattle.std.proofs.Common.{inl, inr, ℕ, List, [], Some, None, Ok, subst, arith}
use Rattle.machine.specs.declared.world.World.{World}
use Rattle.machine.specs.World.{with_file}
use Rattle.boot_backends.specs.Through.{StoppedThrough, Through}
use Rattle.boot_backends.proofs.Callers.{stopped}
use Rattle.machine.specs.Crash.{Crash}
use Rattle.machine.specs.Frames.{InRange, SameBut}
use Rattle.machine.specs.Past.{Past, Always, Held, world_now}
use Rattle.machine.proofs.Moments.{held_of}
use Rattle.machine.proofs.Only.{left_only, only_refl, same_but_wider}
use Rattle.machine.proofs.Running.{left_by_a_stop}
use Rattle.slot_writer.proofs.Stopping.{put_left}
use Rattle.rauc_cli.specs.Plans.{Effect, Nothing, Front, Children, Reading, Marking, Installing, AfterAStop, From, OnTheWay}

no_byte : (path : List ℕ) (i : ℕ) → InRange [] 0 0 path i → ⊥
no_byte path i r = omega (arith, r.2)

-- where nothing changed, nothing differs
same_stopped : (u v : World) → Crash u v → SameBut (λ path i. ⊥) u v
same_stopped u v crash = same_but_wider (InRange [] 0 0) (λ path i. ⊥) u v no_byte (left_only [] 0 0 u u v (only_refl [] 0 0 u) crash)

after_a_stop : (e : Effect) (w u v : World) → OnTheWay e w u → Crash u v → AfterAStop e w v
after_a_stop Nothing w u v same crash = same_stopped w v (subst (λ (x : World). Crash x v) same crash)
after_a_stop Installing w u v way crash = tt
after_a_stop (Front system image written) w u v kept crash = put_left system (Ok written) w u v kept crash
after_a_stop (Children spares children) w u v left crash = left_by_a_stop spares children w u v left crash
after_a_stop (Reading boot names) w u v only crash = (u, only, same_stopped u v crash)
after_a_stop (Marking machine commands None) w u v way crash = (way.0, stopped machine (commands way.0) w u v way.1 crash)
after_a_stop (Marking machine commands (Some put)) w u v way crash = (way.0, either way.1)
  where
    either : From (Some put) w (λ x. Through machine (commands way.0) x u) → From (Some put) w (λ x. StoppedThrough machine (commands way.0) x v)
    either (inl before) = inl (stopped machine (commands way.0) w u v before crash)
    either (inr with) = inr (stopped machine (commands way.0) (with_file w put.0 put.1) u v with crash)

pub held_planned : (e : Effect) (a b : Past) → Always a b (OnTheWay e (world_now a)) → (v : World) → Held a b v → AfterAStop e (world_now a) v
held_planned e a b way v held = held_of a b (OnTheWay e (world_now a)) (AfterAStop e (world_now a)) way (λ u v h crash. after_a_stop e (world_now a) u v h crash) v held
