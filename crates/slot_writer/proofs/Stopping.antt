-- What a stop may leave.
use Rattle.std.proofs.Common.{inl, inr, Bool, [], IsTrue, Result, Ok, Err, subst, arith}
use Rattle.machine.specs.declared.world.World.{World}
use Rattle.machine.specs.Crash.{Crash}
use Rattle.machine.specs.Frames.{InRange, SameBut}
use Rattle.machine.specs.Past.{Past, world_now, Always}
use Rattle.machine.proofs.Moments.{held_of}
use Rattle.machine.proofs.Only.{left_only, only_refl, same_but_wider}
use Rattle.system_conf.specs.Configuration.{Configuration}
use Rattle.slot_writer.specs.Noting.{begun_world}
use Rattle.slot_writer.specs.Slots.{PutKept, PutStopped, PutStops, device_at}
use Rattle.slot_writer.specs.declared.refusal.SlotRefusal.{SlotRefusal}
use Rattle.slot_writer.specs.declared.refusal.SlotWritten.{SlotWritten}

nothing_left : (w v : World) → Crash w v → SameBut (λ path i. ⊥) w v
nothing_left w v crash =
    same_but_wider (InRange [] 0 0) (λ path i. ⊥) w v (λ path i touched. omega (arith, touched.2)) (left_only [] 0 0 w w v (only_refl [] 0 0 w) crash)

pub put_left : (system : Configuration) (answer : Result SlotWritten SlotRefusal) (w u v : World) → PutKept system answer w u → Crash u v → PutStopped system answer w v
put_left system (Ok written) w u v (inl same) crash = inl (nothing_left w v (subst (λ (x : World). Crash x v) same crash))
put_left system (Ok written) w u v (inr h) crash =
    inr (h.0, left_only (device_at system.slots written.slot) 0 written.size (begun_world system written.slot w) u v h.1 crash)
put_left system (Err refusal) w u v same crash = nothing_left w v (subst (λ (x : World). Crash x v) same crash)

-- so it is wherever the power stops
pub put_stops : (t : Bool) (system : Configuration) (answer : Result SlotWritten SlotRefusal) (a b : Past) → (IsTrue t → Always a b (PutKept system answer (world_now a))) → PutStops t system answer a b
put_stops t system answer a b kept = record {
  each = λ told v held. held_of a b (PutKept system answer (world_now a)) (PutStopped system answer (world_now a)) (kept told) (λ u x k crash. put_left system answer (world_now a) u x k crash) v held;
}
