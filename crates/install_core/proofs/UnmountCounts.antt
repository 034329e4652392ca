-- Which count rose where the unmount failed, or had no memory.
use Rattle.std.proofs.Common.{◌≡◌, ◌≤◌, ℕ, Ok, Err, sym, subst, arith}
use Rattle.updater_text.specs.Counts.{CountRose}
use Rattle.machine.specs.declared.stops.Stop.TheVariants.{Refused, Outside, NoMemory}
use Rattle.machine.specs.Stops.{StopCounted}
use Rattle.child_steps.specs.Closing.{ClosingCounted}
use Rattle.child_steps.specs.declared.close.Closing.{Closing}
use Rattle.child_steps.specs.declared.close.Closing.TheVariants as closing
use Rattle.install_core.specs.Course.{Answer}
use Rattle.install_core.specs.Faults.{UnmountCounted}

never_fell : (k m p q : ℕ) (answer : Answer) → StopCounted k m p q answer → (k ≤ m) × (p ≤ q)
never_fell k m p q (Ok x) h = h
never_fell k m p q (Err (Refused why)) h = h
never_fell k m p q (Err (Outside kind)) h = (h.0.0, h.1)
never_fell k m p q (Err NoMemory) h = h

rose_since : (k m n : ℕ) → k ≤ m → CountRose m n → CountRose k n
rose_since k m n km rose = (omega (arith, km, rose.0), λ same. rose.1 (omega (arith, km, rose.0, same)))

counted : (f f' w w' : ℕ) (closed : Closing) → ClosingCounted f f' w w' closed → UnmountCounted f f' w w' closed
counted f f' w w' closing.NotMounted h = record { failed = λ e. absurd (cc); wanted = λ e. absurd (cc) }
counted f f' w w' closing.Unmounted h = record { failed = λ e. absurd (cc); wanted = λ e. absurd (cc) }
counted f f' w w' (closing.Ended ended) h = record { failed = λ e. absurd (cc); wanted = λ e. absurd (cc) }
counted f f' w w' closing.Failed h = record { failed = λ e. h.0; wanted = λ e. absurd (cc) }
counted f f' w w' closing.NoMemory h = record { failed = λ e. absurd (cc); wanted = λ e. h.1 }

-- counts never fall, so what rose since a moment rose since an earlier one
pub counted_since : (k m n p q r : ℕ) (closed : Closing) → k ≤ m → p ≤ q → UnmountCounted m n q r closed → UnmountCounted k n p r closed
counted_since k m n p q r closed km pq h = record { failed = λ e. rose_since k m n km (h.failed e); wanted = λ e. rose_since p q r pq (h.wanted e) }

-- after the work
pub unmount_counted : (k m n p q r : ℕ) (answer : Answer) (closed : Closing) → StopCounted k m p q answer → ClosingCounted m n q r closed → UnmountCounted k n p r closed
unmount_counted k m n p q r answer closed work close =
    let kept = never_fell k m p q answer work in
    counted_since k m n p q r closed kept.0 kept.1 (counted m n q r closed close)

-- as the end tells it
pub counted_as : (f f' w w' : ℕ) (closed told : Closing) → told ≡ closed → UnmountCounted f f' w w' closed → UnmountCounted f f' w w' told
counted_as f f' w w' closed told is h = subst (λ (x : Closing). UnmountCounted f f' w w' x) (sym is) h

-- nothing was unmounted
pub none_counted : (f f' w w' : ℕ) → UnmountCounted f f' w w' closing.NotMounted
none_counted f f' w w' = record { failed = λ e. absurd (cc); wanted = λ e. absurd (cc) }
