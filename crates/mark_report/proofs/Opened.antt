-- A bundle that was mounted is read and unmounted.
use Rattle.std.proofs.Common.{◌≡◌, ◌≤◌, ℕ, Result, Ok, Err, refl, subst, arith}
use Rattle.updater_text.specs.Counts.{CountRose}
use Rattle.machine.specs.declared.stops.Stop.{Stop}
use Rattle.machine.specs.declared.stops.Stop.TheVariants as stop
use Rattle.machine.specs.Stops.{StopCounted, stop_fault}
use Rattle.manifest.specs.Contents.{Content}
use Rattle.manifest.specs.declared.content.Manifest.{Manifest}
use Rattle.child_steps.specs.Bundle.{LoadsManifest}
use Rattle.child_steps.specs.Closing.{ClosingCounted}
use Rattle.child_steps.specs.declared.bundle.BundleRefusal.{BundleRefusal}
use Rattle.child_steps.specs.declared.close.Closing.{Closing}
use Rattle.child_steps.specs.declared.close.Closing.TheVariants as closing
use Rattle.child_steps.specs.declared.mounted.Mounted.{Mounted}
use Rattle.child_steps.specs.declared.refusal.MountRefusal.{MountRefusal}
use Rattle.mark_report.specs.Opening.{ClosesAs, ClosingRose, InfoCounted, LoadsInfo, bundle_result, mount_stop}

-- what the manifest says, passed on
pub loads_as : (meaning : Result Content BundleRefusal) (r : Result Manifest (Stop BundleRefusal)) → LoadsManifest meaning r → LoadsInfo meaning (bundle_result r)
loads_as meaning (Ok manifest) h = h
loads_as meaning (Err (stop.Refused refusal)) h = h
loads_as meaning (Err (stop.Outside kind)) h = tt
loads_as meaning (Err stop.NoMemory) h = tt

pub fault_as : (r : Result Manifest (Stop BundleRefusal)) → stop_fault r ≡ stop_fault (bundle_result r)
fault_as (Ok manifest) = refl
fault_as (Err (stop.Refused refusal)) = refl
fault_as (Err (stop.Outside kind)) = refl
fault_as (Err stop.NoMemory) = refl

-- counts of two calls
rose_before : (k m n : ℕ) → k ≤ m → CountRose m n → CountRose k n
rose_before k m n le rose = (omega (arith, le, rose.0), λ same. omega (arith, le, rose.0, rose.1 (omega (arith, le, rose.0))))

rose_after : (k m n : ℕ) → CountRose k m → m ≤ n → CountRose k n
rose_after k m n rose le = (omega (arith, le, rose.0), λ same. omega (arith, le, rose.0, rose.1 (omega (arith, le, rose.0, same))))

closed_after : (f f' n n' : ℕ) (c : Closing) → ClosingCounted f f' n n' c → (f ≤ f') × (n ≤ n')
closed_after f f' n n' closing.NotMounted h = absurd h
closed_after f f' n n' closing.Unmounted h = h
closed_after f f' n n' (closing.Ended ended) h = h
closed_after f f' n n' closing.Failed h = (h.0.0, h.1)
closed_after f f' n n' closing.NoMemory h = (h.0, h.1.0)

read_after : (f f' n n' : ℕ) (r : Result Manifest (Stop BundleRefusal)) → StopCounted f f' n n' r → (f ≤ f') × (n ≤ n')
read_after f f' n n' (Ok manifest) h = h
read_after f f' n n' (Err (stop.Refused refusal)) h = h
read_after f f' n n' (Err (stop.Outside kind)) h = (h.0.0, h.1)
read_after f f' n n' (Err stop.NoMemory) h = h

answer_counted : (f g h n m k : ℕ) (r : Result Manifest (Stop BundleRefusal)) → StopCounted f g n m r → g ≤ h → m ≤ k → StopCounted f h n k (bundle_result r)
answer_counted f g h n m k (Ok manifest) c le le' = (omega (arith, c.0, le), omega (arith, c.1, le'))
answer_counted f g h n m k (Err (stop.Refused refusal)) c le le' = (omega (arith, c.0, le), omega (arith, c.1, le'))
answer_counted f g h n m k (Err (stop.Outside kind)) c le le' = (rose_after f g h c.0 le, omega (arith, c.1, le'))
answer_counted f g h n m k (Err stop.NoMemory) c le le' = (omega (arith, c.0, le), omega (arith, c.1, le'))

closing_rose : (f g h n m k : ℕ) (c : Closing) → ClosingCounted g h m k c → f ≤ g → n ≤ m → ClosingRose f h n k c
closing_rose f g h n m k closing.NotMounted c le le' = tt
closing_rose f g h n m k closing.Unmounted c le le' = tt
closing_rose f g h n m k (closing.Ended ended) c le le' = tt
closing_rose f g h n m k closing.Failed c le le' = rose_before f g h le c.0
closing_rose f g h n m k closing.NoMemory c le le' = rose_before n m k le' c.1

closes_as : (f f' n n' : ℕ) (r : Result Manifest (Stop BundleRefusal)) (c : Closing) → ClosingCounted f f' n n' c → ClosesAs (bundle_result r) c
closes_as f f' n n' (Ok manifest) c h = λ e. subst (λ (x : Closing). ClosingCounted f f' n n' x) e h
closes_as f f' n n' (Err (stop.Refused refusal)) c h = λ e. subst (λ (x : Closing). ClosingCounted f f' n n' x) e h
closes_as f f' n n' (Err (stop.Outside kind)) c h = tt
closes_as f f' n n' (Err stop.NoMemory) c h = tt

pub counted_both : (f g h n m k : ℕ) (r : Result Manifest (Stop BundleRefusal)) (c : Closing) → StopCounted f g n m r → ClosingCounted g h m k c → InfoCounted f h n k (record { result = bundle_result r; closing = c })
counted_both f g h n m k r c first second =
    let le = closed_after g h m k c second in
    let before = read_after f g n m r first in
    record { answer = answer_counted f g h n m k r first le.0 le.1; closing = closing_rose f g h n m k c second before.0 before.1; closes = closes_as g h m k r c second }

-- the mount was refused
pub counted_unopened : (f f' n n' : ℕ) (why : Stop MountRefusal) → StopCounted {T = Mounted} f f' n n' (Err why) → InfoCounted f f' n n' (record { result = Err (mount_stop why); closing = closing.NotMounted })
counted_unopened f f' n n' (stop.Refused refusal) h = record { answer = h; closing = tt; closes = refl }
counted_unopened f f' n n' (stop.Outside kind) h = record { answer = h; closing = tt; closes = tt }
counted_unopened f f' n n' stop.NoMemory h = record { answer = h; closing = tt; closes = tt }
