-- Which calls failed that gather what an install goes by.
use Rattle.std.proofs.Common.{◌≡◌, ◌||◌, ◌&&◌, inl, inr, ℕ, Bool, true, false, List, [], ◌∷◌, codes, Option, Some, None, Result, Ok, Err, IsTrue, refl, sym, ◌∙◌, ap, subst, bytes_eq}
use Rattle.std.specs.List.{list_all}
use Rattle.std.specs.Option.{option_map_or}
use Rattle.std.proofs.lemmas.Bool.{and_parts, true≢false}
use Rattle.std.proofs.lemmas.Slice.Eq.{bytes_eq-Decides}
use Rattle.keyfile.specs.Groups.{Text}
use Rattle.machine.specs.declared.calls.CallStop.{CallStop}
use Rattle.machine.specs.declared.calls.CallStop.TheVariants.{Failed, NoMemory}
use Rattle.machine.specs.declared.stops.Fault.{Fault}
use Rattle.machine.specs.declared.stops.Fault.TheVariants as fault
use Rattle.machine.specs.Stops.{stop_fault}
use Rattle.install_facts.specs.Stops.{call_stop}
use Rattle.install_facts.specs.declared.refusal.InstallRefusal.{InstallRefusal}
use Rattle.machine.specs.Calls.{Ends, call_fault}
use Rattle.machine.specs.Past.{Call, File, Size, End, Done, Broken, Overlong, Fails, IsCall, Moment, Past, failed_or, failed_since, first_failed, kind_of, moments_since}
use Rattle.machine.specs.Runs.{ReadsOnce, has_failed, is_broken}
use Rattle.machine.proofs.CallsMade.{failed_asked, failed_joins, made_one, no_moments}
use Rattle.raw_writer.specs.Checking.{AsksLengths, asks_length}
use Rattle.status_file.specs.Status.{ReadsAt, ReadsStatus}
use Rattle.system_conf.specs.Configuration.{Configuration}
use Rattle.install_facts.specs.Failing.{FailsIn, is_bundle_call, is_early_call, is_first_call, is_later_call, is_target_call}

-- a call that failed, or that memory was out for
pub fault_called : (T S : Type 0) (kind : Fault) (stop : CallStop) → stop_fault {T = T} {R = InstallRefusal} (Err (call_stop kind stop)) ≡ call_fault {T = S} kind (Err stop)
fault_called T S kind Failed = refl
fault_called T S kind NoMemory = refl

-- none failed
pub fine_in : (t : Bool) (asked : Call → Bool) (a b : Past) (fault : Option Fault) → fault ≡ None → FailsIn t asked a b fault
fine_in t asked a b fault none = record { failed = λ told kind is. absurd (cc) }

-- one call
pub one_in : {T : Type 0} (t : Bool) (asked : Call → Bool) (a b : Past) (call : Call) (result : Result T CallStop) (fault : Option Fault) → (IsTrue t → Ends a b call result) → asked call ≡ true → fault ≡ call_fault (kind_of call) result → FailsIn t asked a b fault
one_in t asked a b call (Ok x) fault ends is same = fine_in t asked a b fault same
one_in t asked a b call (Err Failed) fault ends is same = record { failed = λ told kind e. failed_asked asked a b call (ends told) is }
one_in t asked a b call (Err NoMemory) fault ends is same = fine_in t asked a b fault same

broken_one : (asked : Call → Bool) (path : List ℕ) (a b : Past) (end : End) (kind : Fault) → IsCall a b (File path) end → asked (File path) ≡ true → failed_or end (kind_of (File path)) None ≡ Some kind → has_failed asked (moments_since a b) ≡ true
broken_one asked path a b Done kind did is e = absurd (cc)
broken_one asked path a b Overlong kind did is e = absurd (cc)
broken_one asked path a b Broken kind did is e = failed_asked asked a b (File path) did is

failed_read : (asked : Call → Bool) (path : List ℕ) (a b : Past) (kind : Fault) → ReadsOnce path a b → asked (File path) ≡ true → failed_since a b ≡ Some kind → has_failed asked (moments_since a b) ≡ true
failed_read asked path a b kind (inl same) is e = absurd (nothing (ap first_failed (no_moments a b same)) e)
  where
    nothing : failed_since a b ≡ None → failed_since a b ≡ Some kind → ⊥
    nothing none some = cc
failed_read asked path a b kind (inr did) is e =
    broken_one asked path a b did.0 kind did.1 is (sym (ap first_failed (made_one a b (File path) did.0 did.1)) ∙ e)

-- a file was read
pub once_in : (t : Bool) (asked : Call → Bool) (path : List ℕ) (a b : Past) (fault : Option Fault) → (IsTrue t → ReadsOnce path a b) → asked (File path) ≡ true → Fails t a b fault → FailsIn t asked a b fault
once_in t asked path a b fault once is fails = record { failed = λ told kind e. failed_read asked path a b kind (once told) is (fails.first told ∙ e) }

failed_lengths : (asked : Call → Bool) (ms : List Moment) (kind : Fault) → ((path : List ℕ) → asked (Size path) ≡ true) → list_all (λ (m : Moment). asks_length m.call) ms ≡ true → first_failed ms ≡ Some kind → has_failed asked ms ≡ true
failed_lengths asked [] kind is all e = absurd (cc)
failed_lengths asked (m ∷ ms) kind is all e =
    let both = and_parts (asks_length m.call) (list_all (λ (n : Moment). asks_length n.call) ms) all in
    go m.end (is_asked m.call both.0) e (λ later. failed_lengths asked ms kind is both.1 later)
  where
    is_asked : (call : Call) → asks_length call ≡ true → asked call ≡ true
    is_asked (Size path) h = is path
    is_asked other h = absurd (true≢false (sym h))

    go : (end : End) → asked m.call ≡ true → failed_or end (kind_of m.call) (first_failed ms) ≡ Some kind → (first_failed ms ≡ Some kind → has_failed asked ms ≡ true) → (asked m.call && is_broken end || has_failed asked ms) ≡ true
    go Broken one h more = ap (λ (b : Bool). b && true || has_failed asked ms) one
    go Done one h more = ap (λ (b : Bool). b && false || has_failed asked ms) one ∙ more h
    go Overlong one h more = ap (λ (b : Bool). b && false || has_failed asked ms) one ∙ more h

-- lengths were asked for
pub lengths_in : (t : Bool) (asked : Call → Bool) (a b : Past) (fault : Option Fault) → AsksLengths t a b → ((path : List ℕ) → asked (Size path) ≡ true) → Fails t a b fault → FailsIn t asked a b fault
lengths_in t asked a b fault asks is fails = record { failed = λ told kind e. failed_lengths asked (moments_since a b) kind is (asks.all told) (fails.first told ∙ e) }

-- nothing failed before
pub then_in : (t : Bool) (asked : Call → Bool) (a b c : Past) (fault : Option Fault) → Fails t a b None → Fails t b c fault → FailsIn t asked b c fault → FailsIn t asked a c fault
then_in t asked a b c fault fine fails later = record {
  failed = λ told kind e. failed_joins asked a b c (fine.grows told) (fails.grows told) (fine.first told) ∙ later.failed told kind e;
}

failed_wider : (asked wider : Call → Bool) (ms : List Moment) → ((call : Call) → asked call ≡ true → wider call ≡ true) → has_failed asked ms ≡ true → has_failed wider ms ≡ true
failed_wider asked wider [] turns h = h
failed_wider asked wider (m ∷ ms) turns h = go (asked m.call) refl h (λ later. failed_wider asked wider ms turns later)
  where
    onto : (b c : Bool) → (c ≡ true → has_failed wider ms ≡ true) → (b || c) ≡ true → (b || has_failed wider ms) ≡ true
    onto true c f e = refl
    onto false c f e = f e

    either : (b : Bool) → has_failed wider ms ≡ true → (b || has_failed wider ms) ≡ true
    either true e = refl
    either false e = e

    go : (b : Bool) → asked m.call ≡ b → (b && is_broken m.end || has_failed asked ms) ≡ true → (has_failed asked ms ≡ true → has_failed wider ms ≡ true) → (wider m.call && is_broken m.end || has_failed wider ms) ≡ true
    go true one e more = ap (λ (b : Bool). b && is_broken m.end || has_failed wider ms) (turns m.call one) ∙ onto (is_broken m.end) (has_failed asked ms) more e
    go false one e more = either (wider m.call && is_broken m.end) (more e)

-- of more calls
pub wider_in : (t : Bool) (asked wider : Call → Bool) (a b : Past) (fault : Option Fault) → ((call : Call) → asked call ≡ true → wider call ≡ true) → FailsIn t asked a b fault → FailsIn t wider a b fault
wider_in t asked wider a b fault turns in_ = record { failed = λ told kind e. failed_wider asked wider (moments_since a b) turns (in_.failed told kind e) }

or_left : (a b : Bool) → a ≡ true → (a || b) ≡ true
or_left true b h = refl
or_left false b h = absurd (true≢false (sym h))

or_right : (a b : Bool) → b ≡ true → (a || b) ≡ true
or_right true b h = refl
or_right false b h = h

pub first_is_early : (c : Configuration) (call : Call) → is_first_call c call ≡ true → is_early_call c call ≡ true
first_is_early c call h = or_left (is_first_call c call) (is_bundle_call c call) h

pub bundle_is_early : (c : Configuration) (call : Call) → is_bundle_call c call ≡ true → is_early_call c call ≡ true
bundle_is_early c call h = or_right (is_first_call c call) (is_bundle_call c call) h

pub bundle_is_later : (c : Configuration) (call : Call) → is_bundle_call c call ≡ true → is_later_call c call ≡ true
bundle_is_later c call h = or_left (is_bundle_call c call) (is_target_call call) h

pub target_is_later : (c : Configuration) (call : Call) → is_target_call call ≡ true → is_later_call c call ≡ true
target_is_later c call h = or_right (is_bundle_call c call) (is_target_call call) h

-- what tells what is booted
pub cmdline_in : (t : Bool) (c : Configuration) (a b : Past) (fault : Option Fault) → (IsTrue t → ReadsOnce (codes "/proc/cmdline") a b) → Fails t a b fault → FailsIn t (is_first_call c) a b fault
cmdline_in t c a b fault once fails = once_in t (is_first_call c) (codes "/proc/cmdline") a b fault once refl fails

-- the status file
pub status_in : (t : Bool) (c : Configuration) (a b : Past) (fault : Option Fault) → (IsTrue t → ReadsStatus c a b) → Fails t a b fault → FailsIn t (is_first_call c) a b fault
status_in t c a b fault once fails = go c.status_file refl once
  where
    is_first : (path : Text) → c.status_file ≡ Some path → is_first_call c (File path) ≡ true
    is_first path is =
        or_right (bytes_eq path (codes "/proc/cmdline")) (option_map_or (bytes_eq path) c.status_file false)
        (ap (λ (o : Option Text). option_map_or (bytes_eq path) o false) is ∙ (bytes_eq-Decides path path).1 refl)

    go : (o : Option Text) → c.status_file ≡ o → (IsTrue t → ReadsAt o a b) → FailsIn t (is_first_call c) a b fault
    go None is read = record { failed = λ told kind e. absurd (none kind (ap first_failed (no_moments a b (read told))) (fails.first told ∙ e)) }
      where
        none : (kind : Fault) → failed_since a b ≡ None → failed_since a b ≡ Some kind → ⊥
        none kind x y = cc
    go (Some path) is read = once_in t (is_first_call c) path a b fault read (is_first path is) fails

-- and the call that told what is booted did not fail
pub failing_status : (T S : Type 0) (t : Bool) (c : Configuration) (a m z : Past) (stop : CallStop) → Fails t a m None → (IsTrue t → ReadsStatus c m z) → Fails t m z (call_fault {T = S} fault.Read (Err stop)) → FailsIn t (is_first_call c) a z (stop_fault {T = T} {R = InstallRefusal} (Err (call_stop fault.Read stop)))
failing_status T S t c a m z stop fine once fails =
    subst (λ (f : Option Fault). FailsIn t (is_first_call c) a z f) (sym (fault_called T S fault.Read stop))
    (then_in t (is_first_call c) a m z (call_fault {T = S} fault.Read (Err stop)) fine fails (status_in t c m z (call_fault {T = S} fault.Read (Err stop)) once fails))
