-- Which call failed first, and whether it was the last.
use Rattle.std.proofs.Common.{◌≡◌, ◌++◌, ◌+◌, ◌-◌, ℕ, Bool, List, [], ◌∷◌, length, take, Option, None, Result, Ok, Err, IsTrue, refl, sym, ◌∙◌, ap, subst, arith}
use Rattle.std.proofs.lemmas.List.{append-nil, length-append}
use Rattle.std.proofs.Math.Seq.{take-append-add}
use Rattle.machine.specs.declared.stops.Fault.{Fault}
use Rattle.machine.specs.declared.calls.CallStop.{CallStop}
use Rattle.machine.specs.declared.calls.CallStop.TheVariants.{Failed, NoMemory}
use Rattle.machine.specs.declared.calls.ReadStop.{ReadStop}
use Rattle.machine.specs.declared.calls.ReadStop.TheVariants as read
use Rattle.machine.specs.declared.calls.RunStop.{RunStop}
use Rattle.machine.specs.declared.calls.RunStop.TheVariants as run
use Rattle.machine.specs.declared.world.Child.{Child}
use Rattle.machine.specs.declared.world.Exit.{Exit}
use Rattle.machine.specs.Past.{Call, File, Run, End, Done, Broken, Overlong, Moment, Past, world_now, moments_since, Grows, IsCall, kind_of, failed_or, first_failed, failed_since, but_last, Fails}
use Rattle.machine.specs.Calls.{Ends, FileEnds, RunEnds, call_fault, file_fault, run_fault}
use Rattle.machine.proofs.Moments.{made_more, made_none, made_joins, grows_refl, grows_trans, did_grows}

failed_or-append : (end : End) (kind : Fault) (later after all : Option Fault) → (later ≡ None → all ≡ after) → failed_or end kind later ≡ None → failed_or end kind all ≡ after
failed_or-append Done kind later after all f e = f e
failed_or-append Overlong kind later after all f e = f e
failed_or-append Broken kind later after all f e = cc

first_failed-append : (ms ns : List Moment) → first_failed ms ≡ None → first_failed (ms ++ ns) ≡ first_failed ns
first_failed-append [] ns e = refl
first_failed-append (m ∷ ms) ns e =
    failed_or-append m.end (kind_of m.call) (first_failed ms) (first_failed ns) (first_failed (ms ++ ns)) (λ h. first_failed-append ms ns h) e

-- but for the last
but_last-append : (ms : List Moment) (n : Moment) (ns : List Moment) → but_last (ms ++ n ∷ ns) ≡ ms ++ but_last (n ∷ ns)
but_last-append ms n ns =
    let more : length (ms ++ n ∷ ns) - 1 ≡ length ms + (length (n ∷ ns) - 1) = omega (arith, length-append ms (n ∷ ns)) in
    ap (λ (k : ℕ). take k (ms ++ n ∷ ns)) more ∙ take-append-add ms (n ∷ ns) (length (n ∷ ns) - 1)

before-append : (ms ns : List Moment) → first_failed ms ≡ None → first_failed (but_last ms) ≡ None → first_failed (but_last ns) ≡ None → first_failed (but_last (ms ++ ns)) ≡ None
before-append ms [] all left right = ap (λ (xs : List Moment). first_failed (but_last xs)) (append-nil ms) ∙ left
before-append ms (n ∷ ns) all left right =
    ap first_failed (but_last-append ms n ns) ∙ first_failed-append ms (but_last (n ∷ ns)) all ∙ right

-- nothing done
pub fails_none : (t : Bool) (a : Past) → Fails t a a None
fails_none t a = record { grows = λ told. grows_refl a; first = λ told. ap first_failed (made_none a); before = λ told. ap (λ (ms : List Moment). first_failed (but_last ms)) (made_none a) }

-- what failed since a moment, where nothing failed before
pub failed_joins : (a b c : Past) → Grows a b → Grows b c → failed_since a b ≡ None → failed_since a c ≡ failed_since b c
failed_joins a b c ab bc none = ap first_failed (made_joins a b c ab bc) ∙ first_failed-append (moments_since a b) (moments_since b c) none

-- one run after another
pub fails_join : (t : Bool) (a b c : Past) (kind : Option Fault) → Fails t a b None → Fails t b c kind → Fails t a c kind
fails_join t a b c kind ab bc = record {
  grows = λ told. grows_trans a b c (ab.grows told) (bc.grows told);
  first = λ told. ap first_failed (made_joins a b c (ab.grows told) (bc.grows told)) ∙ first_failed-append (moments_since a b) (moments_since b c) (ab.first told) ∙ bc.first told;
  before = λ told. ap (λ (ms : List Moment). first_failed (but_last ms)) (made_joins a b c (ab.grows told) (bc.grows told)) ∙ before-append (moments_since a b) (moments_since b c) (ab.first told) (ab.before told) (bc.before told);
}

-- one call
did_made : (a b : Past) (call : Call) (end : End) → IsCall a b call end → moments_since a b ≡ record { call = call; end = end; after = world_now b } ∷ []
did_made a b call end did = ap (λ (p : Past). moments_since a p) did.grows ∙ made_more a (record { call = call; end = end; after = world_now b } ∷ [])

same_fails : (t : Bool) (a b : Past) → (IsTrue t → b ≡ a) → Fails t a b None
same_fails t a b same = record {
  grows = λ told. subst (λ (q : Past). Grows a q) (sym (same told)) (grows_refl a);
  first = λ told. subst (λ (q : Past). failed_since a q ≡ None) (sym (same told)) ((fails_none t a).first told);
  before = λ told. subst (λ (q : Past). first_failed (but_last (moments_since a q)) ≡ None) (sym (same told)) ((fails_none t a).before told);
}

one_fails : (t : Bool) (a b : Past) (call : Call) (end : End) → (IsTrue t → IsCall a b call end) → Fails t a b (failed_or end (kind_of call) None)
one_fails t a b call end did = record {
  grows = λ told. did_grows a b call end (did told);
  first = λ told. ap first_failed (did_made a b call end (did told));
  before = λ told. ap (λ (ms : List Moment). first_failed (but_last ms)) (did_made a b call end (did told));
}

pub fails_call : {T : Type 0} (t : Bool) (a b : Past) (call : Call) (result : Result T CallStop) → (IsTrue t → Ends a b call result) → Fails t a b (call_fault (kind_of call) result)
fails_call t a b call (Ok x) ends = one_fails t a b call Done ends
fails_call t a b call (Err Failed) ends = one_fails t a b call Broken ends
fails_call t a b call (Err NoMemory) ends = same_fails t a b ends

pub fails_file : {T : Type 0} (t : Bool) (a b : Past) (path : List ℕ) (result : Result T ReadStop) → (IsTrue t → FileEnds a b path result) → Fails t a b (file_fault result)
fails_file t a b path (Ok x) ends = one_fails t a b (File path) Done ends
fails_file t a b path (Err read.Failed) ends = one_fails t a b (File path) Broken ends
fails_file t a b path (Err (read.TooLong n)) ends = one_fails t a b (File path) Overlong ends
fails_file t a b path (Err read.NoMemory) ends = same_fails t a b ends

pub fails_run : (t : Bool) (a b : Past) (child : Child) (result : Result Exit RunStop) → (IsTrue t → RunEnds a b child result) → Fails t a b (run_fault result)
fails_run t a b child (Ok exit) ends = one_fails t a b (Run child) Done (λ told. (ends told).0)
fails_run t a b child (Err run.Failed) ends = one_fails t a b (Run child) Broken ends
fails_run t a b child (Err run.NoMemory) ends = same_fails t a b ends
