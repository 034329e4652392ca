-- An install tells the first call that failed, but for the unmount's.
use Rattle.std.proofs.Common.{◌≡◌, inl, inr, ◌-◌, ◌++◌, ℕ, Bool, List, [], ◌∷◌, length, take, Option, None, Result, Ok, Err, IsTrue, refl, sym, ◌∙◌, ap, subst, arith}
use Rattle.std.specs.Prelude.{⊤}
use Rattle.std.proofs.lemmas.List.{length-append}
use Rattle.std.proofs.Math.Seq.{take-append_seam}
use Rattle.machine.specs.declared.stops.Fault.{Fault}
use Rattle.machine.specs.declared.stops.Stop.{Stop}
use Rattle.machine.specs.declared.stops.Stop.TheVariants.{Refused, Outside, NoMemory}
use Rattle.machine.specs.declared.world.Child.{Child}
use Rattle.machine.specs.Past.{Call, End, Fails, Grows, IsCall, Moment, Past, Run, Done, Broken, but_last, first_failed, moments_since, world_now}
use Rattle.machine.specs.Stops.{stop_fault}
use Rattle.machine.proofs.CallsMade.{made_one}
use Rattle.machine.proofs.Failing.{fails_join}
use Rattle.machine.proofs.Moments.{did_grows, made_joins}
use Rattle.system_conf.specs.Configuration.{Configuration}
use Rattle.system_conf.specs.declared.slot.Slot.{Slot}
use Rattle.child_steps.specs.Children.{umount_child}
use Rattle.child_steps.specs.Closing.{ClosingEnds}
use Rattle.child_steps.specs.declared.close.Closing.{Closing}
use Rattle.child_steps.specs.declared.close.Closing.TheVariants as closing
use Rattle.child_steps.specs.declared.mounted.Mounted.{Mounted}
use Rattle.child_steps.specs.declared.refusal.MountRefusal.{MountRefusal}
use Rattle.updater_text.specs.Sinks.{Shown}
use Rattle.install_facts.specs.declared.facts.Facts.{Facts}
use Rattle.install_facts.specs.declared.refusal.InstallRefusal.{InstallRefusal}
use Rattle.install_facts.specs.declared.report.Note.{Note}
use Rattle.install_facts.specs.declared.request.Request.{Request}
use Rattle.install_steps.specs.declared.running.JobEnd.{JobEnd}
use Rattle.install_core.specs.Course.{Answer, Course, Follows, Installs, IsEnd, installed_if, mount_stop}
use Rattle.install_core.specs.Faults.{FaultTold, TellsFault, before_unmount}
use Rattle.install_core.specs.declared.ending.InstallEnd.{InstallEnd}

-- ---- the last call

one_less : (ms : List Moment) (m : Moment) → but_last (ms ++ m ∷ []) ≡ ms
one_less ms m =
    let long : length (ms ++ m ∷ []) - 1 ≡ length ms = omega (arith, length-append ms (m ∷ [])) in
    ap (λ (n : ℕ). take n (ms ++ m ∷ [])) long ∙ take-append_seam ms (m ∷ [])

called_last : (a z new : Past) (call : Call) (end : End) → Grows a z → IsCall z new call end → but_last (moments_since a new) ≡ moments_since a z
called_last a z new call end az did =
    ap (λ (ms : List Moment). but_last ms) (made_joins a z new az (did_grows z new call end did) ∙ ap (λ (ms : List Moment). moments_since a z ++ ms) (made_one z new call end did))
    ∙ one_less (moments_since a z) (record { call = call; end = end; after = world_now new })

-- the calls but for the unmount are those before it
before_it : (child : Child) (a z new : Past) (closed : Closing) → Grows a z → ClosingEnds child z new closed → before_unmount closed a new ≡ moments_since a z
before_it child a z new closing.NotMounted az ends = absurd ends
before_it child a z new closing.Unmounted az ends = called_last a z new (Run child) Done az ends.call
before_it child a z new (closing.Ended ended) az ends = called_last a z new (Run child) Done az ends.0.call
before_it child a z new closing.Failed az ends = called_last a z new (Run child) Broken az ends
before_it child a z new closing.NoMemory az ends = ap (λ (p : Past). moments_since a p) ends

-- ---- what failed before it

fault_done : (ends : List JobEnd) (done : Result ⊤ (Stop InstallRefusal)) → stop_fault (installed_if ends done) ≡ stop_fault done
fault_done ends (Ok x) = refl
fault_done ends (Err (Refused why)) = refl
fault_done ends (Err (Outside kind)) = refl
fault_done ends (Err NoMemory) = refl

fault_mount : (stop : Stop MountRefusal) (answer : Answer) → answer ≡ Err (mount_stop stop) → stop_fault {T = Mounted} (Err stop) ≡ stop_fault answer
fault_mount (Refused why) answer is = ap (λ (a : Answer). stop_fault a) (sym is)
fault_mount (Outside kind) answer is = ap (λ (a : Answer). stop_fault a) (sym is)
fault_mount NoMemory answer is = ap (λ (a : Answer). stop_fault a) (sym is)

fault_gathered : (stop : Stop InstallRefusal) (answer : Answer) → answer ≡ Err stop → stop_fault {T = Facts} (Err stop) ≡ stop_fault answer
fault_gathered (Refused why) answer is = ap (λ (a : Answer). stop_fault a) (sym is)
fault_gathered (Outside kind) answer is = ap (λ (a : Answer). stop_fault a) (sym is)
fault_gathered NoMemory answer is = ap (λ (a : Answer). stop_fault a) (sym is)

fails_same : (t : Bool) (a g z : Past) (fault : Option Fault) → (IsTrue t → z ≡ g) → Fails t a g fault → Fails t a z fault
fails_same t a g z fault same fails = record {
  grows = λ told. (subst (λ (p : Past). Fails t a p fault) (sym (same told)) fails).grows told;
  first = λ told. (subst (λ (p : Past). Fails t a p fault) (sym (same told)) fails).first told;
  before = λ told. (subst (λ (p : Past). Fails t a p fault) (sym (same told)) fails).before told;
}

fails_with : (t : Bool) (a z : Past) (fault other : Option Fault) → fault ≡ other → Fails t a z fault → Fails t a z other
fails_with t a z fault other same fails = subst (λ (f : Option Fault). Fails t a z f) same fails

module _ (t : Bool) (c : Configuration) (r : Request) (answer : Answer) where
  followed : (a g z : Past) (facts : Result Facts (Stop InstallRefusal)) (notes : List Note) → Fails t a g (stop_fault facts) → Follows t c g z facts answer notes → Fails t a z (stop_fault answer)
  followed a g z (Err stop) notes fails h = fails_with t a z (stop_fault {T = Facts} (Err stop)) (stop_fault answer) (fault_gathered stop answer h.0) (fails_same t a g z (stop_fault {T = Facts} (Err stop)) h.1 fails)
  followed a g z (Ok facts) notes fails (inr h) = fails_with t a z None (stop_fault answer) (ap (λ (x : Answer). stop_fault x) (sym h.is)) (fails_same t a g z None h.nothing fails)
  followed a g z (Ok facts) notes fails (inl h) =
      fails_with t a z (stop_fault h.done) (stop_fault answer) (sym (ap (λ (x : Answer). stop_fault x) h.is ∙ fault_done _ h.done))
      (fails_join t a g z (stop_fault h.done) fails h.progress.fails)

  first_told : (old new : Past) (closed : Closing) (unread : Bool) (notes : List Note) → Course t c r old new answer closed unread notes → IsTrue t → first_failed (before_unmount closed old new) ≡ stop_fault answer
  first_told old new closed unread notes (inl h) told =
      ap (λ (x : Closing). first_failed (before_unmount x old new)) h.closes ∙ h.fails.first told ∙ fault_mount h.stop answer h.is
  first_told old new closed unread notes (inr h) told =
      let works = h.worked_on.works in
      let inner = followed h.mounted works.gathered h.worked_on.worked works.facts works.after works.gathers.fails works.follows in
      let all = fails_join t old h.mounted h.worked_on.worked (stop_fault answer) h.fails inner in
      ap first_failed (before_it (umount_child c) old h.worked_on.worked new closed (all.grows told) (h.worked_on.closes told)) ∙ all.first told

-- ---- the answer that is given

told_by : (fault : Option Fault) (answer : Answer) → fault ≡ stop_fault answer → TellsFault fault answer
told_by fault (Ok installed) e = e
told_by fault (Err (Refused why)) e = e
told_by fault (Err (Outside kind)) e = e
told_by fault (Err NoMemory) e = tt

given_told : (slots : List Slot) (answer : Answer) (end : InstallEnd) (fault : Option Fault) → IsEnd slots answer end → fault ≡ stop_fault answer → TellsFault fault end.result
given_told slots (Ok installed) end fault is e = subst (λ (a : Answer). TellsFault fault a) (sym is.0) (told_by fault (Ok installed) e)
given_told slots (Err stop) end fault (inl h) e = subst (λ (a : Answer). TellsFault fault a) (sym h.0) (told_by fault (Err stop) e)
given_told slots (Err stop) end fault (inr h) e = subst (λ (a : Answer). TellsFault fault a) (sym h.0) tt

pub fault_told : (t : Bool) (c : Configuration) (r : Request) (old new : Past) (stood stands : Shown → List Note → Type 0) (end : InstallEnd) → Installs t c r old new stood stands end → FaultTold t old new end
fault_told t c r old new stood stands end went = record {
  first = λ told. given_told c.slots went.answer end (first_failed (before_unmount end.closing old new)) went.is
      (first_told t c r went.answer old new end.closing end.book_unread went.notes went.course told);
}
