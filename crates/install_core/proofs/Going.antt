-- How an install went, put together from its calls.
use Rattle.std.proofs.Common.{◌≡◌, ◌≤◌, ℕ, arith, inl, inr, Bool, false, List, [], ◌∷◌, ◌++◌, None, Result, Ok, Err, IsTrue, refl, sym, subst, append_assoc}
use Rattle.std.specs.Prelude.{IfOk}
use Rattle.machine.specs.declared.stops.Stop.{Stop}
use Rattle.machine.specs.Past.{Fails, Past, world_now}
use Rattle.machine.specs.Runs.{OnlyRuns}
use Rattle.machine.specs.Stops.{StopCounted, stop_fault}
use Rattle.machine.specs.declared.stops.Stop.TheVariants.{Refused, Outside, NoMemory}
use Rattle.updater_text.specs.Counts.{CountRose}
use Rattle.install_steps.specs.declared.running.Installed.{Installed}
use Rattle.system_conf.specs.Configuration.{Configuration}
use Rattle.child_steps.specs.Children.{helper_spares, mounting, umount_child}
use Rattle.child_steps.specs.Closing.{ClosingEnds}
use Rattle.child_steps.specs.Mounting.{MountEnds}
use Rattle.child_steps.specs.declared.close.Closing.{Closing}
use Rattle.child_steps.specs.declared.close.Closing.TheVariants as closing
use Rattle.child_steps.specs.declared.mounted.Mounted.{Mounted}
use Rattle.child_steps.specs.declared.refusal.MountRefusal.{MountRefusal}
use Rattle.updater_text.specs.Sinks.{Shown}
use Rattle.install_facts.specs.Answers.{TellsIf}
use Rattle.install_facts.specs.Facts.{AreSound, facts_content}
use Rattle.install_facts.specs.Gathering.{GatherNotes, Noted, UnreadTold, checks_in, facts_since}
use Rattle.install_facts.specs.Notes.{AddsNotes}
use Rattle.install_facts.specs.declared.facts.Facts.{Facts}
use Rattle.install_facts.specs.declared.refusal.InstallRefusal.{InstallRefusal}
use Rattle.install_facts.specs.declared.report.Note.{Note}
use Rattle.install_facts.specs.declared.request.Request.{Request}
use Rattle.install_core.specs.Course.{Answer, CountedIf, Course, Follows, Installs, IsEnd, WorkedOn, Works, first_note, mount_stop, mounted_note}
use Rattle.install_core.specs.declared.ending.InstallEnd.{InstallEnd}

-- notes, and then more
both_added : (first between last : Shown → List Note → Type 0) (ns ms : List Note) → AddsNotes first between ns → AddsNotes between last ms → AddsNotes first last (ns ++ ms)
both_added first between last ns ms one two start notes h = subst (λ (all : List Note). last start all) (append_assoc notes ns ms) (two start (notes ++ ns) (one start notes h))

counted_later : (k m n p q r : ℕ) (answer : Answer) → k ≤ m → p ≤ q → StopCounted m n q r answer → StopCounted k n p r answer
counted_later k m n p q r (Ok x) km pq h = (omega (arith, km, h.0), omega (arith, pq, h.1))
counted_later k m n p q r (Err (Refused why)) km pq h = (omega (arith, km, h.0), omega (arith, pq, h.1))
counted_later k m n p q r (Err (Outside kind)) km pq h = ((omega (arith, km, h.0.0), λ same. h.0.1 (omega (arith, km, h.0.0, same))), omega (arith, pq, h.1))
counted_later k m n p q r (Err NoMemory) km pq h = (omega (arith, km, h.0), omega (arith, pq, h.1))

same_stop : (k m n p q r : ℕ) (stop : Stop InstallRefusal) → n ≡ m → r ≡ q → StopCounted {T = Facts} k m p q (Err stop) → StopCounted {T = Installed} k n p r (Err stop)
same_stop k m n p q r (Refused why) faults wants h = (omega (arith, faults, h.0), omega (arith, wants, h.1))
same_stop k m n p q r (Outside kind) faults wants h = subst (λ (x : ℕ). CountRose k x × (p ≤ r)) (sym faults) (h.0, omega (arith, wants, h.1))
same_stop k m n p q r NoMemory faults wants h = (omega (arith, faults, h.0), omega (arith, wants, h.1))

-- the counts of gathering, and then of what followed
pub counted_if : (k m n p q r : ℕ) (facts : Result Facts (Stop InstallRefusal)) (answer : Answer) → StopCounted k m p q facts → CountedIf facts m n q r answer → StopCounted k n p r answer
counted_if k m n p q r (Ok facts) answer first then = counted_later k m n p q r answer first.0 first.1 then
counted_if k m n p q r (Err stop) answer first then = subst (λ (a : Answer). StopCounted k n p r a) (sym then.0) (same_stop k m n p q r stop then.1 then.2 first)

module _ (t : Bool) (c : Configuration) (r : Request) (s0 s1 s2 : Shown → List Note → Type 0) where
  -- the facts were gathered, and the steps followed
  pub works_noted : (a g z : Past) (facts : Result Facts (Stop InstallRefusal)) (answer : Answer) (unread : Bool)
      → OnlyRuns t (helper_spares c []) (checks_in c (world_now a)) a g → (IsTrue t → TellsIf facts_content (facts_since c r a g) facts) → IfOk facts (λ f. AreSound c (facts_content f))
      → (IsTrue t → UnreadTold c r.given_boot a g facts unread) → Fails t a g (stop_fault facts) → Noted s0 s1 (GatherNotes t c a g facts) → Noted s1 s2 (Follows t c g z facts answer) → Noted s0 s2 (Works t c r a z answer unread)
  works_noted a g z facts answer unread kept answers sound file fails before after = record {
    notes = before.notes ++ after.notes;
    are = record {
      gathered = g;
      facts = facts;
      before = before.notes;
      after = after.notes;
      gathers = record { kept = kept; answers = answers; sound = sound; file = file; noted = before.are; fails = fails };
      follows = after.are;
      all = refl;
    };
    added = both_added s0 s1 s2 before.notes after.notes before.added after.added;
  }

  -- it was worked with, and then unmounted
  pub worked_noted : (a z new : Past) (answer : Answer) (closed : Closing) (unread : Bool) → AddsNotes s0 s1 (mounted_note ∷ []) → Noted s1 s2 (Works t c r a z answer unread)
      → OnlyRuns t (umount_child c).spares (umount_child c ∷ []) z new → (IsTrue t → ClosingEnds (umount_child c) z new closed) → Noted s0 s2 (WorkedOn t c r a new answer closed unread)
  worked_noted a z new answer closed unread first works spares closes = record {
    notes = mounted_note ∷ works.notes;
    are = record { worked = z; later = works.notes; works = works.are; spares = spares; closes = closes; noted = refl };
    added = both_added s0 s1 s2 (mounted_note ∷ []) works.notes first works.added;
  }

  as_ended : (old new : Past) (answer : Answer) (closed : Closing) (unread : Bool) (notes : List Note) (end : InstallEnd) → end.closing ≡ closed → end.book_unread ≡ unread → Course t c r old new answer closed unread notes → Course t c r old new answer end.closing end.book_unread notes
  as_ended old new answer closed unread notes end is file course =
      subst (λ (x : Closing). Course t c r old new answer x end.book_unread notes) (sym is) (subst (λ (b : Bool). Course t c r old new answer closed b notes) (sym file) course)

  -- the bundle was mounted
  pub installs_mounted : (old a new : Past) (bundle : Mounted) (answer : Answer) (closed : Closing) (unread : Bool) (end : InstallEnd) → AddsNotes s0 s1 (first_note ∷ []) → (IsTrue t → MountEnds c r.bundle old a (Ok bundle))
      → OnlyRuns t (helper_spares c []) (mounting c r.bundle) old a → Fails t old a None → Noted s1 s2 (WorkedOn t c r a new answer closed unread) → IsEnd c.slots answer end → end.closing ≡ closed → end.book_unread ≡ unread → Installs t c r old new s0 s2 end
  installs_mounted old a new bundle answer closed unread end first ends kept fails worked is at file = record {
    answer = answer;
    notes = first_note ∷ worked.notes;
    course = as_ended old new answer closed unread (first_note ∷ worked.notes) end at file
        (inr (record { mounted = a; bundle = bundle; later = worked.notes; ends = ends; kept = kept; fails = fails; worked_on = worked.are; noted = refl }));
    is = is;
    added = both_added s0 s1 s2 (first_note ∷ []) worked.notes first worked.added;
  }

  -- it was not
  pub installs_unmounted : (old new : Past) (stop : Stop MountRefusal) (answer : Answer) (end : InstallEnd) → AddsNotes s0 s1 (first_note ∷ []) → (IsTrue t → MountEnds c r.bundle old new (Err stop))
      → OnlyRuns t (helper_spares c []) (mounting c r.bundle) old new → Fails t old new (stop_fault {T = Mounted} (Err stop)) → answer ≡ Err (mount_stop stop) → IsEnd c.slots answer end → end.closing ≡ closing.NotMounted → end.book_unread ≡ false → Installs t c r old new s0 s1 end
  installs_unmounted old new stop answer end first ends kept fails answered is at file = record {
    answer = answer;
    notes = first_note ∷ [];
    course = as_ended old new answer closing.NotMounted false (first_note ∷ []) end at file
        (inl (record { stop = stop; ends = ends; kept = kept; fails = fails; is = answered; closes = refl; file = refl; noted = refl }));
    is = is;
    added = first;
  }
