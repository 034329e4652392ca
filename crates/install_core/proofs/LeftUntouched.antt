-- Before its first step an install leaves the slots, the status file and the boot variables alone.
use Rattle.std.proofs.Common.{◌≡◌, ◌⊎◌, inl, inr, Bool, true, false, List, [], ◌∷◌, Result, Ok, Err, IsTrue, refl, sym, ◌∙◌, ap, subst}
use Rattle.std.specs.Prelude.{⊤}
use Rattle.std.proofs.lemmas.Bool.{true≢false}
use Rattle.machine.specs.declared.stops.Stop.{Stop}
use Rattle.machine.specs.declared.stops.Stop.TheVariants.{Refused, Outside, NoMemory}
use Rattle.machine.specs.declared.world.Child.{Child}
use Rattle.machine.specs.declared.world.Spares.{Spares}
use Rattle.machine.specs.declared.world.World.{World}
use Rattle.machine.specs.Past.{Past, world_now}
use Rattle.machine.specs.Runs.{LeftAlone, OnlyRuns}
use Rattle.machine.proofs.Moments.{always_joins, always_now, always_weaker}
use Rattle.system_conf.specs.Configuration.{Configuration}
use Rattle.child_steps.specs.Children.{helper_spares, mounting, umount_child}
use Rattle.child_steps.specs.declared.close.Closing.{Closing}
use Rattle.machine.specs.declared.stops.Fault.{Fault}
use Rattle.system_conf.specs.declared.slot.Slot.{Slot}
use Rattle.install_facts.specs.Answers.{TellsIf}
use Rattle.install_facts.specs.Gathering.{checks_in, facts_since}
use Rattle.install_plan.specs.declared.step.Act.{Act}
use Rattle.install_steps.specs.Progress.{ComesTo}
use Rattle.install_steps.specs.declared.running.Installed.{Installed}
use Rattle.install_steps.specs.declared.running.JobEnd.{JobEnd}
use Rattle.install_facts.specs.Facts.{FactsContent, facts_content}
use Rattle.install_facts.specs.declared.facts.Facts.{Facts}
use Rattle.install_facts.specs.declared.refusal.InstallRefusal.{InstallRefusal}
use Rattle.install_facts.specs.declared.request.Request.{Request}
use Rattle.install_plan.specs.declared.step.Caller.TheVariants as caller
use Rattle.install_plan.specs.declared.step.Caller.{Caller}
use Rattle.install_plan.specs.declared.step.Step.{Step}
use Rattle.install_plan.specs.declared.step.Step.TheVariants as step
use Rattle.install_steps.specs.Causes.{StepRefused, failed_refusal}
use Rattle.machine.specs.declared.world.Ended.{Ended}
use Rattle.updater_text.specs.Sinks.{Shown}
use Rattle.install_facts.specs.declared.report.Note.{Note}
use Rattle.install_core.specs.Course.{Answer, Course, Follows, Installs, IsEnd, installed_if}
use Rattle.install_core.specs.Untouched.{HasFacts, IsSpared, LeavesUntouched, Untouched, comes_before}
use Rattle.install_core.specs.declared.ending.InstallEnd.{InstallEnd}

spared_trans : (spares : Spares) (u v w : World) → IsSpared spares u v → IsSpared spares v w → IsSpared spares u w
spared_trans spares u v w uv vw = record {
  writes = vw.writes ∙ uv.writes;
  lengths = λ path. vw.lengths path ∙ uv.lengths path;
  disks = λ path is. vw.disks path is ∙ uv.disks path is;
  pending = λ path is. vw.pending path is ∙ uv.pending path is;
  files = λ path is. vw.files path is ∙ uv.files path is;
  vars = λ is. vw.vars is ∙ uv.vars is;
}

-- what only runs such children leaves all that alone
pub ran_untouched : (t : Bool) (c : Configuration) (children : List Child) (a b : Past) → OnlyRuns t (helper_spares c []) children a b → Untouched t c a b
ran_untouched t c children a b only = record {
  all = λ told. always_weaker a b (LeftAlone (helper_spares c []) children (world_now a)) (IsSpared (helper_spares c []) (world_now a))
      (λ u left. record { writes = left.writes; lengths = left.lengths; disks = left.disks; pending = left.pending; files = left.files; vars = left.vars }) (only.all told);
}

pub untouched_join : (t : Bool) (c : Configuration) (a b d : Past) → Untouched t c a b → Untouched t c b d → Untouched t c a d
untouched_join t c a b d ab bd = record {
  all = λ told.
      let left = ab.all told in
      let here = always_now a b (IsSpared (helper_spares c []) (world_now a)) left in
      always_joins a b d (IsSpared (helper_spares c []) (world_now a)) left
      (always_weaker b d (IsSpared (helper_spares c []) (world_now b)) (IsSpared (helper_spares c []) (world_now a)) (λ u h. spared_trans (helper_spares c []) (world_now a) (world_now b) u here h) (bd.all told));
}

pub untouched_same : (t : Bool) (c : Configuration) (a b d : Past) → (IsTrue t → d ≡ b) → Untouched t c a b → Untouched t c a d
untouched_same t c a b d same ab = record { all = λ told. (subst (λ (p : Past). Untouched t c a p) (sym (same told)) ab).all told }

-- ---- a step is refused for a cause of its own

failed_later : (who : Caller) (ended : Ended) → comes_before (failed_refusal who ended) ≡ false
failed_later (caller.Handler which) ended = refl
failed_later (caller.Hook which slot) ended = refl

step_later : (c : Configuration) (f : FactsContent) (s : Step) (w v : World) (refusal : InstallRefusal) → StepRefused c f s w v refusal → comes_before refusal ≡ false
step_later c f (step.Run child who) w v refusal h = ap comes_before h.is ∙ failed_later who h.exit.ended
step_later c f (step.Bad root) w v refusal h = ap comes_before h.1
step_later c f (step.Primary root) w v refusal h = ap comes_before h.1
step_later c f (step.Put job put) w v refusal h = ap comes_before h.is
step_later c f (step.Begin slot) w v refusal h = absurd h
step_later c f (step.Settle slot) w v refusal h = absurd h
step_later c f (step.Index job) w v refusal h = absurd h
step_later c f (step.Done job) w v refusal h = absurd h
step_later c f (step.Activated root) w v refusal h = absurd h

abbrev refused : InstallRefusal → Answer
refused refusal = Err (Refused refusal)

same_refusal : (x y : InstallRefusal) → refused x ≡ refused y → x ≡ y
same_refusal x y e = cc

no_fault : (kind : Fault) (y : InstallRefusal) (answer : Answer) → answer ≡ Err (Outside kind) → answer ≡ refused y → ⊥
no_fault kind y answer is e = cc

no_want : (y : InstallRefusal) (answer : Answer) → answer ≡ Err NoMemory → answer ≡ refused y → ⊥
no_want y answer is e = cc

no_success : (installed : Installed) (y : InstallRefusal) (answer : Answer) → answer ≡ Ok installed → answer ≡ refused y → ⊥
no_success installed y answer is e = cc

-- the answer is the refusal that is given
answered : (slots : List Slot) (answer : Answer) (end : InstallEnd) (refusal : InstallRefusal) → IsEnd slots answer end → end.result ≡ refused refusal → answer ≡ refused refusal
answered slots (Ok installed) end refusal is e = absurd (no_success installed refusal end.result is.0 e)
answered slots (Err stop) end refusal (inl h) e = sym h.0 ∙ e
answered slots (Err stop) end refusal (inr h) e = absurd (no_want refusal end.result h.0 e)

module _ (t : Bool) (c : Configuration) (r : Request) (answer : Answer) (refusal : InstallRefusal) (is : answer ≡ refused refusal) (before : comes_before refusal ≡ true) where
  -- no step is refused so
  no_step : (f : FactsContent) (list rest : List Act) (s z : Past) (ends : List JobEnd) (done : Result ⊤ (Stop InstallRefusal)) → ComesTo t c f list rest s z done → answer ≡ installed_if ends done → IsTrue t → ⊥
  no_step f list rest s z ends (Ok x) comes so told = no_success (record { jobs = ends }) refusal answer so is
  no_step f list rest s z ends (Err (Refused other)) comes so told =
      let same = same_refusal other refusal (sym so ∙ is) in
      true≢false (sym before ∙ ap comes_before (sym same) ∙ step_later c f comes.at (world_now s) (world_now z) other (comes.cause told))
  no_step f list rest s z ends (Err (Outside kind)) comes so told = no_fault kind refusal answer so is
  no_step f list rest s z ends (Err NoMemory) comes so told = no_want refusal answer so is

  -- nothing followed the facts
  none_followed : (a g z : Past) (facts : Result Facts (Stop InstallRefusal)) (notes : List Note) → Follows t c g z facts answer notes → Untouched t c a g → Untouched t c a z
  none_followed a g z (Err stop) notes h first = untouched_same t c a g z h.1 first
  none_followed a g z (Ok facts) notes (inr h) first = untouched_same t c a g z h.nothing first
  none_followed a g z (Ok facts) notes (inl h) first = record {
    all = λ told. absurd (no_step (facts_content facts) h.progress.done h.progress.rest h.progress.reached z _ h.done h.progress.comes_to h.is told);
  }

  by_course : (old new : Past) (closed : Closing) (unread : Bool) (notes : List Note) → Course t c r old new answer closed unread notes → Untouched t c old new
  by_course old new closed unread notes (inl h) = ran_untouched t c (mounting c r.bundle) old new h.kept
  by_course old new closed unread notes (inr h) =
      let works = h.worked_on.works in
      let mounted = ran_untouched t c (mounting c r.bundle) old h.mounted h.kept in
      let gathered = ran_untouched t c (checks_in c (world_now h.mounted)) h.mounted works.gathered works.gathers.kept in
      let first = untouched_join t c old h.mounted works.gathered mounted gathered in
      let worked = none_followed old works.gathered h.worked_on.worked works.facts works.after works.follows first in
      untouched_join t c old h.worked_on.worked new worked (ran_untouched t c (umount_child c ∷ []) h.worked_on.worked new h.worked_on.spares)

-- ---- and whatever the answer

module _ (t : Bool) (c : Configuration) (r : Request) (old : Past) where
  unless_gathered : (mounted g z : Past) (facts : Result Facts (Stop InstallRefusal)) (answer : Answer) (notes : List Note) → (IsTrue t → TellsIf facts_content (facts_since c r mounted g) facts) → Follows t c g z facts answer notes → Untouched t c old g → Untouched t c old z ⊎ HasFacts t c r old
  unless_gathered mounted g z (Err stop) answer notes told h first = inl (untouched_same t c old g z h.1 first)
  unless_gathered mounted g z (Ok facts) answer notes told (inr h) first = inl (untouched_same t c old g z h.nothing first)
  unless_gathered mounted g z (Ok facts) answer notes told (inl h) first = inr (record { mounted = mounted; gathered = g; facts = facts_content facts; told = told })

  and_unmounted : (z new : Past) → Untouched t c z new → Untouched t c old z ⊎ HasFacts t c r old → Untouched t c old new ⊎ HasFacts t c r old
  and_unmounted z new last (inl h) = inl (untouched_join t c old z new h last)
  and_unmounted z new last (inr h) = inr h

  unless_course : (new : Past) (answer : Answer) (closed : Closing) (unread : Bool) (notes : List Note) → Course t c r old new answer closed unread notes → Untouched t c old new ⊎ HasFacts t c r old
  unless_course new answer closed unread notes (inl h) = inl (ran_untouched t c (mounting c r.bundle) old new h.kept)
  unless_course new answer closed unread notes (inr h) =
      let works = h.worked_on.works in
      let mounted = ran_untouched t c (mounting c r.bundle) old h.mounted h.kept in
      let gathered = ran_untouched t c (checks_in c (world_now h.mounted)) h.mounted works.gathered works.gathers.kept in
      and_unmounted h.worked_on.worked new (ran_untouched t c (umount_child c ∷ []) h.worked_on.worked new h.worked_on.spares)
      (unless_gathered h.mounted works.gathered h.worked_on.worked works.facts answer works.after works.gathers.answers works.follows (untouched_join t c old h.mounted works.gathered mounted gathered))

-- what an install leaves alone before its first step
pub leaves_untouched : (t : Bool) (c : Configuration) (r : Request) (old new : Past) (stood stands : Shown → List Note → Type 0) (end : InstallEnd) → Installs t c r old new stood stands end → LeavesUntouched t c r old new end
leaves_untouched t c r old new stood stands end went = record {
  refused = λ refusal e before. by_course t c r went.answer refusal (answered c.slots went.answer end refusal went.is e) before old new end.closing end.book_unread went.notes went.course;
  unless = unless_course t c r old new went.answer end.closing end.book_unread went.notes went.course;
}
