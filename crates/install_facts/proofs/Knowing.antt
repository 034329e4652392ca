-- What is known of a bundle that is mounted, and whether it is accepted.
use Rattle.std.proofs.Common.{◌≡◌, Bool, List, [], Option, None, Some, Result, Ok, Err, IsTrue, refl, sym, ◌∙◌, ap, subst}
use Rattle.machine.specs.declared.stops.Stop.{Stop}
use Rattle.machine.specs.declared.stops.Stop.TheVariants.{Refused, Outside, NoMemory}
use Rattle.machine.specs.declared.world.Child.{Child}
use Rattle.machine.specs.declared.world.RunNote.{RunNote}
use Rattle.machine.specs.declared.world.World.{World}
use Rattle.machine.specs.Frames.{Unchanged}
use Rattle.machine.specs.Calls.{call_fault}
use Rattle.machine.specs.declared.calls.CallStop.{CallStop}
use Rattle.machine.specs.declared.calls.CallStop.TheVariants as call
use Rattle.machine.specs.declared.stops.Fault.{Fault}
use Rattle.machine.specs.declared.stops.Fault.TheVariants as fault
use Rattle.machine.specs.Past.{Fails, Past, world_now}
use Rattle.machine.specs.Runs.{OnlyRuns, runs_since}
use Rattle.machine.specs.Stops.{stop_fault}
use Rattle.machine.proofs.Failing.{fails_join}
use Rattle.machine.proofs.Joins.{now_unchanged, reads_unchanged, unchanged_join}
use Rattle.machine.proofs.Running.{only_runs_join, only_runs_reads, ran_none}
use Rattle.manifest.specs.Contents.{Content}
use Rattle.manifest.specs.Reads.{manifest_content}
use Rattle.slot_graph.specs.declared.state.Booted.{Booted}
use Rattle.slot_status.specs.Records.{RecordContent}
use Rattle.status_file.specs.Status.{IsStored}
use Rattle.status_file.specs.declared.reading.StatusRead.{StatusRead}
use Rattle.system_conf.specs.Configuration.{Configuration}
use Rattle.child_steps.specs.Bundle.{bundle_at}
use Rattle.child_steps.specs.Children.{helper_spares}
use Rattle.child_steps.specs.declared.bundle.BundleRefusal.{BundleRefusal}
use Rattle.running_system.specs.Running.{what_runs}
use Rattle.keyfile.specs.Groups.{Text}
use Rattle.install_facts.specs.Stops.{call_stop}
use Rattle.install_facts.specs.Answers.{Looked, Tells, TellsIf}
use Rattle.install_facts.specs.Facts.{KnownContent, Told, acceptance, after, booted_known, known_content, known_in, known_with}
use Rattle.install_facts.proofs.Failing.{fault_called}
use Rattle.install_facts.specs.Gathering.{FirstTold, accepted_since, checks_in, checks_by, checks_with, known_if}
use Rattle.install_facts.specs.declared.know.Known.{Known}
use Rattle.install_facts.specs.declared.refusal.InstallRefusal.{InstallRefusal}
use Rattle.install_facts.specs.declared.request.Request.{Request}

abbrev known_ok : KnownContent → Result KnownContent InstallRefusal
known_ok k = Ok k

one : (x y : KnownContent) → known_ok x ≡ known_ok y → x ≡ y
one x y h = cc

-- what is known has the manifest that was read
pub content_known : (b : Booted) (book : List RecordContent) (unread : Bool) (bundle : Result Content BundleRefusal) (known : Known) → known_with b book unread bundle ≡ Ok (known_content known) → bundle ≡ Ok (manifest_content known.manifest)
content_known b book unread (Ok content) known e = ap Ok (same (record { booted = b; book = book; unread = unread; content = content }) (known_content known) e)
  where
    same : (x y : KnownContent) → known_ok x ≡ known_ok y → x.content ≡ y.content
    same x y h = ap (λ (z : KnownContent). z.content) (one x y h)
content_known b book unread (Err why) known e = absurd (cc)

-- the fault is that of the check
pub fault_if : (known : Known) (accepted : Result (Unit {0}) (Stop InstallRefusal)) → stop_fault (known_if known accepted) ≡ stop_fault accepted
fault_if known (Ok x) = refl
fault_if known (Err stop) = go stop
  where
    go : (stop : Stop InstallRefusal) → stop_fault {T = Known} (Err stop) ≡ stop_fault {T = Unit {0}} (Err stop)
    go (Refused why) = refl
    go (Outside kind) = refl
    go NoMemory = refl

module _ (c : Configuration) (r : Request) (b : Booted) (read : StatusRead) where
  -- what the status file says is what it says in the world
  known_there : (w : World) → IsStored c w read → known_with b read.book read.unread (bundle_at c w) ≡ known_in c b w
  known_there w stored = λ i. known_with b (stored.book i) (stored.unread i) (bundle_at c w)

  abbrev accepts : Result KnownContent InstallRefusal → List RunNote → Told KnownContent
  accepts known notes = after (Some known) (λ k. after (acceptance c r k.content notes) (λ accepted. Some (Ok k)))

  unknown_told : (known : Result KnownContent InstallRefusal) (notes : List RunNote) (stop : Stop InstallRefusal) → Tells {T = Known} known_content known (Err stop) → TellsIf {T = Known} known_content (accepts known notes) (Err stop)
  unknown_told known notes (Refused why) e = ap (λ (k : Result KnownContent InstallRefusal). accepts k notes) e
  unknown_told known notes (Outside kind) e = tt
  unknown_told known notes NoMemory e = tt

  -- the manifest was not read
  pub unknown_answers : (a m : Past) (stop : Stop InstallRefusal) → IsStored c (world_now a) read → Tells {T = Known} known_content (known_with b read.book read.unread (bundle_at c (world_now a))) (Err stop) → TellsIf {T = Known} known_content (accepted_since c r b a m) (Err stop)
  unknown_answers a m stop stored told =
      unknown_told (known_in c b (world_now a)) (runs_since (world_now a) (world_now m)) stop
      (subst (λ (k : Result KnownContent InstallRefusal). Tells {T = Known} known_content k (Err stop)) (known_there (world_now a) stored) told)

  accepted_told : (known : Known) (k : Result KnownContent InstallRefusal) (notes : List RunNote) (accepted : Result (Unit {0}) (Stop InstallRefusal)) → k ≡ Ok (known_content known) → TellsIf (λ x. x) (acceptance c r (manifest_content known.manifest) notes) accepted → TellsIf known_content (accepts k notes) (known_if known accepted)
  accepted_told known k notes (Ok x) is e = ap (λ (o : Result KnownContent InstallRefusal). accepts o notes) is ∙ ap (λ (o : Told (Unit {0})). after o (λ accepted. Some (Ok (known_content known)))) e
  accepted_told known k notes (Err (Refused why)) is e = ap (λ (o : Result KnownContent InstallRefusal). accepts o notes) is ∙ ap (λ (o : Told (Unit {0})). after o (λ accepted. Some (Ok (known_content known)))) e
  accepted_told known k notes (Err (Outside kind)) is e = tt
  accepted_told known k notes (Err NoMemory) is e = tt

  -- it was read, and then the bundle was accepted or not
  pub accepted_answers : (a m z : Past) (known : Known) (accepted : Result (Unit {0}) (Stop InstallRefusal)) → IsStored c (world_now a) read → world_now m ≡ world_now a → Tells known_content (known_with b read.book read.unread (bundle_at c (world_now a))) (Ok known)
      → TellsIf (λ x. x) (acceptance c r (manifest_content known.manifest) (runs_since (world_now m) (world_now z))) accepted → TellsIf known_content (accepted_since c r b a z) (known_if known accepted)
  accepted_answers a m z known accepted stored same is told =
      accepted_told known (known_in c b (world_now a)) (runs_since (world_now a) (world_now z)) accepted
      (sym (known_there (world_now a) stored) ∙ is)
      (subst (λ (w : World). TellsIf (λ x. x) (acceptance c r (manifest_content known.manifest) (runs_since w (world_now z))) accepted) same told)

-- ---- what is booted, and the status file

module _ (t : Bool) (c : Configuration) (given : Option Text) (a m z : Past) (b : Booted) (looked : Looked {R = InstallRefusal} t (Tells {T = Booted} (λ x. x) (booted_known (what_runs c.slots given (world_now a)))) a m (Ok b)) (unchanged : Unchanged t m z) where
  -- both are known
  pub first_told : (read : StatusRead) → (IsTrue t → IsStored c (world_now m) read) → Fails t m z None → Looked t (FirstTold c given (world_now a)) a z (Ok (b, read))
  first_told read stored fails = record {
    unchanged = unchanged_join t a m z looked.unchanged unchanged;
    answers = λ told. (looked.answers told, subst (λ (w : World). IsStored c w read) (now_unchanged t a m looked.unchanged told) (stored told));
    fails = fails_join t a m z None looked.fails fails;
  }

  -- the status file was not read
  pub first_stopped : (stop : CallStop) → Fails t m z (call_fault {T = StatusRead} fault.Read (Err stop)) → Looked t (FirstTold c given (world_now a)) a z (Err (call_stop fault.Read stop))
  first_stopped stop fails = record {
    unchanged = unchanged_join t a m z looked.unchanged unchanged;
    answers = λ told. go stop;
    fails = subst (λ (f : Option Fault). Fails t a z f) (sym (fault_called (Booted × StatusRead) StatusRead fault.Read stop)) (fails_join t a m z (call_fault {T = StatusRead} fault.Read (Err stop)) looked.fails fails);
  }
    where
      go : (stop : CallStop) → FirstTold c given (world_now a) (Err (call_stop fault.Read stop))
      go call.Failed = tt
      go call.NoMemory = tt

-- nothing was changed
pub kept_unknown : (t : Bool) (c : Configuration) (children : List Child) (a b : Past) → Unchanged t a b → OnlyRuns t (helper_spares c []) children a b
kept_unknown t c children a b unchanged = only_runs_reads t (helper_spares c []) children a b (reads_unchanged t a b unchanged)

-- nothing was changed before the check of the bundle that is mounted
pub kept_accepted : (t : Bool) (c : Configuration) (content : Content) (a m z : Past) → Unchanged t a m → (IsTrue t → bundle_at c (world_now a) ≡ Ok content) → OnlyRuns t (helper_spares c []) (checks_with c content) m z → OnlyRuns t (helper_spares c []) (checks_in c (world_now a)) a z
kept_accepted t c content a m z unchanged is later = record {
  all = λ told. (subst (λ (children : List Child). OnlyRuns t (helper_spares c []) children a z) (sym (ap (checks_by c) (is told)))
      (only_runs_join t (helper_spares c []) [] (checks_with c content) a m z
      (λ told. ran_none a m (ap (λ (w : World). w.runs) (now_unchanged t a m unchanged told)))
      (kept_unknown t c [] a m unchanged) later)).all told;
}
