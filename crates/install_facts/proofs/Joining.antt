-- The parts of gathering, one after another.
use Rattle.std.proofs.Common.{◌≡◌, inl, inr, Bool, true, false, List, [], ◌∷◌, ◌++◌, length, Option, Some, None, Result, Ok, Err, IsTrue, refl, sym, ◌∙◌, ap, subst, cond, append_assoc}
use Rattle.std.proofs.lemmas.List.{append-nil}
use Rattle.updater_text.specs.Sinks.{Shown}
use Rattle.install_facts.specs.Notes.{AddsNotes}
use Rattle.std.specs.Prelude.{IfErr, IfOk, is_some}
use Rattle.keyfile.specs.Groups.{Text}
use Rattle.machine.specs.declared.stops.Stop.{Stop}
use Rattle.machine.specs.declared.stops.Stop.TheVariants.{Refused, Outside, NoMemory}
use Rattle.machine.specs.declared.world.Child.{Child}
use Rattle.machine.specs.declared.world.Spares.{Spares}
use Rattle.machine.specs.declared.world.World.{World}
use Rattle.machine.specs.Frames.{Unchanged}
use Rattle.machine.specs.Past.{Call, Fails, Grows, Past, moments_since, world_now}
use Rattle.machine.specs.Runs.{LeftAlone, OnlyRuns, has_failed, runs_since}
use Rattle.machine.specs.Stops.{stop_fault}
use Rattle.machine.proofs.CallsMade.{failed_joins}
use Rattle.machine.proofs.Joins.{now_unchanged, reads_unchanged}
use Rattle.machine.proofs.Moments.{always_joins, always_now, always_weaker}
use Rattle.machine.proofs.Running.{only_runs_join, only_runs_reads, ran_none}
use Rattle.manifest.specs.Reads.{image_contents}
use Rattle.slot_graph.specs.Booted.{states_of}
use Rattle.slot_graph.specs.Jobs.{ArePlaced}
use Rattle.slot_graph.specs.declared.state.Booted.{Booted}
use Rattle.slot_graph.specs.declared.state.Booted.TheVariants as booted
use Rattle.running_system.specs.Running.{what_runs}
use Rattle.status_file.specs.Clock.{clock_since}
use Rattle.status_file.specs.Status.{is_unread, status_bytes}
use Rattle.status_file.specs.declared.reading.StatusRead.{StatusRead}
use Rattle.status_file.proofs.Clocks.{clock_after}
use Rattle.system_conf.specs.Configuration.{Configuration}
use Rattle.child_steps.specs.Children.{helper_spares}
use Rattle.install_facts.specs.Answers.{TellsIf}
use Rattle.install_facts.specs.Facts.{AreSound, IsReady, ChosenContent, FactsContent, KnownContent, Told, after, booted_known, chosen_content, chosen_of, facts_content, facts_from, facts_in, known_content}
use Rattle.install_facts.specs.Failing.{FailsIn, is_early_call, is_first_call, is_later_call, is_target_call}
use Rattle.install_facts.specs.Gathering.{FirstTold, GatherNotes, Noted, UnreadTold, accepted_note, accepted_since, checks_in, facts_if, facts_since, facts_since_for, notes_if, unread_by, unread_in}
use Rattle.install_facts.specs.Stops.{IsEarly, IsLate}
use Rattle.install_facts.specs.declared.choose.Chosen.{Chosen}
use Rattle.install_facts.specs.declared.facts.Facts.{Facts}
use Rattle.install_facts.specs.declared.know.Known.{Known}
use Rattle.install_facts.specs.declared.refusal.InstallRefusal.{InstallRefusal}
use Rattle.install_facts.specs.declared.report.Note.{Note}
use Rattle.install_facts.specs.declared.request.Request.{Request}

-- ---- what is left alone

pub kept_then_unchanged : (t : Bool) (spares : Spares) (children : List Child) (a m z : Past) → OnlyRuns t spares children a m → Unchanged t m z → OnlyRuns t spares children a z
kept_then_unchanged t spares children a m z kept unchanged = record {
  all = λ told.
      let first = kept.all told in
      let here = always_now a m (LeftAlone spares children (world_now a)) first in
      always_joins a m z (LeftAlone spares children (world_now a)) first
      (always_weaker m z (λ u. u ≡ world_now m) (LeftAlone spares children (world_now a)) (λ u same. subst (λ (w : World). LeftAlone spares children (world_now a) w) (sym same) here) (unchanged.all told));
}

pub kept_after_unchanged : (t : Bool) (c : Configuration) (a m z : Past) → Unchanged t a m → OnlyRuns t (helper_spares c []) (checks_in c (world_now m)) m z → OnlyRuns t (helper_spares c []) (checks_in c (world_now a)) a z
kept_after_unchanged t c a m z unchanged later = record {
  all = λ told. (subst (λ (w : World). OnlyRuns t (helper_spares c []) (checks_in c w) a z) (now_unchanged t a m unchanged told)
      (only_runs_join t (helper_spares c []) [] (checks_in c (world_now m)) a m z
      (λ told. ran_none a m (ap (λ (w : World). w.runs) (now_unchanged t a m unchanged told)))
      (only_runs_reads t (helper_spares c []) [] a m (reads_unchanged t a m unchanged)) later)).all told;
}

-- ---- faults

pub fault_chosen : (known : Known) (chosen : Result Chosen (Stop InstallRefusal)) → stop_fault (facts_if known chosen) ≡ stop_fault chosen
fault_chosen known (Ok x) = refl
fault_chosen known (Err (Refused why)) = refl
fault_chosen known (Err (Outside kind)) = refl
fault_chosen known (Err NoMemory) = refl

-- ---- the facts, by what is known

module _ (c : Configuration) (r : Request) (b : Booted) where
  unaccepted_told : (known : Told KnownContent) (next : KnownContent → Told FactsContent) (stop : Stop InstallRefusal) → TellsIf {T = Known} known_content known (Err stop) → TellsIf {T = Facts} facts_content (after known next) (Err stop)
  unaccepted_told known next (Refused why) e = ap (λ (k : Told KnownContent). after k next) e
  unaccepted_told known next (Outside kind) e = tt
  unaccepted_told known next NoMemory e = tt

  -- the bundle was not accepted
  pub unaccepted_facts : (a m : Past) (stop : Stop InstallRefusal) → TellsIf {T = Known} known_content (accepted_since c r b a m) (Err stop) → TellsIf {T = Facts} facts_content (facts_since_for c r b a m) (Err stop)
  unaccepted_facts a m stop told =
      unaccepted_told (accepted_since c r b a m) (λ k. after (chosen_of c k (world_now m) (clock_since a m)) (λ x. Some (Ok (facts_from c k x)))) stop told

  chosen_told : (known : Known) (chosen : Told ChosenContent) (result : Result Chosen (Stop InstallRefusal)) → IfOk result (λ x. x.states ≡ states_of c.slots known.booted) → TellsIf chosen_content chosen result
      → TellsIf facts_content (after chosen (λ x. Some (Ok (facts_from c (known_content known) x)))) (facts_if known result)
  chosen_told known chosen (Ok x) states e =
      ap (λ (o : Told ChosenContent). after o (λ y. Some (Ok (facts_from c (known_content known) y)))) e
      ∙ (λ i. Some (Ok (record (facts_from c (known_content known) (chosen_content x)) { states = sym states i })))
  chosen_told known chosen (Err (Refused why)) states e = ap (λ (o : Told ChosenContent). after o (λ y. Some (Ok (facts_from c (known_content known) y)))) e
  chosen_told known chosen (Err (Outside kind)) states e = tt
  chosen_told known chosen (Err NoMemory) states e = tt

  -- it was, and then the targets were chosen or not
  pub facts_answer : (a m z : Past) (known : Known) (result : Result Chosen (Stop InstallRefusal)) → Grows a m → Grows m z → world_now z ≡ world_now m → clock_since a m ≡ None
      → TellsIf known_content (accepted_since c r b a m) (Ok known) → IfOk result (λ x. x.states ≡ states_of c.slots known.booted) → TellsIf chosen_content (chosen_of c (known_content known) (world_now m) (clock_since m z)) result
      → TellsIf facts_content (facts_since_for c r b a z) (facts_if known result)
  facts_answer a m z known result am mz same silent is states told =
      let said : clock_since a z ≡ clock_since m z = clock_after a m z silent am mz in
      let next : KnownContent → Told FactsContent = λ k. after (chosen_of c k (world_now m) (clock_since m z)) (λ x. Some (Ok (facts_from c k x))) in
      let as_here : facts_since_for c r b a z ≡ after (accepted_since c r b a m) next = λ i. facts_in c r b (world_now a) (same i) (runs_since (world_now a) (same i)) (said i) in
      let known_here : after (accepted_since c r b a m) next ≡ next (known_content known) = ap (λ (o : Told KnownContent). after o next) is in
      subst (λ (o : Told FactsContent). TellsIf facts_content o (facts_if known result)) (sym (as_here ∙ known_here)) (chosen_told known (chosen_of c (known_content known) (world_now m) (clock_since m z)) result states told)

-- ---- from the first calls on

module _ (c : Configuration) (r : Request) where
  unbooted_told : (known : Result Booted InstallRefusal) (next : Booted → Told FactsContent) (stop : Stop InstallRefusal) → (Refusal : (why : InstallRefusal) → stop ≡ Refused why → known ≡ Err why) → TellsIf {T = Facts} facts_content (after (Some known) next) (Err stop)
  unbooted_told known next (Refused why) is = ap (λ (k : Result Booted InstallRefusal). after (Some k) next) (is why refl)
  unbooted_told known next (Outside kind) is = tt
  unbooted_told known next NoMemory is = tt

  first_refused : (w : World) (stop : Stop InstallRefusal) → FirstTold c r.given_boot w (Err stop) → (why : InstallRefusal) → stop ≡ Refused why → booted_known (what_runs c.slots r.given_boot w) ≡ Err why
  first_refused w (Refused other) told why e = told ∙ ap Err (one e)
    where
      one : Refused other ≡ Refused why → other ≡ why
      one e = cc
  first_refused w (Outside kind) told why e = absurd (cc)
  first_refused w NoMemory told why e = absurd (cc)

  -- nothing tells what is booted
  pub unbooted_facts : (a m : Past) (stop : Stop InstallRefusal) → FirstTold c r.given_boot (world_now a) (Err stop) → TellsIf {T = Facts} facts_content (facts_since c r a m) (Err stop)
  unbooted_facts a m stop told =
      unbooted_told (booted_known (what_runs c.slots r.given_boot (world_now a)))
      (λ b. facts_in c r b (world_now a) (world_now m) (runs_since (world_now a) (world_now m)) (clock_since a m)) stop
      (first_refused (world_now a) stop told)

  -- it is known, and then the rest
  pub booted_facts : (b : Booted) (a m z : Past) (result : Result Facts (Stop InstallRefusal)) → Grows a m → Grows m z → world_now m ≡ world_now a → clock_since a m ≡ None
      → booted_known (what_runs c.slots r.given_boot (world_now a)) ≡ Ok b → TellsIf facts_content (facts_since_for c r b m z) result → TellsIf facts_content (facts_since c r a z) result
  booted_facts b a m z result am mz same silent is told =
      let said : clock_since a z ≡ clock_since m z = clock_after a m z silent am mz in
      let first : facts_since c r a z ≡ facts_in c r b (world_now a) (world_now z) (runs_since (world_now a) (world_now z)) (clock_since a z) =
      ap (λ (k : Result Booted InstallRefusal). after (Some k) (λ b. facts_in c r b (world_now a) (world_now z) (runs_since (world_now a) (world_now z)) (clock_since a z))) is in
      let moved : facts_in c r b (world_now a) (world_now z) (runs_since (world_now a) (world_now z)) (clock_since a z) ≡ facts_since_for c r b m z =
      λ i. facts_in c r b (sym same i) (world_now z) (runs_since (sym same i) (world_now z)) (said i) in
      subst (λ (o : Told FactsContent). TellsIf facts_content o result) (sym (first ∙ moved)) told

-- ---- what holds of the facts

pub sound_if : (c : Configuration) (known : Known) (chosen : Result Chosen (Stop InstallRefusal)) → length known.read.book ≡ length c.slots
    → IfOk chosen (λ x. x.states ≡ states_of c.slots known.booted) → IfOk chosen (λ x. ArePlaced c.slots x.states (image_contents known.manifest.images) x.jobs)
    → IfOk chosen (λ x. length x.skipped ≡ length x.jobs) → IfOk chosen (λ x. is_some x.now ≡ is_some c.status_file) → IfOk chosen (λ x. IsReady x.jobs known.read.book x.now)
    → IfOk (facts_if known chosen) (λ facts. AreSound c (facts_content facts))
sound_if c known (Ok x) all states placed skipped timed ready = record { placed = placed; states = states; skipped = skipped; book = all; now = timed; ready = ready }
sound_if c known (Err stop) all states placed skipped timed ready = tt

-- ---- notes

-- those that are put by a report before and after
pub early_notes : (t : Bool) (c : Configuration) (a z : Past) (stop : Stop InstallRefusal) → IsEarly stop → FailsIn t (is_early_call c) a z (stop_fault {T = Facts} (Err stop)) → GatherNotes t c a z (Err stop) []
early_notes t c a z (Refused why) early in_ = sym (ap (λ (b : Bool). cond b [] (accepted_note ∷ [])) early)
early_notes t c a z (Outside kind) early in_ = inl (refl, λ told. in_.failed told kind refl)
early_notes t c a z NoMemory early in_ = inl refl

pub late_notes : (t : Bool) (c : Configuration) (a z : Past) (known : Known) (chosen : Result Chosen (Stop InstallRefusal)) → IfErr chosen IsLate → FailsIn t is_target_call a z (stop_fault chosen) → GatherNotes t c a z (facts_if known chosen) (accepted_note ∷ notes_if chosen)
late_notes t c a z known (Ok x) late in_ = refl
late_notes t c a z known (Err (Refused why)) late in_ = sym (ap (λ (b : Bool). cond b [] (accepted_note ∷ [])) late)
late_notes t c a z known (Err (Outside kind)) late in_ = inr (refl, λ told. in_.failed told kind refl)
late_notes t c a z known (Err NoMemory) late in_ = inr refl

-- no note was put
pub noted_none : (stands : Shown → List Note → Type 0) (Are : List Note → Type 0) → Are [] → Noted stands stands Are
noted_none stands Are are = record {
  notes = [];
  are = are;
  added = λ start notes h. subst (λ (ns : List Note). stands start ns) (sym (append-nil notes)) h;
}

-- some were, and then more
pub noted_more : (first between last : Shown → List Note → Type 0) (ns ms : List Note) {Are : List Note → Type 0} → AddsNotes first between ns → AddsNotes between last ms → Are (ns ++ ms) → Noted first last Are
noted_more first between last ns ms one two are = record {
  notes = ns ++ ms;
  are = are;
  added = λ start notes h. subst (λ (all : List Note). last start all) (append_assoc notes ns ms) (two start (notes ++ ns) (one start notes h));
}

-- the same since an earlier moment, up to which no call failed
notes_after : (t : Bool) (c : Configuration) (a m z : Past) (result : Result Facts (Stop InstallRefusal)) (notes : List Note) → Fails t a m None → Fails t m z (stop_fault result) → GatherNotes t c m z result notes → GatherNotes t c a z result notes
notes_after t c a m z result notes fine fails told = go result told
  where
    since : (asked : Call → Bool) → (IsTrue t → has_failed asked (moments_since m z) ≡ true) → IsTrue t → has_failed asked (moments_since a z) ≡ true
    since asked h told = failed_joins asked a m z (fine.grows told) (fails.grows told) (fine.first told) ∙ h told

    go : (result : Result Facts (Stop InstallRefusal)) → GatherNotes t c m z result notes → GatherNotes t c a z result notes
    go (Ok facts) h = h
    go (Err (Refused why)) h = h
    go (Err (Outside kind)) (inl h) = inl (h.0, since (is_early_call c) h.1)
    go (Err (Outside kind)) (inr h) = inr (h.0, since is_target_call h.1)
    go (Err NoMemory) h = h

pub noted_after : (t : Bool) (c : Configuration) (a m z : Past) (result : Result Facts (Stop InstallRefusal)) (first last : Shown → List Note → Type 0) → Fails t a m None → Fails t m z (stop_fault result) → Noted first last (GatherNotes t c m z result) → Noted first last (GatherNotes t c a z result)
noted_after t c a m z result first last fine fails noted = record {
  notes = noted.notes;
  are = notes_after t c a m z result noted.notes fine fails noted.are;
  added = noted.added;
}

-- ---- the status file

none_unread : (c : Configuration) (b : Booted) (w : World) (why : InstallRefusal) → booted_known b ≡ Err why → unread_by c b w ≡ false
none_unread c booted.Unknown w why e = refl
none_unread c booted.External w why e = absurd (cc)
none_unread c (booted.Slot root) w why e = absurd (cc)

some_unread : (c : Configuration) (b other : Booted) (w : World) → booted_known b ≡ Ok other → unread_by c b w ≡ is_unread c.slots (status_bytes c w)
some_unread c booted.Unknown other w e = absurd (cc)
some_unread c booted.External other w e = refl
some_unread c (booted.Slot root) other w e = refl

-- it was not read
pub unread_early : (t : Bool) (c : Configuration) (given : Option Text) (a z : Past) (stop : Stop InstallRefusal) → IsTrue t → FirstTold c given (world_now a) (Err stop) → FailsIn t (is_first_call c) a z (stop_fault {T = Facts} (Err stop)) → UnreadTold c given a z (Err stop) false
unread_early t c given a z (Refused why) told is in_ = sym (none_unread c (what_runs c.slots given (world_now a)) (world_now a) why is)
unread_early t c given a z (Outside kind) told is in_ = inl (refl, in_.failed told kind refl)
unread_early t c given a z NoMemory told is in_ = inl refl

-- it was
pub unread_late : (t : Bool) (c : Configuration) (given : Option Text) (a m z : Past) (b : Booted) (read : StatusRead) (result : Result Facts (Stop InstallRefusal)) → IsTrue t → FirstTold c given (world_now a) (Ok (b, read))
    → Fails t a m None → Fails t m z (stop_fault result) → FailsIn t (is_later_call c) m z (stop_fault result) → UnreadTold c given a z result read.unread
unread_late t c given a m z b read result told is fine fails in_ = go result refl
  where
    unread : read.unread ≡ unread_in c given (world_now a)
    unread = is.1.unread ∙ sym (some_unread c (what_runs c.slots given (world_now a)) b (world_now a) is.0)

    go : (other : Result Facts (Stop InstallRefusal)) → result ≡ other → UnreadTold c given a z other read.unread
    go (Ok facts) e = unread
    go (Err (Refused why)) e = unread
    go (Err (Outside kind)) e =
        inr (unread, failed_joins (is_later_call c) a m z (fine.grows told) (fails.grows told) (fine.first told) ∙ in_.failed told kind (ap (λ (x : Result Facts (Stop InstallRefusal)). stop_fault x) e))
    go (Err NoMemory) e = inr unread
