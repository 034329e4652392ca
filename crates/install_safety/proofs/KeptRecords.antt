-- A slot that no step of an install writes keeps its record and its bytes.
use Rattle.std.proofs.Common.{◌≡◌, inl, inr, ℕ, false, List, [], ◌∷◌, Option, Some, sym, ◌∙◌, ap, subst}
use Rattle.keyfile.specs.Groups.{Text}
use Rattle.machine.specs.Crash.{Crash, is_in}
use Rattle.machine.specs.Past.{Always, Past, world_now}
use Rattle.machine.specs.World.{disk}
use Rattle.machine.specs.declared.world.World.{World}
use Rattle.machine.proofs.Moments.{always_joins, always_start, always_weaker}
use Rattle.machine.proofs.Worlds.{crash_settled}
use Rattle.slot_status.specs.Records.{RecordContent, record_at}
use Rattle.status_file.specs.Status.{book_in}
use Rattle.status_file.specs.Truth.{IsTrueRecord, IsTrueSlot, stored_book}
use Rattle.system_conf.specs.Configuration.{Configuration}
use Rattle.system_conf.specs.declared.slot.Slot.{Slot}
use Rattle.install_facts.specs.Facts.{FactsContent}
use Rattle.install_plan.specs.declared.step.Step.{Step}
use Rattle.install_plan.proofs.Each.{Each}
use Rattle.install_steps.specs.Steps.{changed}
use Rattle.install_safety.specs.TrueRecords.{WasTrue}
use Rattle.install_safety.proofs.Books.{BookOf, ClaimsSame, NotesNot, SparesStatus, after_step, claims_joins, claims_left, claims_refl, in_step}
use Rattle.install_safety.proofs.Frames.{DiskKept, not_pending, status_same}
use Rattle.install_safety.proofs.Phases.{settled_kept}
use Rattle.install_safety.specs.Lists.{Within}

-- ---- records

-- a record that says the same is true of the same bytes
pub true_same : (r x : RecordContent) (bytes : Option Text) → ClaimsSame r x → IsTrueRecord r bytes → IsTrueRecord x bytes
true_same r x bytes same h size digest status size_is digest_is =
    h size digest (sym same.status ∙ status) (sym same.size ∙ size_is) (sym same.digest ∙ digest_is)

-- what a stop leaves of the book
pub stored_crash : (c : Configuration) (u v : World) → Crash u v → stored_book c v ≡ stored_book c u
stored_crash c u v crash = ap (book_in c.slots) (status_same c u v crash.files)

module _ (c : Configuration) (f : FactsContent) (path : Text) (there : c.status_file ≡ Some path) (at : ℕ) where
  -- the record says what the book says there
  abbrev pub SaysAs : List RecordContent → World → Type 0
  SaysAs book u = ClaimsSame (record_at book at) (record_at (stored_book c u) at)

  says_by : (book other : List RecordContent) (u : World) → stored_book c u ≡ other → ClaimsSame (record_at book at) (record_at other at) → SaysAs book u
  says_by book other u is same = subst (λ (b : List RecordContent). ClaimsSame (record_at book at) (record_at b at)) (sym is) same

  says_of : (s : Step) (book : List RecordContent) (u : World) → NotesNot f at s → BookOf c f path there book s u → SaysAs book u
  says_of s book u leaves (inl same) = says_by book book u same (claims_refl (record_at book at))
  says_of s book u leaves (inr same) = says_by book (changed f s book) u same (claims_left f at s book leaves)

  pub says_same : (book : List RecordContent) (steps : List Step) → Each (SparesStatus c) steps → Each (NotesNot f at) steps → (a z : Past) → stored_book c (world_now a) ≡ book → Within c f book steps a z → Always a z (SaysAs book)
  says_same book [] spare leave a z has same = subst (λ (q : Past). Always a q (SaysAs book)) (sym same) (always_start a (SaysAs book) (says_by book book (world_now a) has (claims_refl (record_at book at))))
  says_same book (s ∷ steps) spare leave a z has (inl begun) =
      always_weaker a z (BookOf c f path there book s) (SaysAs book) (λ u h. says_of s book u leave.0 h) (in_step c f path there s book a z spare.0 has begun)
  says_same book (s ∷ steps) spare leave a z has (inr h) =
      let did = h.1 in
      let first = always_weaker a h.0 (BookOf c f path there book s) (SaysAs book) (λ u h. says_of s book u leave.0 h) (in_step c f path there s book a h.0 spare.0 has did.begun) in
      let next = after_step c f path there s book a h.0 spare.0 has did in
      always_joins a h.0 z (SaysAs book) first
      (always_weaker h.0 z (SaysAs (changed f s book)) (SaysAs book) (λ u says. claims_joins (record_at book at) (record_at (changed f s book) at) (record_at (stored_book c u) at) (claims_left f at s book leave.0) says)
      (says_same (changed f s book) steps spare.1 leave.1 h.0 z next h.2))

-- ---- a slot whose record and whose bytes are kept

pub true_kept : (c : Configuration) (at : ℕ) (slot : Slot) (w u v : World) → ClaimsSame (record_at (stored_book c w) at) (record_at (stored_book c u) at) → DiskKept slot.device w u → Crash u v → WasTrue c at slot w → IsTrueSlot c at slot v
true_kept c at slot w u v says kept crash was =
    let settled : (i : ℕ) → is_in u.pending slot.device i ≡ false = λ i. not_pending (is_in u.pending slot.device i) (is_in w.pending slot.device i) (kept.pending i) (was.settled i) in
    let bytes : disk v slot.device ≡ disk w slot.device = crash_settled u v slot.device crash settled ∙ settled_kept slot.device w u kept was.settled in
    let book = stored_crash c u v crash in
    subst (λ (b : List RecordContent). IsTrueRecord (record_at b at) (disk v slot.device)) (sym book)
    (subst (λ (o : Option Text). IsTrueRecord (record_at (stored_book c u) at) o) (sym bytes)
    (true_same (record_at (stored_book c w) at) (record_at (stored_book c u) at) (disk w slot.device) says was.true))
