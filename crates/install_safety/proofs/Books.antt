-- What the status file says while an install works: the book before a step, or the book after it.
use Rattle.std.proofs.Common.{◌≡◌, ◌≢◌, ◌⊎◌, inl, inr, ⊎_elim, ℕ, ℤ, zero, suc, List, [], ◌∷◌, codes, length, Option, Some, None, refl, sym, ◌∙◌, ap, subst, arith}
use Rattle.std.specs.Option.{option_map_or}
use Rattle.keyfile.specs.Groups.{Text}
use Rattle.machine.specs.Past.{Always, Past, world_now}
use Rattle.machine.specs.declared.world.World.{World}
use Rattle.machine.specs.World.{with_file}
use Rattle.machine.proofs.Moments.{always_now, always_start, always_weaker}
use Rattle.machine.proofs.Sparing.{file-replaced}
use Rattle.manifest.specs.declared.image.ImageFile.{ImageFile}
use Rattle.slot_status.specs.Changes.{begin_record, begun, changed_at, finished}
use Rattle.slot_status.specs.Records.{RecordContent, record_at}
use Rattle.slot_status.specs.Texts.{book_text}
use Rattle.slot_status.proofs.Changing.{kept_elsewhere}
use Rattle.status_file.specs.Status.{book_in, bytes_at, names_in}
use Rattle.status_file.specs.Truth.{stored_book}
use Rattle.system_conf.specs.Configuration.{Configuration}
use Rattle.install_facts.specs.Facts.{FactsContent}
use Rattle.install_plan.specs.declared.step.Step.{Step}
use Rattle.install_plan.specs.declared.step.Step.TheVariants as step
use Rattle.install_plan.proofs.Each.{Each}
use Rattle.install_steps.specs.Steps.{Begun, BookReads, Did, EitherOf, Part, Run, book_after, changed, changed_at_time, slot_at, with_book}
use Rattle.install_safety.proofs.Frames.{LeavesStatus, StatusKept, step_status}

-- a program that is run spares the status file
abbrev pub SparesStatus : Configuration → Step → Type 0
SparesStatus c (step.Run child caller) = LeavesStatus c (step.Run child caller)
SparesStatus c other = Unit {0}

stored_kept : (c : Configuration) (w u : World) → StatusKept c w u → stored_book c u ≡ stored_book c w
stored_kept c w u same = ap (book_in c.slots) same

module _ (c : Configuration) (f : FactsContent) (path : Text) (there : c.status_file ≡ Some path) where
  -- the file has the book that was noted
  stored_noted : (book : List RecordContent) (w : World) → BookReads c book → stored_book c (with_book c book w) ≡ book
  stored_noted book w reads =
      ap (λ (status : Option Text). book_in c.slots (bytes_at status (option_map_or (λ p. with_file w p (book_text (names_in c.slots) book)) status w))) there
      ∙ ap (book_in c.slots) (file-replaced w path (book_text (names_in c.slots) book))
      ∙ reads path there

  -- a step that notes nothing changes no book
  unchanged : (s : Step) (book : List RecordContent) → ((seconds : ℤ) → changed_at_time f s seconds book ≡ book) → changed f s book ≡ book
  unchanged s book none = go f.now
    where
      go : (now : Option ℤ) → option_map_or (λ seconds. changed_at_time f s seconds book) now book ≡ book
      go None = refl
      go (Some seconds) = none seconds

  -- the book before the step, or the book after it
  abbrev pub BookOf : List RecordContent → Step → World → Type 0
  BookOf book s u = (stored_book c u ≡ book) ⊎ (stored_book c u ≡ changed f s book)

  in_noted : (s : Step) (book : List RecordContent) (a z : Past) → stored_book c (world_now a) ≡ book → BookReads c (changed f s book) ⊎ (z ≡ a)
      → Always a z (EitherOf (world_now a) (with_book c (changed f s book) (world_now a))) → Always a z (BookOf book s)
  in_noted s book a z has (inl reads) each =
      always_weaker a z (EitherOf (world_now a) (with_book c (changed f s book) (world_now a))) (BookOf book s)
      (λ u either. ⊎_elim (λ same. inl (ap (stored_book c) same ∙ has)) (λ same. inr (ap (stored_book c) same ∙ stored_noted (changed f s book) (world_now a) reads)) either) each
  in_noted s book a z has (inr same) each = subst (λ (q : Past). Always a q (BookOf book s)) (sym same) (always_start a (BookOf book s) (inl has))

  in_other : (s : Step) (book : List RecordContent) (a z : Past) → stored_book c (world_now a) ≡ book → LeavesStatus c s → Begun c f book s a z → Always a z (BookOf book s)
  in_other s book a z has leaves begun =
      always_weaker a z (Part a.boot c f book s (world_now a)) (BookOf book s)
      (λ u part. inl (stored_kept c (world_now a) u (step_status c f a.boot book s (world_now a) u leaves part) ∙ has)) begun.part

  -- so it is within each step
  pub in_step : (s : Step) (book : List RecordContent) (a z : Past) → SparesStatus c s → stored_book c (world_now a) ≡ book → Begun c f book s a z → Always a z (BookOf book s)
  in_step (step.Run child caller) book a z spares has begun = in_other (step.Run child caller) book a z has spares begun
  in_step (step.Bad root) book a z ok has begun = in_other (step.Bad root) book a z has ok begun
  in_step (step.Primary root) book a z ok has begun = in_other (step.Primary root) book a z has ok begun
  in_step (step.Begin slot) book a z ok has begun = in_noted (step.Begin slot) book a z has begun.reads begun.part
  in_step (step.Done job) book a z ok has begun = in_noted (step.Done job) book a z has begun.reads begun.part
  in_step (step.Activated root) book a z ok has begun = in_noted (step.Activated root) book a z has begun.reads begun.part
  in_step (step.Put job put) book a z ok has begun = in_other (step.Put job put) book a z has ok begun
  in_step (step.Settle slot) book a z ok has begun = in_other (step.Settle slot) book a z has ok begun
  in_step (step.Index job) book a z ok has begun = in_other (step.Index job) book a z has ok begun

  noted : (s : Step) (book : List RecordContent) (a z : Past) → BookReads c (changed f s book) → world_now z ≡ with_book c (changed f s book) (world_now a) → stored_book c (world_now z) ≡ changed f s book
  noted s book a z reads same = ap (stored_book c) same ∙ stored_noted (changed f s book) (world_now a) reads

  other : (s : Step) (book : List RecordContent) (a z : Past) → stored_book c (world_now a) ≡ book → LeavesStatus c s → changed f s book ≡ book → Did c f book s a z → stored_book c (world_now z) ≡ changed f s book
  other s book a z has leaves same did =
      stored_kept c (world_now a) (world_now z) (step_status c f a.boot book s (world_now a) (world_now z) leaves (always_now a z (Part a.boot c f book s (world_now a)) did.begun.part)) ∙ has ∙ sym same

  -- and after it the book is the one after it
  pub after_step : (s : Step) (book : List RecordContent) (a z : Past) → SparesStatus c s → stored_book c (world_now a) ≡ book → Did c f book s a z → stored_book c (world_now z) ≡ changed f s book
  after_step (step.Run child caller) book a z spares has did = other (step.Run child caller) book a z has spares (unchanged (step.Run child caller) book (λ seconds. refl)) did
  after_step (step.Bad root) book a z ok has did = other (step.Bad root) book a z has ok (unchanged (step.Bad root) book (λ seconds. refl)) did
  after_step (step.Primary root) book a z ok has did = other (step.Primary root) book a z has ok (unchanged (step.Primary root) book (λ seconds. refl)) did
  after_step (step.Begin slot) book a z ok has did = noted (step.Begin slot) book a z did.reads did.after
  after_step (step.Done job) book a z ok has did = noted (step.Done job) book a z did.reads did.after
  after_step (step.Activated root) book a z ok has did = noted (step.Activated root) book a z did.reads did.after
  after_step (step.Put job put) book a z ok has did = other (step.Put job put) book a z has ok (unchanged (step.Put job put) book (λ seconds. refl)) did
  after_step (step.Settle slot) book a z ok has did = other (step.Settle slot) book a z has ok (unchanged (step.Settle slot) book (λ seconds. refl)) did
  after_step (step.Index job) book a z ok has did = other (step.Index job) book a z has ok (unchanged (step.Index job) book (λ seconds. refl)) did

  pub after_steps : (steps : List Step) (book : List RecordContent) (a z : Past) → Each (SparesStatus c) steps → stored_book c (world_now a) ≡ book → Run c f book steps a z → stored_book c (world_now z) ≡ book_after f steps book
  after_steps [] book a z spare has ran = ap (λ (p : Past). stored_book c (world_now p)) ran ∙ has
  after_steps (s ∷ steps) book a z spare has ran =
      after_steps steps (changed f s book) ran.0 z spare.1 (after_step s book a ran.0 spare.0 has ran.1) ran.2

-- ---- what a record says

-- the same of the same image
pub record ClaimsSame (r x : RecordContent) : Type 0 where
  pub status : x.status ≡ r.status
  pub size : x.size ≡ r.size
  pub digest : x.digest ≡ r.digest

pub claims_refl : (r : RecordContent) → ClaimsSame r r
claims_refl r = record { status = refl; size = refl; digest = refl }

pub claims_joins : (r x y : RecordContent) → ClaimsSame r x → ClaimsSame x y → ClaimsSame r y
claims_joins r x y rx xy = record { status = xy.status ∙ rx.status; size = xy.size ∙ rx.size; digest = xy.digest ∙ rx.digest }

-- a step notes nothing of the image in a slot
abbrev pub NotesNot : FactsContent → ℕ → Step → Type 0
NotesNot f at (step.Begin slot) = at ≢ slot
NotesNot f at (step.Done job) = (slot : ℕ) → slot_at f job ≡ Some slot → at ≢ slot
NotesNot f at other = Unit {0}

-- nor that it was activated
abbrev pub LeavesRecord : FactsContent → ℕ → Step → Type 0
LeavesRecord f at (step.Activated root) = ⊥
LeavesRecord f at s = NotesNot f at s

activated_same : (root at : ℕ) (change : RecordContent → RecordContent) → ((r : RecordContent) → ClaimsSame r (change r)) → (book : List RecordContent) → ClaimsSame (record_at book at) (record_at (changed_at root change book) at)
activated_same root at change keeps [] = claims_refl _
activated_same zero zero change keeps (r ∷ book) = keeps r
activated_same zero (suc at) change keeps (r ∷ book) = claims_refl _
activated_same (suc root) zero change keeps (r ∷ book) = claims_refl _
activated_same (suc root) (suc at) change keeps (r ∷ book) = activated_same root at change keeps book

module _ (f : FactsContent) (at : ℕ) where
  done_elsewhere : (job : ℕ) (seconds : ℤ) (book : List RecordContent) (slot : Option ℕ) → ((s : ℕ) → slot ≡ Some s → at ≢ s) → (bundle : _) (file : Option ImageFile)
      → record_at (option_map_or (λ s. finished s bundle file seconds book) slot book) at ≡ record_at book at
  done_elsewhere job seconds book None other bundle file = refl
  done_elsewhere job seconds book (Some s) other bundle file = kept_elsewhere book s at _ (other s refl)

  record_at_time : (s : Step) (seconds : ℤ) (book : List RecordContent) → LeavesRecord f at s → record_at (changed_at_time f s seconds book) at ≡ record_at book at
  record_at_time (step.Run child caller) seconds book ok = refl
  record_at_time (step.Bad root) seconds book ok = refl
  record_at_time (step.Primary root) seconds book ok = refl
  record_at_time (step.Begin slot) seconds book ne = kept_elsewhere book slot at begin_record ne
  record_at_time (step.Done job) seconds book other = done_elsewhere job seconds book (slot_at f job) other _ _
  record_at_time (step.Activated root) seconds book none = absurd none
  record_at_time (step.Put job put) seconds book ok = refl
  record_at_time (step.Settle slot) seconds book ok = refl
  record_at_time (step.Index job) seconds book ok = refl

  -- a step that leaves the record
  pub record_left : (s : Step) (book : List RecordContent) → LeavesRecord f at s → record_at (changed f s book) at ≡ record_at book at
  record_left s book leaves = go f.now
    where
      go : (now : Option ℤ) → record_at (option_map_or (λ seconds. changed_at_time f s seconds book) now book) at ≡ record_at book at
      go None = refl
      go (Some seconds) = record_at_time s seconds book leaves

  claims_by : (r x : RecordContent) → x ≡ r → ClaimsSame r x
  claims_by r x same = subst (λ (y : RecordContent). ClaimsSame r y) (sym same) (claims_refl r)

  claims_at_time : (s : Step) (seconds : ℤ) (book : List RecordContent) → NotesNot f at s → ClaimsSame (record_at book at) (record_at (changed_at_time f s seconds book) at)
  claims_at_time (step.Run child caller) seconds book ok = claims_refl _
  claims_at_time (step.Bad root) seconds book ok = claims_refl _
  claims_at_time (step.Primary root) seconds book ok = claims_refl _
  claims_at_time (step.Begin slot) seconds book ne = claims_by _ _ (record_at_time (step.Begin slot) seconds book ne)
  claims_at_time (step.Done job) seconds book other = claims_by _ _ (record_at_time (step.Done job) seconds book other)
  claims_at_time (step.Activated root) seconds book ok = activated_same root at _ (λ r. record { status = refl; size = refl; digest = refl }) book
  claims_at_time (step.Put job put) seconds book ok = claims_refl _
  claims_at_time (step.Settle slot) seconds book ok = claims_refl _
  claims_at_time (step.Index job) seconds book ok = claims_refl _

  -- a step that notes nothing of the image
  pub claims_left : (s : Step) (book : List RecordContent) → NotesNot f at s → ClaimsSame (record_at book at) (record_at (changed f s book) at)
  claims_left s book leaves = go f.now
    where
      go : (now : Option ℤ) → ClaimsSame (record_at book at) (record_at (option_map_or (λ seconds. changed_at_time f s seconds book) now book) at)
      go None = claims_refl _
      go (Some seconds) = claims_at_time s seconds book leaves

-- ---- an update has begun, and is done

-- once an update has begun the slot is not told to be installed
pub begun_status : (at : ℕ) (book : List RecordContent) → (record_at (begun at book) at).status ≡ Some (codes "ok") → ⊥
begun_status at [] e = let bad : ⊥ = cc in bad
begun_status zero (r ∷ book) e = let same : codes "update" ≡ codes "ok" = cc in omega (arith, ap length same)
begun_status (suc at) (r ∷ book) e = begun_status at book e

-- the record says this of a file, where it says that one is installed
pub record Claims (file : ImageFile) (r : RecordContent) : Type 0 where
  pub size : r.status ≡ Some (codes "ok") → r.size ≡ Some file.size
  pub digest : r.status ≡ Some (codes "ok") → r.digest ≡ Some file.digest

-- once it is done the slot is told to have the image's file
pub finished_claims : (at : ℕ) (bundle : _) (file : ImageFile) (seconds : ℤ) (book : List RecordContent) → Claims file (record_at (finished at bundle (Some file) seconds book) at)
finished_claims at bundle file seconds [] = record { size = λ e. let bad : ⊥ = cc in absurd bad; digest = λ e. let bad : ⊥ = cc in absurd bad }
finished_claims zero bundle file seconds (r ∷ book) = record { size = λ e. refl; digest = λ e. refl }
finished_claims (suc at) bundle file seconds (r ∷ book) = finished_claims at bundle file seconds book

pub claims_kept : (file : ImageFile) (r x : RecordContent) → Claims file r → ClaimsSame r x → Claims file x
claims_kept file r x claims same = record {
  size = λ e. same.size ∙ claims.size (sym same.status ∙ e);
  digest = λ e. same.digest ∙ claims.digest (sym same.status ∙ e);
}
