-- What the changes of a book leave of its length and of its counts.
use Rattle.std.proofs.Common.{◌≡◌, ℕ, zero, suc, ℤ, List, [], ◌∷◌, length, Option, Some, None, refl, sym, ap}
use Rattle.std.specs.Option.{option_map_or}
use Rattle.slot_status.proofs.Changing.{kept_elsewhere}
use Rattle.slot_status.specs.Changes.{begin_record, changed_at, finished}
use Rattle.slot_status.specs.Records.{RecordContent, record_at}
use Rattle.install_facts.specs.Facts.{FactsContent}
use Rattle.install_plan.specs.declared.step.Step.{Step}
use Rattle.install_plan.specs.declared.step.Step.TheVariants as step
use Rattle.install_steps.specs.Steps.{changed, changed_at_time, file_of, slot_at}

-- ---- one record changes

-- there are as many
length_changed : (at : ℕ) (change : RecordContent → RecordContent) (book : List RecordContent) → length (changed_at at change book) ≡ length book
length_changed at change [] = refl
length_changed zero change (r ∷ book) = refl
length_changed (suc at) change (r ∷ book) = ap suc (length_changed at change book)

-- a count that the change leaves stays
count_kept : (count : RecordContent → ℕ) (change : RecordContent → RecordContent) → ((r : RecordContent) → count (change r) ≡ count r)
    → (at slot : ℕ) (book : List RecordContent) → count (record_at (changed_at at change book) slot) ≡ count (record_at book slot)
count_kept count change leaves at slot [] = refl
count_kept count change leaves zero zero (r ∷ book) = leaves r
count_kept count change leaves zero (suc slot) (r ∷ book) = refl
count_kept count change leaves (suc at) zero (r ∷ book) = refl
count_kept count change leaves (suc at) (suc slot) (r ∷ book) = count_kept count change leaves at slot book

-- ---- a step

module _ (f : FactsContent) where
  -- a step does not install this slot
  abbrev pub LeavesInstalls : ℕ → Step → Type 0
  LeavesInstalls slot (step.Done job) = slot_at f job ≡ Some slot → ⊥
  LeavesInstalls slot other = Unit {0}

  -- and does not activate this one
  abbrev pub LeavesActivations : ℕ → Step → Type 0
  LeavesActivations slot (step.Activated root) = slot ≡ root → ⊥
  LeavesActivations slot other = Unit {0}

  module _ (seconds : ℤ) (book : List RecordContent) where
    length_at_time : (s : Step) → length (changed_at_time f s seconds book) ≡ length book
    length_at_time (step.Run child caller) = refl
    length_at_time (step.Bad root) = refl
    length_at_time (step.Begin slot) = length_changed slot begin_record book
    length_at_time (step.Put job put) = refl
    length_at_time (step.Settle slot) = refl
    length_at_time (step.Index job) = refl
    length_at_time (step.Done job) = go (slot_at f job)
      where
        go : (o : Option ℕ) → length (option_map_or (λ slot. finished slot f.content.bundle (file_of f job) seconds book) o book) ≡ length book
        go None = refl
        go (Some slot) = length_changed slot _ book
    length_at_time (step.Primary root) = refl
    length_at_time (step.Activated root) = length_changed root _ book

    module _ (at : ℕ) where
      installs_at_time : (s : Step) → LeavesInstalls at s → (record_at (changed_at_time f s seconds book) at).installed_count ≡ (record_at book at).installed_count
      installs_at_time (step.Run child caller) leaves = refl
      installs_at_time (step.Bad root) leaves = refl
      installs_at_time (step.Begin slot) leaves = count_kept (λ r. r.installed_count) begin_record (λ r. refl) slot at book
      installs_at_time (step.Put job put) leaves = refl
      installs_at_time (step.Settle slot) leaves = refl
      installs_at_time (step.Index job) leaves = refl
      installs_at_time (step.Done job) leaves = go (slot_at f job) leaves
        where
          go : (o : Option ℕ) → (o ≡ Some at → ⊥) → (record_at (option_map_or (λ slot. finished slot f.content.bundle (file_of f job) seconds book) o book) at).installed_count ≡ (record_at book at).installed_count
          go None leaves = refl
          go (Some slot) leaves = ap (λ (r : RecordContent). r.installed_count) (kept_elsewhere book slot at _ (λ same. leaves (ap (λ (n : ℕ). Some n) (sym same))))
      installs_at_time (step.Primary root) leaves = refl
      installs_at_time (step.Activated root) leaves = count_kept (λ r. r.installed_count) _ (λ r. refl) root at book

      activations_at_time : (s : Step) → LeavesActivations at s → (record_at (changed_at_time f s seconds book) at).activated_count ≡ (record_at book at).activated_count
      activations_at_time (step.Run child caller) leaves = refl
      activations_at_time (step.Bad root) leaves = refl
      activations_at_time (step.Begin slot) leaves = count_kept (λ r. r.activated_count) begin_record (λ r. refl) slot at book
      activations_at_time (step.Put job put) leaves = refl
      activations_at_time (step.Settle slot) leaves = refl
      activations_at_time (step.Index job) leaves = refl
      activations_at_time (step.Done job) leaves = go (slot_at f job)
        where
          go : (o : Option ℕ) → (record_at (option_map_or (λ slot. finished slot f.content.bundle (file_of f job) seconds book) o book) at).activated_count ≡ (record_at book at).activated_count
          go None = refl
          go (Some slot) = count_kept (λ r. r.activated_count) _ (λ r. refl) slot at book
      activations_at_time (step.Primary root) leaves = refl
      activations_at_time (step.Activated root) leaves = ap (λ (r : RecordContent). r.activated_count) (kept_elsewhere book root at _ leaves)

  -- the same whether there is a time or none
  pub length_after : (s : Step) (book : List RecordContent) → length (changed f s book) ≡ length book
  length_after s book = go f.now
    where
      go : (o : Option ℤ) → length (option_map_or (λ seconds. changed_at_time f s seconds book) o book) ≡ length book
      go None = refl
      go (Some seconds) = length_at_time seconds book s

  pub installs_after : (at : ℕ) (s : Step) (book : List RecordContent) → LeavesInstalls at s → (record_at (changed f s book) at).installed_count ≡ (record_at book at).installed_count
  installs_after at s book leaves = go f.now
    where
      go : (o : Option ℤ) → (record_at (option_map_or (λ seconds. changed_at_time f s seconds book) o book) at).installed_count ≡ (record_at book at).installed_count
      go None = refl
      go (Some seconds) = installs_at_time seconds book at s leaves

  pub activations_after : (at : ℕ) (s : Step) (book : List RecordContent) → LeavesActivations at s → (record_at (changed f s book) at).activated_count ≡ (record_at book at).activated_count
  activations_after at s book leaves = go f.now
    where
      go : (o : Option ℤ) → (record_at (option_map_or (λ seconds. changed_at_time f s seconds book) o book) at).activated_count ≡ (record_at book at).activated_count
      go None = refl
      go (Some seconds) = activations_at_time seconds book at s leaves
