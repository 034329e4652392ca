-- One record of a book changes.
use Rattle.std.proofs.Common.{◌≡◌, ◌∙◌, ◌||◌, ◌<◌, refl, sym, ap, ℕ, zero, suc, ℤ, Bool, true, false, cond, eqb, List, [], ◌∷◌, length, get_or, set, Option, Some, None, arith}
use Rattle.std.proofs.lemmas.Bool.{true≢false}
use Rattle.std.proofs.lemmas.List.{get_or-map, length-map}
use Rattle.slot_status.specs.Books.{record_content, record_contents}
use Rattle.slot_status.specs.Changes.{changed_at}
use Rattle.slot_status.specs.Records.{RecordContent, no_record, record_at}
use Rattle.slot_status.specs.Refusals.{activate_refusal, finish_refusal, is_at_end, is_out_of_range, ready_refusal, refusal_of}
use Rattle.std.proofs.lemmas.Bool.Decides.{nat_tests}
use Rattle.slot_status.specs.declared.refusal.StatusRefusal.{StatusRefusal}
use Rattle.slot_status.specs.declared.refusal.StatusRefusal.TheVariants as refusal
use Rattle.slot_status.specs.declared.slot_record.SlotRecord.{SlotRecord}

pub record_changed : (change : RecordContent → RecordContent) (records : List SlotRecord) (slot : ℕ) (old new : SlotRecord) → old ≡ get_or records slot old
    → record_content new ≡ change (record_content old) → record_contents (set records slot new) ≡ changed_at slot change (record_contents records)
record_changed change [] slot old new is after = refl
record_changed change (r ∷ records) zero old new is after = ap (λ (c : RecordContent). c ∷ record_contents records) (after ∙ ap (λ (x : SlotRecord). change (record_content x)) is)
record_changed change (r ∷ records) (suc slot) old new is after = ap (λ (cs : List RecordContent). record_content r ∷ cs) (record_changed change records slot old new is after)

-- the record at a place holds what the book has there
pub record_there : (records : List SlotRecord) (slot : ℕ) (r : SlotRecord) → slot < length (record_contents records) → r ≡ get_or records slot r → record_at (record_contents records) slot ≡ record_content r
record_there records slot r within is = get_or-map record_content records slot r no_record (omega (arith, within, length-map records record_content)) ∙ ap record_content (sym is)

pub not_ended : (slot : ℕ) (seconds : ℤ) (ended : Bool) → None ≡ refusal_of slot seconds ended → ended ≡ false
not_ended slot seconds ended none = go (is_out_of_range seconds) ended none
  where
    go : (out b : Bool) → None ≡ cond out (Some (refusal.ClockRange seconds)) (cond b (Some (refusal.CountEnd slot)) None) → b ≡ false
    go true b none = absurd (cc)
    go false true none = absurd (cc)
    go false false none = refl

-- a count that is not at its end can rise
pub can_rise : (count other : ℕ) → other ≡ count → eqb other 4294967295 ≡ false → count < 4294967296 → count < 4294967295
can_rise count other same ended small = go (eqb count 4294967295) refl
  where
    go : (b : Bool) → eqb count 4294967295 ≡ b → count < 4294967295
    go true is = absurd (true≢false (sym is ∙ ap (λ (n : ℕ). eqb n 4294967295) (sym same) ∙ ended))
    go false is = grind (arith, nat_tests)

-- ---- what a change says of the records

pub changed_there : (book : List RecordContent) (slot : ℕ) (change : RecordContent → RecordContent) → slot < length book → record_at (changed_at slot change book) slot ≡ change (record_at book slot)
changed_there [] slot change within = absurd (omega (arith, within))
changed_there (r ∷ book) zero change within = refl
changed_there (r ∷ book) (suc slot) change within = changed_there book slot change (omega (arith, within))

pub kept_elsewhere : (book : List RecordContent) (slot other : ℕ) (change : RecordContent → RecordContent) → (other ≡ slot → ⊥) → record_at (changed_at slot change book) other ≡ record_at book other
kept_elsewhere [] slot other change apart = refl
kept_elsewhere (r ∷ book) zero zero change apart = absurd (apart refl)
kept_elsewhere (r ∷ book) zero (suc other) change apart = refl
kept_elsewhere (r ∷ book) (suc slot) zero change apart = refl
kept_elsewhere (r ∷ book) (suc slot) (suc other) change apart = kept_elsewhere book slot other change (λ same. apart (ap suc same))

abbrev refused : ℕ → ℤ → Bool → Bool → Option StatusRefusal
refused slot seconds out ended = cond out (Some (refusal.ClockRange seconds)) (cond ended (Some (refusal.CountEnd slot)) None)

none_for_both : (slot : ℕ) (seconds : ℤ) (out installed activated : Bool) → refused slot seconds out (installed || activated) ≡ None
    → (refused slot seconds out installed ≡ None) × (refused slot seconds out activated ≡ None)
none_for_both slot seconds true installed activated h = absurd (cc)
none_for_both slot seconds false true activated h = absurd (cc)
none_for_both slot seconds false false true h = absurd (cc)
none_for_both slot seconds false false false h = (refl, refl)

-- where a slot is ready, an install and an activation of it can be noted
pub ready_for_both : (book : List RecordContent) (slot : ℕ) (seconds : ℤ) → ready_refusal book slot seconds ≡ None → (finish_refusal book slot seconds ≡ None) × (activate_refusal book slot seconds ≡ None)
ready_for_both book slot seconds ready =
    none_for_both slot seconds (is_out_of_range seconds) (is_at_end (record_at book slot).installed_count) (is_at_end (record_at book slot).activated_count) ready
