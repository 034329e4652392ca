-- Why a record is not changed.
use Rattle.std.specs.Prelude.{ℕ, ℤ, pos, negsuc, Bool, true, ◌==◌, ◌||◌, nat_lt, List, Option, Some, None, Result, Ok, Err, if◌then◌else◌}
use Rattle.slot_status.specs.Records.{RecordContent, record_at}
use Rattle.slot_status.specs.declared.refusal.StatusRefusal.{StatusRefusal}
use Rattle.slot_status.specs.declared.refusal.StatusRefusal.TheVariants as refusal

-- seconds before 1970 or after the year 9999
abbrev pub is_out_of_range : ℤ → Bool
is_out_of_range (pos seconds) = nat_lt 253402300799 seconds
is_out_of_range (negsuc seconds) = true

-- a count that cannot rise any more: 2^32 - 1
abbrev pub is_at_end : ℕ → Bool
is_at_end count = count == 4294967295

-- the time is looked at before the count
abbrev pub refusal_of : ℕ → ℤ → Bool → Option StatusRefusal
refusal_of slot seconds ended =
    if is_out_of_range seconds then Some (refusal.ClockRange seconds)
    else if ended then Some (refusal.CountEnd slot)
    else None

-- why the record at a place is not changed by an install and an activation, by an install alone, and by an activation alone
abbrev pub ready_refusal : List RecordContent → ℕ → ℤ → Option StatusRefusal
ready_refusal book slot seconds = refusal_of slot seconds (is_at_end (record_at book slot).installed_count || is_at_end (record_at book slot).activated_count)

abbrev pub finish_refusal : List RecordContent → ℕ → ℤ → Option StatusRefusal
finish_refusal book slot seconds = refusal_of slot seconds (is_at_end (record_at book slot).installed_count)

abbrev pub activate_refusal : List RecordContent → ℕ → ℤ → Option StatusRefusal
activate_refusal book slot seconds = refusal_of slot seconds (is_at_end (record_at book slot).activated_count)

-- nothing, where there is no refusal
abbrev pub unless_refused : Option StatusRefusal → Result (Unit {0}) StatusRefusal
unless_refused None = Ok tt
unless_refused (Some why) = Err why
