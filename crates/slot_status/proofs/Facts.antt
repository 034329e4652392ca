-- What holds of the record of every slot, part by part.
use Rattle.std.proofs.Common.{◌≡◌, ◌<◌, ◌^◌, ℕ, true, nat_lt, ltb-true}
use Rattle.std.specs.Option.{option_map_or}
use Rattle.std.proofs.lemmas.Bool.{and_parts}
use Rattle.manifest.specs.Sound.{is_text_if_any}
use Rattle.slot_status.specs.Sound.{is_digest}
use Rattle.slot_status.specs.declared.slot_record.SlotRecord.{SlotRecord}

pub record Facts (r : SlotRecord) : Type 0 where
  pub status : is_text_if_any r.status ≡ true
  pub digest : option_map_or is_digest r.digest true ≡ true
  pub size : option_map_or (λ n. nat_lt n (2 ^ 64)) r.size true ≡ true
  pub installed_time : is_text_if_any r.installed_time ≡ true
  pub installed_fits : r.installed_count < 2 ^ 32
  pub activated_time : is_text_if_any r.activated_time ≡ true
  pub activated_fits : r.activated_count < 2 ^ 32

pub facts : (r : SlotRecord) → Facts r
facts r =
    let status = and_parts (is_text_if_any r.status) _ r.formed in
    let digest = and_parts (option_map_or is_digest r.digest true) _ status.1 in
    let size = and_parts (option_map_or (λ (n : ℕ). nat_lt n (2 ^ 64)) r.size true) _ digest.1 in
    let installed_time = and_parts (is_text_if_any r.installed_time) _ size.1 in
    let installed_count = and_parts (nat_lt r.installed_count (2 ^ 32)) _ installed_time.1 in
    let activated_time = and_parts (is_text_if_any r.activated_time) (nat_lt r.activated_count (2 ^ 32)) installed_count.1 in
    record {
      status = status.0;
      digest = digest.0;
      size = size.0;
      installed_time = installed_time.0;
      installed_fits = ltb-true r.installed_count (2 ^ 32) installed_count.0;
      activated_time = activated_time.0;
      activated_fits = ltb-true r.activated_count (2 ^ 32) activated_time.1;
    }
