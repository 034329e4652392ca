use Rattle.std.proofs.Common.{◌∙◌, ◌^◌, ℕ, Option, true, sym, ap, nat_lt, ltb-true, ◌&&◌}
use Rattle.std.specs.Option.{option_map_or}
use Rattle.keyfile.specs.Groups.{is_entry_value}
use Rattle.slot_status.proofs.Digits.{decimal_may_stand}
use Rattle.slot_status.proofs.writing.put_number.Goals as goal

pub put-requires : goal.put-requires
put-requires c =
    let small = ltb-true c.in-Some.number (2 ^ 64) (sym (ap (λ (o : Option ℕ). option_map_or (λ (n : ℕ). nat_lt n (2 ^ 64)) o true) c.in-Some.is) ∙ c.requires.fits) in
    let stands = ap is_entry_value (c.as_str.ensures.value ∙ c.in_ok-text-in-Some.ensures.ok) ∙ decimal_may_stand c.in-Some.number small in
    λ i. c.requires.group i && (c.requires.key i && stands i)
