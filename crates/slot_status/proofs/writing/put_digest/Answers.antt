use Rattle.std.proofs.Common.{◌∙◌, ℕ, Option, true, sym, ap, nat_lt, length, eqb, ◌&&◌}
use Rattle.std.specs.List.{list_all}
use Rattle.std.specs.Option.{option_map_or}
use Rattle.std.proofs.lemmas.Bool.{and_parts}
use Rattle.updater_text.specs.declared.digest.Digest.{Digest}
use Rattle.keyfile.specs.Groups.{is_entry_value}
use Rattle.slot_status.specs.Sound.{is_digest}
use Rattle.slot_status.proofs.Digits.{hex_may_stand}
use Rattle.slot_status.proofs.writing.put_digest.Goals as goal

pub put-requires : goal.put-requires
put-requires c =
    let d = c.in-Some.digest in
    let formed = sym (ap (λ (o : Option Digest). option_map_or is_digest o true) c.in-Some.is) ∙ c.requires.digest in
    let bytes = (and_parts (eqb (length d.0) 32) (list_all (λ (b : ℕ). nat_lt b 256) d.0) formed).1 in
    let stands = ap is_entry_value (c.as_str.ensures ∙ c.in_ok-text-in-Some.ensures) ∙ hex_may_stand d.0 bytes in
    λ i. c.requires.group i && stands i
