use Rattle.std.proofs.Common.{◌≡◌, ◌∙◌, ap, sym, List, Some, option_map, option_and_then, slice_get}
use Rattle.std.specs.String.{string_bytes}
use Rattle.keyfile.specs.Groups.{Entry, Group, Text, entry_at}
use Rattle.keyfile.proofs.Maps.{entry_at-get, Inner, Name}
use Rattle.keyfile.proofs.key_file.KeyFile.key.Goals as goal

pub returns : goal.returns
returns c =
    let a : Some (c.in_ok-entries.field-0-0.now, c.in_ok-entries.entries.now) ≡ slice_get c.self.inside.groups.entries c.args.group = c.in_ok-entries.ensures.entry in
    let b : slice_get c.in_ok-entries.entries.now.entries c.args.at ≡ Some (c.in_ok-key.key.now, c.in_ok-key.field-0-1.now) = sym c.in_ok-key.ensures.entry in
    let there : entry_at c.args.self.now c.args.group c.args.at ≡ Some (string_bytes c.in_ok-key.key.now, string_bytes c.in_ok-key.field-0-1.now) =
    ap (λ (gs : List Group). entry_at gs c.args.group c.args.at) (sym c.self.view_is)
    ∙ (entry_at-get c.self.inside.groups.entries c.args.group c.args.at
    ∙ (ap (option_and_then (λ (e : Name × Inner). option_map (λ (p : Name × Name). (string_bytes p.0, string_bytes p.1)) (slice_get e.1.entries c.args.at))) (sym a)
    ∙ ap (option_map (λ (p : Name × Name). (string_bytes p.0, string_bytes p.1))) b)) in
    ap (λ (t : Text). Some t) c.as_str.ensures.value ∙ sym (ap (option_map (λ (e : Entry). e.0)) there)
