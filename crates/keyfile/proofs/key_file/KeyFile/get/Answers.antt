use Rattle.std.proofs.Common.{◌≡◌, ◌∙◌, ap, sym, List, Some, None, Option, option_map, option_and_then, option_copied}
use Rattle.std.specs.String.{string_bytes}
use Rattle.std.specs.Map.{lookup}
use Rattle.keyfile.specs.Groups.{Group, Text, get_in}
use Rattle.keyfile.proofs.Maps.{get_in-lookup, is_named, Inner}
use Rattle.keyfile.proofs.key_file.KeyFile.get.Goals as goal

abbrev inner_get : Text → Option Inner → Option Text
inner_get k = option_and_then (λ (m : Inner). option_map string_bytes (lookup (is_named k) m.entries))

pub returns-in_err-get : goal.returns-in_err-get
returns-in_err-get c =
    let a : None ≡ lookup (is_named c.args.group.now) c.self.inside.groups.entries = c.in_err-get.ensures.value in
    ap option_copied c.from_residual.ensures ∙ (ap (inner_get c.args.key.now) a
    ∙ (sym (get_in-lookup c.self.inside.groups.entries c.args.group.now c.args.key.now)
    ∙ ap (λ (l : List Group). get_in l c.args.group.now c.args.key.now) c.self.view_is))

pub returns-in_err-value : goal.returns-in_err-value
returns-in_err-value c =
    let a : Some c.in_ok-get.field-0.now ≡ lookup (is_named c.args.group.now) c.self.inside.groups.entries = c.in_ok-get.ensures.value in
    let b : None ≡ lookup (is_named c.args.key.now) c.in_ok-get.field-0.now.entries = c.in_err-value.ensures.value in
    ap option_copied c.from_residual-in_err-value.ensures ∙ (ap (option_map string_bytes) b ∙ (ap (inner_get c.args.key.now) a
    ∙ (sym (get_in-lookup c.self.inside.groups.entries c.args.group.now c.args.key.now)
    ∙ ap (λ (l : List Group). get_in l c.args.group.now c.args.key.now) c.self.view_is)))

pub returns : goal.returns
returns c =
    let a : Some c.in_ok-get.field-0.now ≡ lookup (is_named c.args.group.now) c.self.inside.groups.entries = c.in_ok-get.ensures.value in
    let b : Some c.in_ok-value.value.now ≡ lookup (is_named c.args.key.now) c.in_ok-get.field-0.now.entries = c.in_ok-value.ensures.value in
    let text : c.as_str.result.now ≡ string_bytes c.in_ok-value.value.now = c.as_str.ensures.value in
    ap (λ (t : Text). Some t) text ∙ (ap (option_map string_bytes) b ∙ (ap (inner_get c.args.key.now) a
    ∙ (sym (get_in-lookup c.self.inside.groups.entries c.args.group.now c.args.key.now)
    ∙ ap (λ (l : List Group). get_in l c.args.group.now c.args.key.now) c.self.view_is)))
