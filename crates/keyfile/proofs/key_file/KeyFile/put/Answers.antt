use Rattle.std.proofs.Common.{◌≡◌, ◌∙◌, ℕ, List, true, ap, subst, sym}
use Rattle.std.specs.Prelude.{OnOk}
use Rattle.std.specs.String.{string_bytes}
use Rattle.keyfile.specs.Groups.{Group, Text, has_group, group_place, put_at, put_in}
use Rattle.keyfile.proofs.Maps.{has_group-lookup, position-found, put_in-there}
use Rattle.keyfile.proofs.key_file.KeyFile.put.Goals as goal

pub push_group-requires-clause-new : goal.push_group-requires-clause-new
push_group-requires-clause-new c =
    ap (λ (gs : List Group). has_group gs c.args.group.now) (sym c.self.view_is)
    ∙ (has_group-lookup c.self.inside.groups.entries c.args.group.now ∙ sym c.in-None.ensures.found)

pub returns-in-Some-clause-ok : goal.returns-in-Some-clause-ok
returns-in-Some-clause-ok c =
    let there : has_group c.args.self.now c.args.group.now ≡ true =
    ap (λ (gs : List Group). has_group gs c.args.group.now) (sym c.self.view_is)
    ∙ (has_group-lookup c.self.inside.groups.entries c.args.group.now ∙ sym c.in-Some.ensures.found) in
    let place : c.in-Some.at ≡ group_place c.args.self.now c.args.group.now =
    position-found c.self.inside.groups.entries c.args.group.now c.in-Some.at c.in-Some.ensures.index
    ∙ ap (λ (gs : List Group). group_place gs c.args.group.now) c.self.view_is in
    let same : put_at c.args.self.now c.in-Some.at c.args.key.now (string_bytes c.in_ok-value.value) ≡ put_in c.args.self.now c.args.group.now c.args.key.now c.args.value.now =
    ap (λ (t : Text). put_at c.args.self.now c.in-Some.at c.args.key.now t) c.in_ok-value.ensures.ok
    ∙ (ap (λ (i : ℕ). put_at c.args.self.now i c.args.key.now c.args.value.now) place
    ∙ sym (put_in-there c.args.self.now c.args.group.now c.args.key.now c.args.value.now there)) in
    subst (λ (gs : List Group). OnOk c.put_at.result (c.put_at.new.self ≡ gs)) same c.put_at.ensures.ok
