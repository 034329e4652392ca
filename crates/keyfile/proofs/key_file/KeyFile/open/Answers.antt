use Rattle.std.proofs.Common.{◌≡◌, ◌∙◌, ◌++◌, ◌∷◌, [], List, true, false, ap, sym}
use Rattle.std.proofs.lemmas.List.{length-map}
use Rattle.std.specs.String.{string_bytes, string_eq}
use Rattle.indexmap.specs.IndexMap.{insert_entry}
use Rattle.keyfile.specs.Groups.{Group, Text, entries_in, groups_in, has_group, is_key_file, with_group, group_place}
use Rattle.keyfile.proofs.Keeping.{with_group-kept}
use Rattle.keyfile.proofs.Maps.{groups_in-insert_entry, has_group-lookup, with_group-new, with_group-there, group_place-new, position-found, Inner, Name}
use Rattle.keyfile.proofs.key_file.KeyFile.open.Goals as goal

pub returns-in-Some-clause-with_group : goal.returns-in-Some-clause-with_group
returns-in-Some-clause-with_group c =
    let there : has_group c.args.self.now c.args.name.now ≡ true =
    ap (λ (gs : List Group). has_group gs c.args.name.now) (sym c.self.view_is)
    ∙ (has_group-lookup c.self.inside.groups.entries c.args.name.now ∙ sym c.in-Some.ensures.found) in
    sym (with_group-there c.args.self.now c.args.name.now there)

pub returns-in-Some-clause-place : goal.returns-in-Some-clause-place
returns-in-Some-clause-place c =
    position-found c.self.inside.groups.entries c.args.name.now c.in-Some.at c.in-Some.ensures.index
    ∙ ap (λ (gs : List Group). group_place gs c.args.name.now) c.self.view_is

pub invariant_of-self-2 : goal.invariant_of-self-2
invariant_of-self-2 c =
    let es = c.self.inside.groups.entries in
    let name_is : string_bytes c.in_ok-name.name ≡ c.args.name.now = c.in_ok-name.ensures.ok in
    let free : has_group (groups_in es) c.args.name.now ≡ false = has_group-lookup es c.args.name.now ∙ sym c.in_default.ensures.found in
    let last : c.insert.new.self.entries ≡ insert_entry string_eq es c.in_ok-name.name c.new.result = c.in_ok-insert.ensures.entries in
    let none : c.new.result.entries ≡ [] = c.new.ensures.empty in
    let after : groups_in c.insert.new.self.entries ≡ with_group (groups_in es) c.args.name.now =
    ap groups_in last
    ∙ (groups_in-insert_entry es c.in_ok-name.name c.new.result (ap (has_group (groups_in es)) name_is ∙ free)
    ∙ (ap (λ (t : Text). groups_in es ++ (t, entries_in c.new.result.entries) ∷ []) name_is
    ∙ (ap (λ (t : List (Name × Name)). groups_in es ++ (c.args.name.now, entries_in t) ∷ []) none
    ∙ sym (with_group-new (groups_in es) c.args.name.now free)))) in
    ap is_key_file after ∙ with_group-kept (groups_in es) c.args.name.now c.self.invariant c.requires

pub returns-clause-with_group : goal.returns-clause-with_group
returns-clause-with_group c =
    let es = c.self.inside.groups.entries in
    let name_is : string_bytes c.in_ok-name.name ≡ c.args.name.now = c.in_ok-name.ensures.ok in
    let free : has_group (groups_in es) c.args.name.now ≡ false = has_group-lookup es c.args.name.now ∙ sym c.in_default.ensures.found in
    let last : c.insert.new.self.entries ≡ insert_entry string_eq es c.in_ok-name.name c.new.result = c.in_ok-insert.ensures.entries in
    let none : c.new.result.entries ≡ [] = c.new.ensures.empty in
    let after : groups_in c.insert.new.self.entries ≡ with_group (groups_in es) c.args.name.now =
    ap groups_in last
    ∙ (groups_in-insert_entry es c.in_ok-name.name c.new.result (ap (has_group (groups_in es)) name_is ∙ free)
    ∙ (ap (λ (t : Text). groups_in es ++ (t, entries_in c.new.result.entries) ∷ []) name_is
    ∙ (ap (λ (t : List (Name × Name)). groups_in es ++ (c.args.name.now, entries_in t) ∷ []) none
    ∙ sym (with_group-new (groups_in es) c.args.name.now free)))) in
    after ∙ ap (λ (gs : List Group). with_group gs c.args.name.now) c.self.view_is

pub returns-clause-place : goal.returns-clause-place
returns-clause-place c =
    let es = c.self.inside.groups.entries in
    let free : has_group (groups_in es) c.args.name.now ≡ false = has_group-lookup es c.args.name.now ∙ sym c.in_default.ensures.found in
    c.len-at.ensures.len
    ∙ (sym (length-map es (λ (g : Name × Inner). (string_bytes g.0, entries_in g.1.entries)))
    ∙ (sym (group_place-new (groups_in es) c.args.name.now free)
    ∙ ap (λ (gs : List Group). group_place gs c.args.name.now) c.self.view_is))
