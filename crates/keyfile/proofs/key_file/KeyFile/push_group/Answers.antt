use Rattle.std.proofs.Common.{◌≡◌, ◌∙◌, ◌++◌, ◌∷◌, [], List, false, ap, sym}
use Rattle.std.specs.String.{string_bytes}
use Rattle.keyfile.specs.Groups.{Entry, Group, Text, entries_in, groups_in, has_group, is_key_file, put_in}
use Rattle.keyfile.proofs.Keeping.{put_in-kept}
use Rattle.keyfile.proofs.Maps.{groups_in-insert_entry, put_in-new}
use Rattle.keyfile.proofs.key_file.KeyFile.push_group.Goals as goal

pub invariant_of-self-2 : goal.invariant_of-self-2
invariant_of-self-2 c =
    let es = c.self.inside.groups.entries in
    let free : has_group (groups_in es) c.args.group.now ≡ false = ap (λ (gs : List Group). has_group gs c.args.group.now) c.self.view_is ∙ c.requires.new in
    let after : groups_in c.insert.new.self.entries ≡ put_in (groups_in es) c.args.group.now c.args.key.now (string_bytes c.args.value) =
    ap groups_in c.in_ok-insert.ensures.entries
    ∙ (groups_in-insert_entry es c.in_ok-name.name c.in_ok-entries.entries (ap (has_group (groups_in es)) c.in_ok-name.ensures.ok ∙ free)
    ∙ (ap (λ (t : Text). groups_in es ++ (t, entries_in c.in_ok-entries.entries.entries) ∷ []) c.in_ok-name.ensures.ok
    ∙ (ap (λ (t : List Entry). groups_in es ++ (c.args.group.now, t) ∷ []) c.in_ok-entries.ensures
    ∙ sym (put_in-new (groups_in es) c.args.group.now c.args.key.now (string_bytes c.args.value) free)))) in
    ap is_key_file after ∙ put_in-kept (groups_in es) c.args.group.now c.args.key.now (string_bytes c.args.value) c.self.invariant c.requires.fits

pub returns-clause-ok : goal.returns-clause-ok
returns-clause-ok c =
    let es = c.self.inside.groups.entries in
    let free : has_group (groups_in es) c.args.group.now ≡ false = ap (λ (gs : List Group). has_group gs c.args.group.now) c.self.view_is ∙ c.requires.new in
    let after : groups_in c.insert.new.self.entries ≡ put_in (groups_in es) c.args.group.now c.args.key.now (string_bytes c.args.value) =
    ap groups_in c.in_ok-insert.ensures.entries
    ∙ (groups_in-insert_entry es c.in_ok-name.name c.in_ok-entries.entries (ap (has_group (groups_in es)) c.in_ok-name.ensures.ok ∙ free)
    ∙ (ap (λ (t : Text). groups_in es ++ (t, entries_in c.in_ok-entries.entries.entries) ∷ []) c.in_ok-name.ensures.ok
    ∙ (ap (λ (t : List Entry). groups_in es ++ (c.args.group.now, t) ∷ []) c.in_ok-entries.ensures
    ∙ sym (put_in-new (groups_in es) c.args.group.now c.args.key.now (string_bytes c.args.value) free)))) in
    after ∙ ap (λ (gs : List Group). put_in gs c.args.group.now c.args.key.now (string_bytes c.args.value)) c.self.view_is
