use Rattle.std.proofs.Common.{◌≡◌, ◌∙◌, List, Some, None, ap, sym, rules, slice_get}
use Rattle.std.specs.Map.{values_of}
use Rattle.std.specs.String.{string_bytes}
use Rattle.indexmap.specs.IndexMap.{set_value_at}
use Rattle.keyfile.specs.Groups.{Group, Text, entries_in, groups_in, is_key_file, put_at, put_entry}
use Rattle.keyfile.proofs.Keeping.{put_at-kept}
use Rattle.keyfile.proofs.Maps.{entries_in-insert_entry, groups_in-set_same_at, groups_in-set_value_at, put_at-nowhere}
use Rattle.keyfile.proofs.key_file.KeyFile.put_at.Goals as goal

pub returns-in_default-clause-ok : goal.returns-in_default-clause-ok
returns-in_default-clause-ok c =
    let es = c.self.inside.groups.entries in
    let none : None ≡ slice_get (values_of es) c.args.at = c.in_default.ensures.value in
    sym (put_at-nowhere es c.args.at c.args.key.now (string_bytes c.args.value) none)
    ∙ ap (λ (gs : List Group). put_at gs c.args.at c.args.key.now (string_bytes c.args.value)) c.self.view_is

pub invariant_of-self-in_err-insert : goal.invariant_of-self-in_err-insert
invariant_of-self-in_err-insert c =
    let es = c.self.inside.groups.entries in
    let found : Some c.in-Some.entries.now ≡ slice_get (values_of es) c.args.at = c.in-Some.ensures.value in
    ap is_key_file (groups_in-set_same_at es c.args.at c.in-Some.entries.now c.insert.new.self found c.in_err-insert.ensures.err) ∙ c.self.invariant

pub returns-in_err-insert-clause-err : goal.returns-in_err-insert-clause-err
returns-in_err-insert-clause-err c =
    let es = c.self.inside.groups.entries in
    let found : Some c.in-Some.entries.now ≡ slice_get (values_of es) c.args.at = c.in-Some.ensures.value in
    let same : groups_in (set_value_at es c.args.at c.insert.new.self) ≡ c.args.self.now =
    groups_in-set_same_at es c.args.at c.in-Some.entries.now c.insert.new.self found c.in_err-insert.ensures.err ∙ c.self.view_is in
    search (rules, same)

pub invariant_of-self-2 : goal.invariant_of-self-2
invariant_of-self-2 c =
    let es = c.self.inside.groups.entries in
    let found : Some c.in-Some.entries.now ≡ slice_get (values_of es) c.args.at = c.in-Some.ensures.value in
    let put : entries_in c.insert.new.self.entries ≡ put_entry (entries_in c.in-Some.entries.now.entries) c.args.key.now (string_bytes c.args.value) =
    ap entries_in c.in_ok-insert.ensures.entries ∙ (entries_in-insert_entry c.in-Some.entries.now.entries c.in_ok-name.name c.args.value
    ∙ ap (λ (t : Text). put_entry (entries_in c.in-Some.entries.now.entries) t (string_bytes c.args.value)) c.in_ok-name.ensures.ok) in
    let after : groups_in (set_value_at es c.args.at c.insert.new.self) ≡ put_at (groups_in es) c.args.at c.args.key.now (string_bytes c.args.value) =
    groups_in-set_value_at es c.args.at c.args.key.now (string_bytes c.args.value) c.in-Some.entries.now c.insert.new.self found put in
    ap is_key_file after ∙ put_at-kept (groups_in es) c.args.at c.args.key.now (string_bytes c.args.value) c.self.invariant c.requires.key c.requires.value

pub returns-clause-ok : goal.returns-clause-ok
returns-clause-ok c =
    let es = c.self.inside.groups.entries in
    let found : Some c.in-Some.entries.now ≡ slice_get (values_of es) c.args.at = c.in-Some.ensures.value in
    let put : entries_in c.insert.new.self.entries ≡ put_entry (entries_in c.in-Some.entries.now.entries) c.args.key.now (string_bytes c.args.value) =
    ap entries_in c.in_ok-insert.ensures.entries ∙ (entries_in-insert_entry c.in-Some.entries.now.entries c.in_ok-name.name c.args.value
    ∙ ap (λ (t : Text). put_entry (entries_in c.in-Some.entries.now.entries) t (string_bytes c.args.value)) c.in_ok-name.ensures.ok) in
    let after : groups_in (set_value_at es c.args.at c.insert.new.self) ≡ put_at (groups_in es) c.args.at c.args.key.now (string_bytes c.args.value) =
    groups_in-set_value_at es c.args.at c.args.key.now (string_bytes c.args.value) c.in-Some.entries.now c.insert.new.self found put in
    after ∙ ap (λ (gs : List Group). put_at gs c.args.at c.args.key.now (string_bytes c.args.value)) c.self.view_is
