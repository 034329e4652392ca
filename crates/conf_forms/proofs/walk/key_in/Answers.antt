use Rattle.std.proofs.Common.{ℕ, ◌<◌, Option, ◌∙◌, ap, sym, subst}
use Rattle.std.specs.Prelude.{option_and_then, option_map}
use Rattle.keyfile.specs.Groups.{Entry}
use Rattle.conf_forms.specs.Searches.{entries_at, in_entry}
use Rattle.conf_forms.specs.Walks.{key_if, place_texts}
use Rattle.conf_forms.proofs.Entries.{length-entries_at}
use Rattle.conf_forms.proofs.FirstOf.{item_hit, item_more}
use Rattle.conf_forms.proofs.walk.key_in.Goals as goal

pub returns-in-Some : goal.returns-in-Some
returns-in-Some g c =
    let test = key_if (in_entry g.T.KeyTable.table (g.T.KeyTable.conflict c.args.table.now) c.args.search) c.args.group.now in
    item_hit test (entries_at c.args.file.now c.args.at) c.loop-number.number (place_texts c.in-Some.found) c.loop-number.invariant
    (ap (option_map place_texts) (sym c.in-Some.is) ∙ c.in_ok-found.ensures ∙ ap (λ (o : Option Entry). option_and_then test o) c.entry_at-entry.ensures)

pub loop-number-preserved : goal.loop-number-preserved
loop-number-preserved g c =
    let test = key_if (in_entry g.T.KeyTable.table (g.T.KeyTable.conflict c.args.table.now) c.args.search) c.args.group.now in
    item_more test (entries_at c.args.file.now c.args.at) c.loop-number.number c.loop-number.invariant
    (ap (option_map place_texts) (sym c.in_default.is) ∙ c.in_ok-found.ensures ∙ ap (λ (o : Option Entry). option_and_then test o) c.entry_at-entry.ensures)
    (subst (λ (n : ℕ). c.loop-number.number < n) (c.keys-number-end.ensures ∙ sym (length-entries_at c.args.file.now c.args.at)) c.loop-number-test.true)
