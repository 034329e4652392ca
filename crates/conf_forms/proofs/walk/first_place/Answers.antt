use Rattle.std.proofs.Common.{ℕ, ◌<◌, ◌∙◌, ap, sym, subst}
use Rattle.std.specs.Prelude.{option_map}
use Rattle.conf_forms.specs.Searches.{in_entry, in_group}
use Rattle.conf_forms.specs.Walks.{first_in, place_texts}
use Rattle.conf_forms.proofs.FirstOf.{item_hit, item_more}
use Rattle.conf_forms.proofs.walk.first_place.Goals as goal

pub returns-in-Some : goal.returns-in-Some
returns-in-Some g c =
    let test = first_in (in_group g.T.KeyTable.table c.args.search) (in_entry g.T.KeyTable.table (g.T.KeyTable.conflict c.args.table.now) c.args.search) in
    item_hit test c.args.file.now c.loop-at.at (place_texts c.in-Some.found) c.loop-at.invariant (ap (option_map place_texts) (sym c.in-Some.is) ∙ c.in_ok-found.ensures)

pub loop-at-preserved : goal.loop-at-preserved
loop-at-preserved g c =
    let test = first_in (in_group g.T.KeyTable.table c.args.search) (in_entry g.T.KeyTable.table (g.T.KeyTable.conflict c.args.table.now) c.args.search) in
    item_more test c.args.file.now c.loop-at.at c.loop-at.invariant (ap (option_map place_texts) (sym c.in_default.is) ∙ c.in_ok-found.ensures)
    (subst (λ (n : ℕ). c.loop-at.at < n) c.groups-at-end.ensures.count c.loop-at-test.true)
