use Rattle.std.proofs.Common.{◌∙◌, ℕ, List, [], ◌∷◌, Bor, map, ap, sym, lit<}
use Rattle.std.specs.FinMap.{insert}
use Rattle.std.proofs.lemmas.Iterator.{YieldsList-from_slice, YieldsList-from_zip}
use Rattle.std.proofs.lemmas.Iterator.Consumers.{YieldsList-at, YieldsList-end}
use Rattle.std.proofs.lemmas.Iterator.Splits.{YieldsList-from_str_split}
use Rattle.std.proofs.lemmas.List.{map-append}
use Rattle.boot_outputs.specs.Texts.{with_all}
use Rattle.boot_outputs.proofs.Lines.{with_all-push, zip-pieces}
use Rattle.boot_outputs.proofs.barebox.set_values.Goals as goal

abbrev Shown : Type 0
Shown = Bor (List ℕ) × Bor (List ℕ)

pub loop-name-preserved : goal.loop-name-preserved
loop-name-preserved c =
    let shown : Shown → List ℕ × List ℕ = λ p. (p.0.now, p.1.now) in
    c.in_ok-set.ensures.ok
    ∙ (λ i. insert (c.loop-name.invariant i) (c.as_str.ensures i) c.in-Some.value.now)
    ∙ sym (with_all-push c.args.read.now (map shown c.loop-name.yielded) c.in-Some.name.now c.in-Some.value.now)
    ∙ ap (with_all c.args.read.now) (sym (map-append shown c.loop-name.yielded ((c.in-Some.name, c.in-Some.value) ∷ [])))

pub returns : goal.returns
returns c =
    let road = YieldsList-at c.into_iter-name-iterator.ensures.into_iter_gives
    (YieldsList-from_zip (YieldsList-at c.zip-name-items.ensures.first (YieldsList-from_slice c.args.names.now c.iter.ensures.rest))
    (YieldsList-at c.zip-name-items.ensures.second (YieldsList-from_str_split 10 c.args.out.now (lit< tt) c.split.ensures.text c.split.ensures.has_more c.split.ensures.pattern))) in
    c.loop-name.invariant
    ∙ ap (with_all c.args.read.now) ((YieldsList-end road c.loop-name.yielded c.loop-name.name-iterator c.loop-name.yielded_by c.next.result c.next.new.self c.in-None.is c.next.ensures.steps).0 ∙ zip-pieces c.args.names.now c.args.out.now c.requires)
