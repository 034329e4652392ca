use Rattle.std.proofs.Common.{◌∙◌, [], ◌∷◌, List, ℕ, Some, Bor, map, ap, refl, sym, lit<}
use Rattle.std.specs.List.{filter_map}
use Rattle.std.proofs.lemmas.Iterator.Consumers.{YieldsList-end}
use Rattle.std.proofs.lemmas.Iterator.Splits.{YieldsList-from_str_split}
use Rattle.std.proofs.lemmas.List.{map-append}
use Rattle.boot_model.specs.Vars.{Variables}
use Rattle.boot_programs.specs.Settings.{setting}
use Rattle.boot_outputs.specs.Texts.{with_all, with_setting}
use Rattle.boot_outputs.proofs.Lines.{filter_map-pieces, with_all_more}
use Rattle.boot_outputs.proofs.grub.take_lines.Goals as goal

pub loop-line-preserved : goal.loop-line-preserved
loop-line-preserved c =
    let shown = λ (x : Bor (List ℕ)). x.now in
    c.in_ok-take_line.ensures
    ∙ ap (λ (v : Variables). with_setting v (setting c.in-Some.line.now)) c.loop-line.invariant
    ∙ sym (with_all_more setting c.args.read.now (map shown c.loop-line.yielded) c.in-Some.line.now)
    ∙ ap (λ (ls : List (List ℕ)). with_all c.args.read.now (filter_map setting ls)) (sym (map-append shown c.loop-line.yielded (c.in-Some.line ∷ [])))

pub returns : goal.returns
returns c =
    let road = YieldsList-from_str_split 10 c.args.out.now (lit< tt) (cc) (cc) (cc) in
    let all = (YieldsList-end road c.loop-line.yielded _ c.loop-line.yielded_by _ _ c.in-None.is c.next.ensures.steps).0 in
    ap (λ (v : Variables). Some v)
    (sym (c.loop-line.invariant
    ∙ ap (λ (ls : List (List ℕ)). with_all c.args.read.now (filter_map setting ls)) all
    ∙ ap (with_all c.args.read.now) (filter_map-pieces setting c.args.out.now refl)))
