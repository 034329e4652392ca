use Rattle.std.proofs.Common.{◌≡◌, ◌+◌, ◌∷◌, [], ◌++◌, drop, length, List, ℕ, Ok, sym, ◌∙◌, ap, arith, length-append}
use Rattle.std.specs.Str.Lines.{lines}
use Rattle.std.proofs.lemmas.Iterator.Consumers.{YieldsList-turn, YieldsList-end}
use Rattle.std.proofs.lemmas.Iterator.Splits.{YieldsList-from_lines}
use Rattle.std.proofs.lemmas.List.{drop_all}
use Rattle.boot_session.specs.Session.{put_before, told}
use Rattle.boot_session.proofs.Telling.{drop_line, told-bad, told-step}
use Rattle.boot_session.proofs.session.tell.Goals as goal

pub returns-in_default : goal.returns-in_default
returns-in_default c =
    let all = lines c.args.text.now in
    let road = YieldsList-from_lines c.args.text.now (cc) in
    let turn = YieldsList-turn road c.loop-line.yielded _ c.loop-line.yielded_by _ _ c.in-Some.line c.in-Some.is c.next.ensures.steps in
    let at = length c.loop-line.yielded in
    let next : drop at all ≡ c.in-Some.line.now ∷ drop (at + 1) all = drop_line all at c.in-Some.line.now turn.0 turn.1 in
    sym c.loop-line.invariant.left
    ∙ ap (λ (ls : List (List ℕ)). put_before c.loop-line.page.items (told c.args.kind.now (c.loop-line.number + 1) ls c.loop-line.vars)) next
    ∙ told-bad c.args.kind.now (c.loop-line.number + 1) c.loop-line.page.items c.in-Some.line.now (drop (at + 1) all) c.loop-line.vars (sym c.in_ok-done.ensures ∙ c.in_default.is)

pub loop-line-preserved : goal.loop-line-preserved
loop-line-preserved c =
    let all = lines c.args.text.now in
    let road = YieldsList-from_lines c.args.text.now (cc) in
    let turn = YieldsList-turn road c.loop-line.yielded _ c.loop-line.yielded_by _ _ c.in-Some.line c.in-Some.is c.next.ensures.steps in
    let at = length c.loop-line.yielded in
    let next : drop at all ≡ c.in-Some.line.now ∷ drop (at + 1) all = drop_line all at c.in-Some.line.now turn.0 turn.1 in
    record {
      counted = omega (arith, c.loop-line.invariant.counted, length-append c.loop-line.yielded (c.in-Some.line ∷ []));
      left =
          ap (λ (page : List ℕ). put_before page (told c.args.kind.now (c.loop-line.number + 1 + 1) (drop (length (c.loop-line.yielded ++ c.in-Some.line ∷ [])) all) c.in-Some-2.done.vars)) c.in_ok-append.ensures
          ∙ ap (λ (n : ℕ). put_before (c.loop-line.page.items ++ c.in-Some-2.done.text) (told c.args.kind.now (c.loop-line.number + 1 + 1) (drop n all) c.in-Some-2.done.vars)) (length-append c.loop-line.yielded (c.in-Some.line ∷ []))
          ∙ sym (told-step c.args.kind.now (c.loop-line.number + 1) c.loop-line.page.items c.in-Some.line.now (drop (at + 1) all) c.loop-line.vars c.in-Some-2.done (sym c.in_ok-done.ensures ∙ c.in-Some-2.is))
          ∙ ap (λ (ls : List (List ℕ)). put_before c.loop-line.page.items (told c.args.kind.now (c.loop-line.number + 1) ls c.loop-line.vars)) (sym next)
          ∙ c.loop-line.invariant.left;
    }

pub returns : goal.returns
returns c =
    let all = lines c.args.text.now in
    let road = YieldsList-from_lines c.args.text.now (cc) in
    let end = YieldsList-end road c.loop-line.yielded _ c.loop-line.yielded_by _ _ c.in-None.is c.next.ensures.steps in
    sym c.loop-line.invariant.left
    ∙ ap (λ (ls : List (List ℕ)). put_before c.loop-line.page.items (told c.args.kind.now (c.loop-line.number + 1) ls c.loop-line.vars)) (drop_all (length c.loop-line.yielded) all (omega (arith, end.1)))
    ∙ ap Ok (sym (c.from_vec.ensures ∙ c.in_ok-write_variables.ensures))
