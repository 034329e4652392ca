use Rattle.std.proofs.Common.{◌<◌, ◌≤◌, ◌∙◌, ◌++◌, ℕ, List, ap, arith, length, sym}
use Rattle.std.specs.FinMap.{keys}
use Rattle.std.specs.Str.{bytes_eq}
use Rattle.std.proofs.lemmas.List.{take_all}
use Rattle.std.proofs.lemmas.Slice.Eq.{bytes_eq-Decides}
use Rattle.boot_state.specs.Orders.{has_word, value}
use Rattle.boot_state.proofs.Lookups.{absent, length-keys, not_past, not_yet}
use Rattle.boot_state.proofs.variable.value_of.Goals as goal

pub returns-in_err-variable : goal.returns-in_err-variable
returns-in_err-variable c =
    let within : c.loop-at.at < length (keys c.args.vars.now) = omega (arith, length-keys c.args.vars.now, c.len-at-end.ensures, c.loop-at-test.true) in
    absurd (not_past (keys c.args.vars.now) c.loop-at.at c.in_err-variable.ensures within)

pub returns-then-is_joined : goal.returns-then-is_joined
returns-then-is_joined c =
    let same = (bytes_eq-Decides c.as_bytes.result.now (c.args.front.now ++ (c.args.name.now ++ c.args.back.now))).0 (sym c.is_joined.ensures ∙ c.if-is_joined.true) in
    c.get.ensures ∙ ap (value c.args.vars.now) (sym c.as_bytes.ensures.value ∙ same)

pub loop-at-preserved : goal.loop-at-preserved
loop-at-preserved c =
    let word = c.args.front.now ++ (c.args.name.now ++ c.args.back.now) in
    not_yet (keys c.args.vars.now) word c.loop-at.at c.in_ok-variable.variable.now c.loop-at.invariant c.in_ok-variable.ensures
    (ap (λ (t : List ℕ). bytes_eq t word) (sym c.as_bytes.ensures.value) ∙ sym c.is_joined.ensures ∙ c.if-is_joined.false)

pub returns : goal.returns
returns c =
    let word = c.args.front.now ++ (c.args.name.now ++ c.args.back.now) in
    let past : length (keys c.args.vars.now) ≤ c.loop-at.at = omega (arith, length-keys c.args.vars.now, c.len-at-end.ensures, c.loop-at-test.false) in
    sym (absent c.args.vars.now word (ap (λ (words : List (List ℕ)). has_word words word) (sym (take_all c.loop-at.at (keys c.args.vars.now) past)) ∙ c.loop-at.invariant))
