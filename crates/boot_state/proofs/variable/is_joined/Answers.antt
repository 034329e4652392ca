use Rattle.std.proofs.Common.{◌∙◌, ◌++◌, None, Some, ap, sym}
use Rattle.std.specs.Str.{bytes_eq}
use Rattle.std.proofs.lemmas.Bool.Decides.{Decides-eqb}
use Rattle.std.proofs.lemmas.List.{append_cancel_left}
use Rattle.std.proofs.lemmas.Slice.Eq.{strip_prefix_is}
use Rattle.boot_state.proofs.Lookups.{bytes_eq-behind, bytes_eq_other}
use Rattle.boot_state.proofs.variable.is_joined.Goals as goal

pub returns-in_default : goal.returns-in_default
returns-in_default c =
    sym (bytes_eq_other c.args.text.now (c.args.front.now ++ (c.args.name.now ++ c.args.back.now))
    (strip_prefix_is Decides-eqb c.args.text.now c.args.front.now None c.in_default.ensures.cases (c.args.name.now ++ c.args.back.now)))

pub returns-in_default-strip_prefix : goal.returns-in_default-strip_prefix
returns-in_default-strip_prefix c =
    let front = strip_prefix_is Decides-eqb c.args.text.now c.args.front.now (Some c.in-Some.behind) c.in-Some.ensures.cases in
    let none = strip_prefix_is Decides-eqb c.in-Some.behind.now c.args.name.now None c.in_default-strip_prefix.ensures.cases in
    sym (bytes_eq_other c.args.text.now (c.args.front.now ++ (c.args.name.now ++ c.args.back.now))
    (λ e. none c.args.back.now (append_cancel_left c.args.front.now c.in-Some.behind.now (c.args.name.now ++ c.args.back.now) (sym front ∙ e))))

pub returns : goal.returns
returns c =
    let front = strip_prefix_is Decides-eqb c.args.text.now c.args.front.now (Some c.in-Some.behind) c.in-Some.ensures.cases in
    let name = strip_prefix_is Decides-eqb c.in-Some.behind.now c.args.name.now (Some c.in-Some-strip_prefix.end) c.in-Some-strip_prefix.ensures.cases in
    c.eq.ensures
    ∙ sym (bytes_eq-behind c.args.name.now c.in-Some-strip_prefix.end.now c.args.back.now)
    ∙ sym (bytes_eq-behind c.args.front.now (c.args.name.now ++ c.in-Some-strip_prefix.end.now) (c.args.name.now ++ c.args.back.now))
    ∙ ap (λ t. bytes_eq t (c.args.front.now ++ (c.args.name.now ++ c.args.back.now))) (sym (front ∙ ap (λ t. c.args.front.now ++ t) name))
