use Rattle.std.proofs.Common.{◌≡◌, ◌∙◌, ap, ℕ, List, [], ◌∷◌, ◌++◌, true, refl, rules, bytes_eq}
use Rattle.boot_programs.proofs.Operands.{operand_found}
use Rattle.boot_programs.proofs.barebox.operands.Goals as goal

pub loop-left-preserved : goal.loop-left-preserved
loop-left-preserved c =
    let same : bytes_eq c.word-item.result c.args.option.now ≡ true = search rules in
    operand_found c.args.option.now c.loop-left.left.now _ c.loop-left.found c.push.new.self c.word-item.result c.operand-item.result _ c.in-len2-up.len_at_least c.word-item.is c.operand-item.is
    refl same (c.in_ok-push.ensures.ok ∙ ap (λ (t : List ℕ). c.loop-left.found ++ t ∷ []) c.in_ok-operand.ensures) c.loop-left.invariant
