use Rattle.std.proofs.Common.{ℤ, rules, subst, w64}
use Rattle.std.proofs.lemmas.Int.{to_z-of_z}
use Rattle.slot_marks.specs.Noting.{NotedBy}
use Rattle.slot_marks.proofs.Preparing.{prepares}
use Rattle.slot_marks.proofs.noting.prepare.Goals as goal
use mir.Val.{SFits}

pub returns-in-Ok-now-clause-prepares : goal.returns-in-Ok-now-clause-prepares
returns-in-Ok-now-clause-prepares g c =
    let fits : SFits w64 c.in-Ok-now.now = search rules in
    let noted = subst (λ (z : ℤ). NotedBy c.args.system.now.slots c.in-Ok.read.book c.in-Ok.read.unread c.args.at z c.noted_by.result) (to_z-of_z w64 c.in-Ok-now.now fits) c.noted_by.ensures.noted in
    prepares _ c.args.system.now.slots c.args.path.now c.args.at _ _ _ c.in-Ok-now.now c.in-Ok.read c.noted_by.result c.in-Ok.ensures.unchanged c.in-Ok.ensures.once c.in-Ok.ensures.fails c.in-Ok.ensures.answers c.in-Ok-now.ensures.past noted c.noted_by.ensures.fails
