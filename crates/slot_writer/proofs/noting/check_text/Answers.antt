use Rattle.std.proofs.Common.{ℕ, inl, inr, Option, Ok}
use Rattle.machine.specs.Past.{Size}
use Rattle.machine.proofs.Failing.{fails_call}
use Rattle.machine.proofs.Joins.{unchanged_size}
use Rattle.slot_writer.proofs.Replacing.{checks_apart, checks_cut, checks_disk, differ_if, same_unless}
use Rattle.slot_writer.proofs.noting.check_text.Goals as goal
use Rattle.slot_writer.proofs.noting.check_text.Goals.{then-ne-via-then-ne, then-ne-via-else-ne+then-size-found}

pub returns-then-ne-clause-checks : goal.returns-then-ne-clause-checks
returns-then-ne-clause-checks g c =
    elim c.then-ne.branch [
      | then-ne-via-then-ne w ↦ checks_apart _ _ c.args.path.now c.args.text.now c.args.image.now c.args.size c.requires (inl (differ_if c.args.image.now c.args.path.now _ c.ne.ensures w.if-ne.true))
      | then-ne-via-else-ne+then-size-found w ↦ checks_apart _ _ c.args.path.now c.args.text.now c.args.image.now c.args.size c.requires (inr w.if-size-found.true)
    ]

pub returns-in-Ok-Some-clause-checks : goal.returns-in-Ok-Some-clause-checks
returns-in-Ok-Some-clause-checks g c =
    let answer = rw c.in-Ok-Some.field-0-is at c.in-Ok-Some.ensures.answer in
    checks_disk _ _ c.args.path.now c.args.text.now c.args.image.now c.args.size c.requires _ c.in-Ok-Some.field-0-0
    (unchanged_size {T = Option ℕ} _ _ _ c.args.image.now (Ok c.in-Ok-Some.field-0) c.in-Ok-Some.ensures.past)
    (fails_call {T = Option ℕ} _ _ _ (Size c.args.image.now) (Ok c.in-Ok-Some.field-0) c.in-Ok-Some.ensures.past)
    answer.is

pub returns-in-Ok-None-clause-checks : goal.returns-in-Ok-None-clause-checks
returns-in-Ok-None-clause-checks g c =
    let answer = rw c.in-Ok-None.field-0-is at c.in-Ok-None.ensures.answer in
    let same = same_unless c.args.image.now c.args.path.now _ c.ne.ensures c.if-ne.false in
    checks_cut _ _ c.args.path.now c.args.text.now c.args.image.now c.args.size c.requires _
    (unchanged_size {T = Option ℕ} _ _ _ c.args.image.now (Ok c.in-Ok-None.field-0) c.in-Ok-None.ensures.past)
    (fails_call {T = Option ℕ} _ _ _ (Size c.args.image.now) (Ok c.in-Ok-None.field-0) c.in-Ok-None.ensures.past)
    same c.if-size-found.false answer.is
