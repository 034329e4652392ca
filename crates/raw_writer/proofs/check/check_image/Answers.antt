use Rattle.machine.proofs.Failing.{fails_join}
use Rattle.machine.proofs.Joins.{now_unchanged, unchanged_join}
use Rattle.raw_writer.proofs.Asking.{asks_join}
use Rattle.raw_writer.proofs.Checks.{image_settled}
use Rattle.raw_writer.proofs.check.check_image.Goals as goal

pub returns-in-Ok-Some-clause-answers : goal.returns-in-Ok-Some-clause-answers
returns-in-Ok-Some-clause-answers g c = λ told.
    let same = now_unchanged _ _ _ c.size_under.ensures.unchanged told in
    let found = rw c.in-Ok-Some.field-0-is at (c.in-Ok-Some.ensures.answers told) in
    image_settled _ _ _ _ _ _ _ same (cc) (c.check_stated.ensures.answers told)

pub returns-in-Ok-Some-clause-unchanged : goal.returns-in-Ok-Some-clause-unchanged
returns-in-Ok-Some-clause-unchanged g c = unchanged_join _ _ _ _ c.size_under.ensures.unchanged c.check_stated.ensures.unchanged

pub returns-in-Ok-Some-clause-fails : goal.returns-in-Ok-Some-clause-fails
returns-in-Ok-Some-clause-fails g c =
    fails_join _ _ _ _ _ c.in-Ok-Some.ensures.fails c.check_stated.ensures.fails

pub returns-in-Ok-Some-clause-asks : goal.returns-in-Ok-Some-clause-asks
returns-in-Ok-Some-clause-asks g c = asks_join _ _ _ _ c.size_under.ensures.asks c.check_stated.ensures.asks
