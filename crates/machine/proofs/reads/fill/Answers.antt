use Rattle.std.proofs.Common.{◌≡◌, ◌<◌, ◌≤◌, ◌+◌, ◌-◌, ℕ, Ok, Err, refl, length, take, drop, subst, ◌∙◌, arith}
use Rattle.std.proofs.lemmas.List.{length-drop, length-take}
use borrow.Rule.Slice.PartMut.{put_mid, same_len_mid}
use Rattle.machine.specs.World.{with_fetched}
use Rattle.machine.specs.Past.{Read, world_now}
use Rattle.machine.proofs.Joins.{reads_join, reads_none}
use Rattle.machine.proofs.Failing.{fails_call, fails_join, fails_none}
use Rattle.machine.proofs.Reading.{Filled, filled_end, filled_full, filled_more, filled_none, reads_at}
use Rattle.machine.proofs.reads.fill.Goals as goal

pub loop-done-init : goal.loop-done-init
loop-done-init g c = record {
  within = omega arith;
  as_long = refl;
  faults = omega arith;
  wants = omega arith;
  fails = fails_none _ _;
  filled = filled_none _ _ _ _ _ (reads_none _ _);
}

pub returns-in-Err-clause-reads : goal.returns-in-Err-clause-reads
returns-in-Err-clause-reads g c =
    reads_join _ _ _ _ c.loop-done.invariant.filled.reads (reads_at {T = ℕ} _ _ _ c.args.path.now 0 (Err c.in-Err.stop) c.in-Err.ensures.past)

pub returns-in-Err-clause-fails : goal.returns-in-Err-clause-fails
returns-in-Err-clause-fails g c =
    fails_join _ _ _ _ _ c.loop-done.invariant.fails (fails_call {T = ℕ} _ _ _ (Read c.args.path.now 0) (Err c.in-Err.stop) c.in-Err.ensures.past)

pub returns-then-count-eq0-clause-reads : goal.returns-then-count-eq0-clause-reads
returns-then-count-eq0-clause-reads g c =
    reads_join _ _ _ _ c.loop-done.invariant.filled.reads (reads_at {T = ℕ} _ _ _ c.args.path.now c.in-Ok.count (Ok c.in-Ok.count) c.in-Ok.ensures.past)

pub returns-then-count-eq0-clause-answer : goal.returns-then-count-eq0-clause-answer
returns-then-count-eq0-clause-answer g c =
    let rest_is : length c.read_at.new.into ≡ length c.loop-done.into - c.loop-done.done = c.read_at.auto.into ∙ simp (length-take, length-drop) (omega arith) in
    let filled = filled_more _ _ _ (g.M.Machine.past c.read_at.new.self) _ _ _ _ _ _ c.read_at.new.into c.loop-done.invariant.within rest_is c.loop-done.invariant.filled c.in-Ok.ensures.past c.in-Ok.ensures.answer in
    let same : c.loop-done.done + c.in-Ok.count ≡ c.loop-done.done = omega (arith, c.if-count-eq0.true) in
    let room : 0 < length (take (length c.loop-done.into - c.loop-done.done) (drop c.loop-done.done c.loop-done.into)) = simp (length-take, length-drop) (omega arith) in
    filled_full _ _ _ _ _ _ _ _ (omega (arith, c.loop-done.invariant.within, c.loop-done.invariant.as_long))
    (λ told less. filled_end _ _ _ _ _ _ _ _ _ _ _ c.loop-done.invariant.filled c.in-Ok.ensures.answer c.if-count-eq0.true room told)
    (subst (λ (k : ℕ). Filled g.M.Machine.tells (g.M.Machine.past c.args.m.now) (g.M.Machine.past c.read_at.new.self) c.args.path.now c.args.at k c.args.into.now (put_mid c.loop-done.done (length c.loop-done.into - c.loop-done.done) c.loop-done.into c.read_at.new.into)) same filled)

pub returns-then-count-eq0-clause-left : goal.returns-then-count-eq0-clause-left
returns-then-count-eq0-clause-left g c = λ told.
    let rest_is : length c.read_at.new.into ≡ length c.loop-done.into - c.loop-done.done = c.read_at.auto.into ∙ simp (length-take, length-drop) (omega arith) in
    let filled = filled_more _ _ _ (g.M.Machine.past c.read_at.new.self) _ _ _ _ _ _ c.read_at.new.into c.loop-done.invariant.within rest_is c.loop-done.invariant.filled c.in-Ok.ensures.past c.in-Ok.ensures.answer in
    let same : c.loop-done.done + c.in-Ok.count ≡ c.loop-done.done = omega (arith, c.if-count-eq0.true) in
    subst (λ (k : ℕ). world_now (g.M.Machine.past c.read_at.new.self) ≡ with_fetched (world_now (g.M.Machine.past c.args.m.now)) c.args.path.now k) same (filled.left told)

pub returns-then-count-eq0-clause-fails : goal.returns-then-count-eq0-clause-fails
returns-then-count-eq0-clause-fails g c =
    fails_join _ _ _ _ _ c.loop-done.invariant.fails (fails_call _ _ _ (Read c.args.path.now c.in-Ok.count) (Ok c.in-Ok.count) c.in-Ok.ensures.past)

pub loop-done-preserved : goal.loop-done-preserved
loop-done-preserved g c =
    let rest_is : length c.read_at.new.into ≡ length c.loop-done.into - c.loop-done.done = c.read_at.auto.into ∙ simp (length-take, length-drop) (omega arith) in
    let filled = filled_more _ _ _ (g.M.Machine.past c.read_at.new.self) _ _ _ _ _ _ c.read_at.new.into c.loop-done.invariant.within rest_is c.loop-done.invariant.filled c.in-Ok.ensures.past c.in-Ok.ensures.answer in
    let fits : c.in-Ok.count ≤ length c.read_at.new.into = omega (arith, c.read_at.auto.into, c.in-Ok.ensures.answer.took.within) in
    let same = same_len_mid c.loop-done.done (length c.loop-done.into - c.loop-done.done) c.loop-done.into c.read_at.new.into c.read_at.auto.into in
    record {
      within = omega (arith, same, fits, rest_is);
      as_long = same ∙ c.loop-done.invariant.as_long;
      faults = omega (arith, c.in-Ok.ensures.counts);
      wants = omega (arith, c.in-Ok.ensures.counts);
      fails = fails_join _ _ _ _ _ c.loop-done.invariant.fails (fails_call _ _ _ (Read c.args.path.now c.in-Ok.count) (Ok c.in-Ok.count) c.in-Ok.ensures.past);
      filled = filled;
    }
