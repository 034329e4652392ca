use Rattle.std.proofs.Common.{◌≡◌, ◌+◌, drop, refl, slice_get, Some, subst, List, take_all, arith}
use Rattle.std.proofs.lemmas.Option.{slice_get_read}
use Rattle.system_conf.specs.Reads.{system_configuration}
use Rattle.install_facts.specs.Facts.{facts_content}
use Rattle.install_plan.specs.Acts.{steps_in}
use Rattle.install_plan.specs.declared.step.Act.{Act}
use Rattle.install_steps.proofs.ActsDone.{SoFar, act_more, act_order, act_stops, all_done, can_act, longer_by}
use Rattle.install_steps.proofs.running.run_acts.Goals as goal

pub do_act-requires-clause-can : goal.do_act-requires-clause-can
do_act-requires-clause-can g c =
    let acts = c.args.acts.now in
    let at : slice_get acts c.loop-act.act-index ≡ Some c.act-item.result = slice_get_read _ _ _ _ refl c.loop-act-test.true c.act-item.is in
    can_act _ _ _ acts _ _ _ _ _ _ _ _ c.loop-act.invariant.so_far (drop (c.loop-act.act-index + 1) acts) c.act-item.result (act_order acts c.loop-act.act-index c.act-item.result at) c.requires.can c.requires.short

pub returns-in-Err-clause-runs : goal.returns-in-Err-clause-runs
returns-in-Err-clause-runs g c =
    let acts = c.args.acts.now in
    let at : slice_get acts c.loop-act.act-index ≡ Some c.act-item.result = slice_get_read _ _ _ _ refl c.loop-act-test.true c.act-item.is in
    act_stops _ _ _ acts _ _ _ _ _ _ _ _ c.loop-act.invariant.so_far (drop (c.loop-act.act-index + 1) acts) _ _ _ _ c.act-item.result c.in-Err.stop (act_order acts c.loop-act.act-index c.act-item.result at) c.in-Err.ensures.acts

pub loop-act-preserved : goal.loop-act-preserved
loop-act-preserved g c =
    let acts = c.args.acts.now in
    let at : slice_get acts c.loop-act.act-index ≡ Some c.act-item.result = slice_get_read _ _ _ _ refl c.loop-act-test.true c.act-item.is in
    record {
      faults = omega (arith, c.loop-act.invariant.faults, c.in-Ok.ensures.counts);
      wants = omega (arith, c.loop-act.invariant.wants, c.in-Ok.ensures.counts);
      so_far =
          subst (λ (done : List Act). SoFar g.M.Machine.tells (system_configuration c.args.system.now) (facts_content c.args.facts.now) (steps_in acts) done (g.M.Machine.past c.args.m.now) (g.M.Machine.past c.do_act.new.m) (facts_content c.do_act.new.facts) c.args.ends.now c.do_act.new.ends (g.P.Report.stands c.args.report.now) (g.P.Report.stands c.do_act.new.report))
          (longer_by acts c.loop-act.act-index c.act-item.result at)
          (act_more _ _ _ acts _ _ _ _ _ _ _ _ c.loop-act.invariant.so_far (drop (c.loop-act.act-index + 1) acts) _ _ _ _ c.act-item.result (act_order acts c.loop-act.act-index c.act-item.result at) c.requires.steady c.in-Ok.ensures.acts);
    }

pub returns-clause-runs : goal.returns-clause-runs
returns-clause-runs g c =
    all_done _ _ _ c.args.acts.now _ _ _ _ _ _ _ _ c.loop-act.invariant.so_far (take_all c.loop-act.act-index c.args.acts.now c.loop-act-test.false)
