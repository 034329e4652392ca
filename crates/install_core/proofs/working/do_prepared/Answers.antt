use Rattle.std.proofs.Common.{List, sym, ◌∙◌, subst}
use Rattle.system_conf.specs.Reads.{system_configuration}
use Rattle.install_facts.specs.Facts.{facts_content}
use Rattle.install_plan.specs.Acts.{notes_in, steps_in}
use Rattle.install_plan.specs.declared.step.Act.{Act}
use Rattle.install_steps.specs.Progress.{CanDoAll, FitsAll}
use Rattle.install_steps.specs.Steady.{AreShort, StaySteady}
use Rattle.install_core.proofs.ListDoable.{list_doable}
use Rattle.install_core.proofs.ListFits.{list_fits}
use Rattle.install_core.proofs.ListShort.{short_notes}
use Rattle.install_core.proofs.ListSteady.{list_steady}
use Rattle.install_core.proofs.Packed.{runs_same}
use Rattle.install_core.proofs.working.do_prepared.Goals as goal

pub run_acts-requires-clause-can : goal.run_acts-requires-clause-can
run_acts-requires-clause-can g c =
    let conf = system_configuration c.args.system.now in
    subst (λ (acts : List Act). CanDoAll conf (facts_content c.args.facts.now) (steps_in acts)) (sym (c.as_slice.ensures ∙ c.requires.prepared.acts)) (list_doable c.args.system.now c.args.facts.now c.requires.sound)

pub run_acts-requires-clause-fits : goal.run_acts-requires-clause-fits
run_acts-requires-clause-fits g c =
    subst (λ (acts : List Act). FitsAll g.M.Machine.tells (g.M.Machine.past c.args.m.now) (steps_in acts)) (sym (c.as_slice.ensures ∙ c.requires.prepared.acts))
    (list_fits g.M.Machine.tells (g.M.Machine.past c.args.m.now) c.args.system.now c.args.facts.now c.requires.sound c.requires.fits)

pub run_acts-requires-clause-steady : goal.run_acts-requires-clause-steady
run_acts-requires-clause-steady g c =
    subst (λ (acts : List Act). StaySteady (system_configuration c.args.system.now) (steps_in acts)) (sym (c.as_slice.ensures ∙ c.requires.prepared.acts)) (list_steady c.args.system.now c.args.facts.now c.requires.sound)

pub run_acts-requires-clause-short : goal.run_acts-requires-clause-short
run_acts-requires-clause-short g c =
    subst (λ (acts : List Act). AreShort (notes_in acts)) (sym (c.as_slice.ensures ∙ c.requires.prepared.acts)) (short_notes c.args.system.now c.args.facts.now)

pub returns-clause-runs : goal.returns-clause-runs
returns-clause-runs g c =
    runs_same _ _ _ _ _ _ _ _ _ _ _ _ c.run_acts.new.ends c.run_acts.ensures.runs (c.as_slice.ensures ∙ c.requires.prepared.acts) c.as_mut_slice.ensures.value c.requires.prepared.ends
