use Rattle.std.proofs.Common.{◌++◌, ◌∙◌, [], ◌∷◌, ℕ, List, ap, codes, length}
use Rattle.child_steps.specs.declared.handlers.HandlerKind.TheVariants as handler
use Rattle.slot_graph.specs.declared.job.Job.{Job}
use Rattle.system_conf.specs.Reads.{system_configuration}
use Rattle.install_facts.specs.Facts.{facts_content}
use Rattle.install_facts.specs.Notes.{note}
use Rattle.install_plan.specs.Acts.{acts_of, bad_acts, handler_acts, jobs_acts, root_acts, target_roots}
use Rattle.install_plan.specs.declared.step.Act.TheVariants.{Tell}
use Rattle.install_plan.proofs.Shape.{seven}
use Rattle.install_plan.proofs.acts.push_all.Goals as goal

pub returns : goal.returns
unfolding acts_of
returns c =
    let conf = system_configuration c.args.system.now in
    let facts = facts_content c.args.facts.now in
    let roots = target_roots conf facts in
    seven c.args.acts.now
    (handler_acts conf facts handler.Pre 0) (bad_acts roots) (jobs_acts conf facts) (root_acts roots)
    (Tell (note 95 (codes "target activated")) ∷ []) (handler_acts conf facts handler.Post (length facts.jobs)) (Tell (note 100 (codes "done")) ∷ [])
    c.in_ok-push_handler.ensures
    (c.in_ok-push_bad.ensures ∙ ap (λ (xs : List ℕ). c.push_handler.new.acts ++ bad_acts xs) c.requires)
    c.in_ok-push_jobs.ensures
    (c.in_ok-push_roots.ensures ∙ ap (λ (xs : List ℕ). c.push_jobs.new.acts ++ root_acts xs) c.requires)
    c.in_ok-push_note.ensures
    (c.in_ok-push_handler-2.ensures ∙ ap (λ (xs : List Job). c.push_note.new.acts ++ handler_acts conf facts handler.Post (length xs)) c.as_slice-all.ensures)
    c.in_ok-push_note-2.ensures
