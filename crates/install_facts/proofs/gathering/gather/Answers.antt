use Rattle.std.proofs.Common.{subst, sym}
use Rattle.machine.specs.declared.world.World.{World}
use Rattle.machine.proofs.Failing.{fails_join}
use Rattle.machine.proofs.Joins.{now_unchanged}
use Rattle.status_file.specs.Status.{IsStored}
use Rattle.system_conf.specs.Reads.{system_configuration}
use Rattle.install_facts.specs.Failing.{is_early_call, is_first_call}
use Rattle.install_facts.proofs.Failing.{first_is_early, wider_in}
use Rattle.install_facts.proofs.Joining.{booted_facts, early_notes, kept_after_unchanged, noted_after, noted_none, unread_late}
use Rattle.install_facts.proofs.gathering.gather.Goals as goal

pub gather_known-facts-requires-clause-stored : goal.gather_known-facts-requires-clause-stored
gather_known-facts-requires-clause-stored g c = λ told.
    subst (λ (w : World). IsStored (system_configuration c.args.system.now) w c.in-Ok.read) (sym (now_unchanged _ _ _ c.in-Ok.ensures.looks.unchanged told)) (c.in-Ok.ensures.looks.answers told).1

pub returns-in-Ok-clause-kept : goal.returns-in-Ok-clause-kept
returns-in-Ok-clause-kept g c = kept_after_unchanged _ (system_configuration c.args.system.now) _ _ _ c.in-Ok.ensures.looks.unchanged c.gather_known-facts.ensures.kept

pub returns-in-Ok-clause-answers : goal.returns-in-Ok-clause-answers
returns-in-Ok-clause-answers g c = λ told.
    booted_facts (system_configuration c.args.system.now) c.args.request.now c.in-Ok.booted (g.M.Machine.past c.args.m.now) (g.M.Machine.past c.know_first.new.m) (g.M.Machine.past c.gather_known-facts.new.m) c.gather_known-facts.result
    (c.in-Ok.ensures.looks.fails.grows told) (c.gather_known-facts.ensures.fails.grows told) (now_unchanged _ _ _ c.in-Ok.ensures.looks.unchanged told) (c.in-Ok.ensures.silent told)
    (c.in-Ok.ensures.looks.answers told).0 (c.gather_known-facts.ensures.answers told)

pub returns-in-Ok-clause-unread : goal.returns-in-Ok-clause-unread
returns-in-Ok-clause-unread g c = λ told.
    unread_late _ (system_configuration c.args.system.now) c.args.request.now.given_boot _ _ _ c.in-Ok.booted c.in-Ok.read c.gather_known-facts.result told (c.in-Ok.ensures.looks.answers told)
    c.in-Ok.ensures.looks.fails c.gather_known-facts.ensures.fails c.gather_known-facts.ensures.failing

pub returns-in-Ok-clause-notes : goal.returns-in-Ok-clause-notes
returns-in-Ok-clause-notes g c =
    noted_after _ (system_configuration c.args.system.now) _ _ _ c.gather_known-facts.result _ _ c.in-Ok.ensures.looks.fails c.gather_known-facts.ensures.fails c.gather_known-facts.ensures.notes

pub returns-in-Ok-clause-fails : goal.returns-in-Ok-clause-fails
returns-in-Ok-clause-fails g c = fails_join _ _ _ _ _ c.in-Ok.ensures.looks.fails c.gather_known-facts.ensures.fails

pub returns-in-Err-clause-notes : goal.returns-in-Err-clause-notes
returns-in-Err-clause-notes g c =
    let conf = system_configuration c.args.system.now in
    noted_none _ _ (early_notes _ conf _ _ c.in-Err.stop c.in-Err.ensures.early
    (wider_in _ (is_first_call conf) (is_early_call conf) _ _ _ (first_is_early conf) c.in-Err.ensures.failing))
