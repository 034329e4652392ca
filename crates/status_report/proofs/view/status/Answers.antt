use Rattle.std.proofs.Common.{◌∙◌, ap, sym}
use Rattle.machine.proofs.Failing.{fails_join}
use Rattle.machine.proofs.Joins.{now_unchanged}
use Rattle.machine.proofs.Moments.{grows_trans}
use Rattle.machine.specs.Past.{world_now}
use Rattle.slot_graph.specs.Booted.{states_of}
use Rattle.status_file.specs.declared.reading.StatusRead.{StatusRead}
use Rattle.system_conf.specs.Reads.{system_configuration}
use Rattle.status_report.proofs.Joining.{fails_read, kept_before, kept_behind, now_read, runs_before, runs_behind, view_read, view_stopped}
use Rattle.status_report.proofs.Telling.{tells_boot, tells_world}
use Rattle.status_report.proofs.view.status.Goals as goal

pub returns-in-Err-read_vars-clause-kept : goal.returns-in-Err-read_vars-clause-kept
returns-in-Err-read_vars-clause-kept g c = λ told. kept_before _ told _ _ _ _ _ (g.M.Machine.past c.read_vars.new.m) c.in-Ok.ensures.unchanged (c.in-Err-read_vars.ensures.kept told)

pub returns-in-Err-read_vars-clause-causes : goal.returns-in-Err-read_vars-clause-causes
returns-in-Err-read_vars-clause-causes g c = λ told.
    view_stopped (system_configuration c.args.system.now) _ _ c.in-Err-read_vars.stop (runs_before _ told _ _ _ _ _ (g.M.Machine.past c.read_vars.new.m) c.in-Ok.ensures.unchanged (c.in-Err-read_vars.ensures.kept told)) (c.in-Err-read_vars.ensures.causes told)

pub returns-in-Err-read_vars-clause-fails : goal.returns-in-Err-read_vars-clause-fails
returns-in-Err-read_vars-clause-fails g c = fails_join _ _ _ _ _ c.in-Ok.ensures.fails c.in-Err-read_vars.ensures.fails

pub returns-in-Err-stored_status-clause-kept : goal.returns-in-Err-stored_status-clause-kept
returns-in-Err-stored_status-clause-kept g c = λ told. kept_behind _ told _ _ _ _ _ _ c.in-Ok.ensures.unchanged (c.in-Ok-read_vars.ensures.kept told) c.in-Err-stored_status.ensures.unchanged

pub returns-in-Err-stored_status-clause-fails : goal.returns-in-Err-stored_status-clause-fails
returns-in-Err-stored_status-clause-fails g c =
    fails_join _ _ _ _ _ (fails_join _ _ _ _ _ c.in-Ok.ensures.fails c.in-Ok-read_vars.ensures.fails)
    (fails_read StatusRead _ _ _ c.in-Err-stored_status.stop c.read_stop-in-Err-stored_status.result c.read_stop-in-Err-stored_status.ensures c.in-Err-stored_status.ensures.fails)

pub returns-in-Ok-view_of-clause-kept : goal.returns-in-Ok-view_of-clause-kept
returns-in-Ok-view_of-clause-kept g c = λ told. kept_behind _ told _ _ _ _ _ _ c.in-Ok.ensures.unchanged (c.in-Ok-read_vars.ensures.kept told) c.in-Ok-stored_status.ensures.unchanged

pub returns-in-Ok-view_of-clause-world : goal.returns-in-Ok-view_of-clause-world
returns-in-Ok-view_of-clause-world g c = λ told.
    tells_world (system_configuration c.args.system.now) _ _ (world_now (g.M.Machine.past c.read_vars.new.m)) c.in-Ok-view_of.view c.in-Ok-stored_status.stored
    (c.in-Ok-view_of.ensures.booted ∙ c.in-Ok.ensures.answers told)
    (c.in-Ok-view_of.ensures.states ∙ ap (states_of c.args.system.now.slots) (sym c.in-Ok-view_of.ensures.booted))
    (now_read _ told _ _ _ _ _ (g.M.Machine.past c.stored_status.new.m) c.in-Ok.ensures.unchanged (c.in-Ok-read_vars.ensures.kept told))
    (c.in-Ok-stored_status.ensures.answers told) c.in-Ok-view_of.ensures.book c.in-Ok-view_of.ensures.unread

pub returns-in-Ok-view_of-clause-boot : goal.returns-in-Ok-view_of-clause-boot
returns-in-Ok-view_of-clause-boot g c = λ told.
    let first = (c.in-Ok.ensures.unchanged.all told).grows in
    let second = (c.in-Ok-read_vars.ensures.kept told).grows in
    let third = (c.in-Ok-stored_status.ensures.unchanged.all told).grows in
    tells_boot (system_configuration c.args.system.now) _ _ _ _ c.in-Ok-read_vars.vars c.in-Ok-view_of.view (now_unchanged _ _ _ c.in-Ok.ensures.unchanged told) first second third (grows_trans _ _ _ second third) (c.in-Ok-read_vars.ensures.tells told) c.in-Ok-view_of.ensures.vars

pub returns-in-Ok-view_of-clause-causes : goal.returns-in-Ok-view_of-clause-causes
returns-in-Ok-view_of-clause-causes g c = λ told.
    view_read (system_configuration c.args.system.now) _ _ c.in-Ok-read_vars.vars c.in-Ok-view_of.view
    (runs_behind _ told _ _ _ _ _ _ c.in-Ok.ensures.unchanged (c.in-Ok-read_vars.ensures.kept told) c.in-Ok-stored_status.ensures.unchanged) (c.in-Ok-read_vars.ensures.causes told) c.in-Ok-view_of.ensures.vars

pub returns-in-Ok-view_of-clause-fails : goal.returns-in-Ok-view_of-clause-fails
returns-in-Ok-view_of-clause-fails g c =
    fails_join _ _ _ _ _ (fails_join _ _ _ _ _ c.in-Ok.ensures.fails c.in-Ok-read_vars.ensures.fails) c.in-Ok-stored_status.ensures.fails

pub returns-clause-kept : goal.returns-clause-kept
returns-clause-kept g c = λ told. kept_behind _ told _ _ _ _ _ _ c.in-Ok.ensures.unchanged (c.in-Ok-read_vars.ensures.kept told) c.in-Ok-stored_status.ensures.unchanged

pub returns-clause-fails : goal.returns-clause-fails
returns-clause-fails g c =
    fails_join _ _ _ _ _ (fails_join _ _ _ _ _ c.in-Ok.ensures.fails c.in-Ok-read_vars.ensures.fails) c.in-Ok-stored_status.ensures.fails
