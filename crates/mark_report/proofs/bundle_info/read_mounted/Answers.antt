use Rattle.std.proofs.Common.{[], ◌∷◌, ◌∙◌, ap, subst}
use Rattle.machine.specs.declared.world.Child.{Child}
use Rattle.machine.specs.declared.world.World.{World}
use Rattle.machine.specs.Runs.{OnlyRuns}
use Rattle.machine.proofs.Joins.{now_unchanged, reads_unchanged}
use Rattle.machine.proofs.Running.{only_runs_join, only_runs_reads, ran_none}
use Rattle.system_conf.specs.Reads.{system_configuration}
use Rattle.child_steps.specs.Children.{helper_spares, umount_child}
use Rattle.child_steps.specs.Closing.{ClosingEnds}
use Rattle.mark_report.proofs.Opened.{counted_both, fault_as, loads_as}
use Rattle.mark_report.proofs.bundle_info.read_mounted.Goals as goal

pub returns-clause-kept : goal.returns-clause-kept
returns-clause-kept g c =
    let conf = system_configuration c.args.system.now in
    only_runs_join _ (helper_spares conf []) [] (umount_child conf ∷ []) _ _ _ (λ told. ran_none (g.M.Machine.past c.args.m.now) (g.M.Machine.past c.read_bundle-read.new.m) (ap (λ (w : World). w.runs) (now_unchanged g.M.Machine.tells (g.M.Machine.past c.args.m.now) (g.M.Machine.past c.read_bundle-read.new.m) c.read_bundle-read.ensures.unchanged told))) (only_runs_reads _ (helper_spares conf []) [] _ _ (reads_unchanged _ _ _ c.read_bundle-read.ensures.unchanged))
    (subst (λ (x : Child). OnlyRuns g.M.Machine.tells x.spares (x ∷ []) (g.M.Machine.past c.read_bundle-read.new.m) (g.M.Machine.past c.close_bundle-closing.new.m)) c.requires c.close_bundle-closing.ensures.kept)

pub returns-clause-ends : goal.returns-clause-ends
returns-clause-ends g c =
    rw c.bundle_result.ensures (λ told. record {
      read = g.M.Machine.past c.read_bundle-read.new.m;
      reads = c.read_bundle-read.ensures.once told;
      answer = loads_as _ c.read_bundle-read.result (c.read_bundle-read.ensures.answers told);
      fails = c.read_bundle-read.ensures.fails.first told ∙ fault_as c.read_bundle-read.result;
      closed = subst (λ (x : Child). ClosingEnds x (g.M.Machine.past c.read_bundle-read.new.m) (g.M.Machine.past c.close_bundle-closing.new.m) c.close_bundle-closing.result) c.requires (c.close_bundle-closing.ensures.ends told);
    })

pub returns-clause-counts : goal.returns-clause-counts
returns-clause-counts g c =
    rw c.bundle_result.ensures (counted_both _ _ _ _ _ _ c.read_bundle-read.result c.close_bundle-closing.result c.read_bundle-read.ensures.counts c.close_bundle-closing.ensures.counts)
