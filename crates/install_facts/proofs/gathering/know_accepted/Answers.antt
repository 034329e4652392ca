use Rattle.std.proofs.Common.{refl}
use Rattle.std.proofs.lemmas.Slice.Eq.{bytes_eq-Decides}
use Rattle.child_steps.specs.Bundle.{manifest_path}
use Rattle.machine.proofs.Failing.{fails_join}
use Rattle.machine.proofs.Joins.{now_unchanged}
use Rattle.manifest.specs.Reads.{manifest_content}
use Rattle.system_conf.specs.Reads.{system_configuration}
use Rattle.install_facts.specs.Failing.{is_bundle_call}
use Rattle.install_facts.proofs.Failing.{once_in, then_in}
use Rattle.install_facts.proofs.Knowing.{accepted_answers, content_known, fault_if, kept_accepted, unknown_answers}
use Rattle.install_facts.proofs.gathering.know_accepted.Goals as goal

pub returns-in-Err-clause-answers : goal.returns-in-Err-clause-answers
returns-in-Err-clause-answers g c = λ told.
    unknown_answers (system_configuration c.args.system.now) c.args.request.now c.args.booted c.args.read (g.M.Machine.past c.args.m.now) (g.M.Machine.past c.know_bundle.new.m) c.in-Err.stop (c.requires told) (c.in-Err.ensures.looks.answers told)

pub returns-in-Err-clause-failing : goal.returns-in-Err-clause-failing
returns-in-Err-clause-failing g c =
    let conf = system_configuration c.args.system.now in
    once_in _ (is_bundle_call conf) (manifest_path conf) _ _ _ c.in-Err.ensures.once ((bytes_eq-Decides (manifest_path conf) (manifest_path conf)).1 refl) c.in-Err.ensures.looks.fails

pub returns-clause-kept : goal.returns-clause-kept
returns-clause-kept g c =
    let known = c.in-Ok.known in
    kept_accepted _ (system_configuration c.args.system.now) (manifest_content known.manifest) _ _ _ c.in-Ok.ensures.looks.unchanged
    (λ told. content_known c.args.booted c.args.read.book c.args.read.unread _ known (c.in-Ok.ensures.looks.answers told)) c.accept-accepted.ensures.kept

pub returns-clause-answers : goal.returns-clause-answers
returns-clause-answers g c = λ told.
    rw c.if_accepted.ensures
    (accepted_answers (system_configuration c.args.system.now) c.args.request.now c.args.booted c.args.read (g.M.Machine.past c.args.m.now) (g.M.Machine.past c.know_bundle.new.m) (g.M.Machine.past c.accept-accepted.new.m) c.in-Ok.known c.accept-accepted.result (c.requires told)
    (now_unchanged _ _ _ c.in-Ok.ensures.looks.unchanged told) (c.in-Ok.ensures.looks.answers told) (c.accept-accepted.ensures.answers told))

pub returns-clause-fails : goal.returns-clause-fails
returns-clause-fails g c =
    rw c.if_accepted.ensures (rw (fault_if c.in-Ok.known c.accept-accepted.result) (fails_join _ _ _ _ _ c.in-Ok.ensures.looks.fails c.accept-accepted.ensures.fails))

pub returns-clause-failing : goal.returns-clause-failing
returns-clause-failing g c =
    rw c.if_accepted.ensures
    (rw (fault_if c.in-Ok.known c.accept-accepted.result)
    (then_in _ _ _ _ _ _ c.in-Ok.ensures.looks.fails c.accept-accepted.ensures.fails c.accept-accepted.ensures.failing))
