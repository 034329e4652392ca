use Rattle.std.proofs.Common.{[], ◌∷◌, length, ◌∙◌, ap}
use Rattle.machine.proofs.Failing.{fails_join}
use Rattle.machine.proofs.Joins.{now_unchanged}
use Rattle.status_file.specs.declared.reading.StatusRead.{StatusRead}
use Rattle.system_conf.specs.Reads.{system_configuration}
use Rattle.install_facts.specs.Failing.{is_bundle_call, is_early_call, is_later_call, is_target_call}
use Rattle.install_facts.specs.Gathering.{accepted_note, notes_if}
use Rattle.install_facts.proofs.Failing.{bundle_is_early, bundle_is_later, target_is_later, then_in, wider_in}
use Rattle.install_facts.proofs.Joining.{early_notes, facts_answer, fault_chosen, kept_then_unchanged, late_notes, noted_more, noted_none, sound_if}
use Rattle.install_facts.proofs.gathering.gather_known.Goals as goal

pub returns-in-Err-clause-notes : goal.returns-in-Err-clause-notes
returns-in-Err-clause-notes g c =
    let conf = system_configuration c.args.system.now in
    noted_none _ _ (early_notes _ conf _ _ c.in-Err.stop c.in-Err.ensures.early
    (wider_in _ (is_bundle_call conf) (is_early_call conf) _ _ _ (bundle_is_early conf) c.in-Err.ensures.failing))

pub returns-in-Err-clause-failing : goal.returns-in-Err-clause-failing
returns-in-Err-clause-failing g c =
    let conf = system_configuration c.args.system.now in
    wider_in _ (is_bundle_call conf) (is_later_call conf) _ _ _ (bundle_is_later conf) c.in-Err.ensures.failing

pub returns-clause-kept : goal.returns-clause-kept
returns-clause-kept g c = kept_then_unchanged _ _ _ _ _ _ c.in-Ok.ensures.kept c.choose-chosen.ensures.unchanged

pub returns-clause-answers : goal.returns-clause-answers
returns-clause-answers g c = λ told.
    rw c.facts_if.ensures.is
    (facts_answer (system_configuration c.args.system.now) c.args.request.now c.args.booted (g.M.Machine.past c.args.m.now) (g.M.Machine.past c.know_accepted.new.m) (g.M.Machine.past c.choose-chosen.new.m) c.in-Ok.known c.choose-chosen.result
    (c.in-Ok.ensures.fails.grows told) (c.choose-chosen.ensures.fails.grows told) (now_unchanged _ _ _ c.choose-chosen.ensures.unchanged told) (c.in-Ok.ensures.silent told)
    (c.in-Ok.ensures.answers told) c.choose-chosen.ensures.states (c.choose-chosen.ensures.answers told))

pub returns-clause-sound : goal.returns-clause-sound
returns-clause-sound g c =
    rw c.facts_if.ensures.is
    (sound_if (system_configuration c.args.system.now) c.in-Ok.known c.choose-chosen.result (ap (λ (r : StatusRead). length r.book) c.in-Ok.ensures.read ∙ c.requires.all)
    c.choose-chosen.ensures.states c.choose-chosen.ensures.placed c.choose-chosen.ensures.skipped c.choose-chosen.ensures.timed c.choose-chosen.ensures.ready)

pub returns-clause-notes : goal.returns-clause-notes
returns-clause-notes g c =
    let conf = system_configuration c.args.system.now in
    rw c.facts_if.ensures.is
    (noted_more _ _ _ (accepted_note ∷ []) (notes_if c.choose-chosen.result) c.note.ensures c.facts_if.ensures.notes
    (late_notes _ conf _ _ c.in-Ok.known c.choose-chosen.result c.choose-chosen.ensures.late
    (then_in _ is_target_call _ _ _ _ c.in-Ok.ensures.fails c.choose-chosen.ensures.fails c.choose-chosen.ensures.failing)))

pub returns-clause-fails : goal.returns-clause-fails
returns-clause-fails g c =
    rw c.facts_if.ensures.is (rw (fault_chosen c.in-Ok.known c.choose-chosen.result) (fails_join _ _ _ _ _ c.in-Ok.ensures.fails c.choose-chosen.ensures.fails))

pub returns-clause-failing : goal.returns-clause-failing
returns-clause-failing g c =
    let conf = system_configuration c.args.system.now in
    rw c.facts_if.ensures.is
    (rw (fault_chosen c.in-Ok.known c.choose-chosen.result)
    (wider_in _ is_target_call (is_later_call conf) _ _ _ (target_is_later conf)
    (then_in _ is_target_call _ _ _ _ c.in-Ok.ensures.fails c.choose-chosen.ensures.fails c.choose-chosen.ensures.failing)))
