use Rattle.std.proofs.Common.{◌≡◌, ◌++◌, [], ◌∷◌, List, ℕ, ◌∙◌, ap}
use Rattle.updater_text.specs.Lent.{with_front}
use Rattle.undo_log.proofs.Putting.{on_err, put_kept, put_last, put_last_back, put_there, put_there_back}
use Rattle.undo_log.proofs.changes.put.Goals as goal

pub returns-in-Ok-clause-ok : goal.returns-in-Ok-clause-ok
returns-in-Ok-clause-ok c =
    put_there c.args.list.now c.as_mut_slice.result.now c.swap_under.new.list c.args.path.now c.args.bytes c.as_mut_slice.ensures.value c.swap_under.ensures.list c.swap_under.auto.list c.in-Ok.replaced c.in-Ok.ensures.ok

pub returns-in-Ok-clause-back : goal.returns-in-Ok-clause-back
returns-in-Ok-clause-back c =
    put_there_back c.args.list.now c.as_mut_slice.result.now c.swap_under.new.list c.args.path.now c.args.bytes c.as_mut_slice.ensures.value c.swap_under.ensures.list c.swap_under.auto.list c.in-Ok.replaced c.in-Ok.ensures.ok

pub returns-in_err-push-in-Err-clause-err : goal.returns-in_err-push-in-Err-clause-err
returns-in_err-push-in-Err-clause-err c =
    on_err c.from_residual-in_err-push-in-Err.result (c.push.new.self ≡ c.args.list.now)
    (c.in_err-push-in-Err.ensures.err
    ∙ put_kept c.args.list.now c.as_mut_slice.result.now c.swap_under.new.list c.args.path.now c.args.bytes c.as_mut_slice.ensures.value c.swap_under.ensures.list c.swap_under.auto.list c.in-Err.ensures.err.1)

pub returns-in_ok-push-in-Err-clause-ok : goal.returns-in_ok-push-in-Err-clause-ok
returns-in_ok-push-in-Err-clause-ok c =
    put_last c.args.list.now c.as_mut_slice.result.now c.swap_under.new.list c.args.path.now c.args.bytes c.as_mut_slice.ensures.value c.swap_under.ensures.list c.swap_under.auto.list c.in_ok-path_copy.path_copy c.push.new.self c.in-Err.ensures.err.1 c.in_ok-path_copy.ensures
    (c.in_ok-push-in-Err.ensures.ok ∙ ap (λ (b : List ℕ). with_front c.args.list.now c.swap_under.new.list ++ record { path = c.in_ok-path_copy.path_copy; bytes = b } ∷ []) c.in-Err.ensures.err.0)

pub returns-in_ok-push-in-Err-clause-back : goal.returns-in_ok-push-in-Err-clause-back
returns-in_ok-push-in-Err-clause-back c =
    put_last_back c.args.list.now c.as_mut_slice.result.now c.swap_under.new.list c.args.path.now c.args.bytes c.as_mut_slice.ensures.value c.swap_under.ensures.list c.swap_under.auto.list (record { path = c.in_ok-path_copy.path_copy; bytes = c.in-Err.bytes }) c.push.new.self c.in-Err.ensures.err.1 c.in_ok-push-in-Err.ensures.ok
