use Rattle.rauc_cli.proofs.Finishing.{carries_behind, carries_lacking, cause_behind, cause_memory, reports_memory, reports_whole, stands}
use Rattle.rauc_cli.proofs.run.rauc.Goals as goal

pub returns-in-Ok-clause-reports : goal.returns-in-Ok-clause-reports
returns-in-Ok-clause-reports g c =
    reports_whole _ c.args.words.now _ _ (g.O.Sink.shown c.args.out.now, g.O.Sink.shown c.tell_rest-told.new.out) (g.E.Sink.shown c.args.err.now, g.E.Sink.shown c.tell_rest-told.new.err) _ c.in-Ok.report c.run-report.result.whole c.tell_rest-told.result (rw c.in-Ok.is at c.run-report.ensures.runs) (rw (c.as_slice.ensures, c.as_bytes.ensures) at c.tell_rest-told.ensures)

pub returns-in-Ok-clause-carries_out : goal.returns-in-Ok-clause-carries_out
returns-in-Ok-clause-carries_out g c = carries_behind _ c.args.words.now _ _ _ _ c.in-Ok.report c.run-report.result.whole (rw c.in-Ok.is at c.run-report.ensures.runs)

pub returns-in-Ok-clause-stands_a_stop : goal.returns-in-Ok-clause-stands_a_stop
returns-in-Ok-clause-stands_a_stop g c = stands _ c.args.words.now _ _ _ c.run-report.ensures.runs.ended c.run-report.ensures.stands

pub returns-in-Ok-clause-has_cause : goal.returns-in-Ok-clause-has_cause
returns-in-Ok-clause-has_cause g c =
    cause_behind _ c.args.words.now _ _ _ _ _ _ c.in-Ok.report c.run-report.result.whole (rw c.in-Ok.is at c.run-report.ensures.runs) (rw c.in-Ok.is at c.run-report.ensures.counts)

pub returns-in-Err-clause-reports : goal.returns-in-Err-clause-reports
returns-in-Err-clause-reports g c =
    reports_memory _ c.args.words.now _ _ (g.O.Sink.shown c.args.out.now, g.O.Sink.shown c.tell_rest-told-in-Err.new.out) (g.E.Sink.shown c.args.err.now, g.E.Sink.shown c.tell_rest-told-in-Err.new.err) _ c.in-Err.field-0 c.run-report.result.whole c.tell_rest-told-in-Err.result (rw c.in-Err.is at c.run-report.ensures.runs) (rw c.as_bytes-in-Err.ensures.value at c.tell_rest-told-in-Err.ensures)

pub returns-in-Err-clause-stands_a_stop : goal.returns-in-Err-clause-stands_a_stop
returns-in-Err-clause-stands_a_stop g c = stands _ c.args.words.now _ _ _ c.run-report.ensures.runs.ended c.run-report.ensures.stands

pub returns-in-Err-clause-carries_out : goal.returns-in-Err-clause-carries_out
returns-in-Err-clause-carries_out g c = carries_lacking _ c.args.words.now _ _ _ _ c.in-Err.field-0 c.run-report.result.whole (rw c.in-Err.is at c.run-report.ensures.runs)

pub returns-in-Err-clause-has_cause : goal.returns-in-Err-clause-has_cause
returns-in-Err-clause-has_cause g c = cause_memory _ c.args.words.now _ _ _ _ (rw c.in-Err.is at c.run-report.ensures.counts)
