use Rattle.std.proofs.Common.{None, Some, refl}
use Rattle.rauc_words.specs.declared.asked.Asked.TheVariants as asked
use Rattle.rauc_cli.specs.Lines.{help_report, usage_report}
use Rattle.rauc_cli.specs.Plans.{plan_of}
use Rattle.rauc_cli.proofs.Behind.{asked_lines, ran_quiet, words_quiet}
use Rattle.rauc_cli.proofs.Ending.{ended_here, ended_wanting}
use Rattle.rauc_cli.proofs.Standing.{asked_none}
use Rattle.rauc_words.specs.Table.{command_of}
use Rattle.rauc_cli.proofs.run.run.Goals as goal

pub returns-in-Ok-Some-Help-clause-runs : goal.returns-in-Ok-Some-Help-clause-runs
returns-in-Ok-Some-Help-clause-runs g c =
    words_quiet _ c.args.words.now _ _ _ (Some asked.Help) c.help_report.result c.quiet.result (rw (c.in-Ok-Some-Help.field-0-is, c.in-Ok-Some-Help.field-0-0-is) at c.in-Ok-Some-Help.ensures) c.quiet.ensures refl (ended_here _ help_report _ c.help_report.result c.help_report.ensures) c.help_report.ensures

pub returns-in-Ok-None-clause-runs : goal.returns-in-Ok-None-clause-runs
returns-in-Ok-None-clause-runs g c =
    words_quiet _ c.args.words.now _ _ _ None c.usage_report.result c.quiet-in-Ok-None.result (rw c.in-Ok-None.field-0-is at c.in-Ok-None.ensures) c.quiet-in-Ok-None.ensures refl (ended_here _ usage_report _ c.usage_report.result c.usage_report.ensures) c.usage_report.ensures

pub returns-in-Err-clause-runs : goal.returns-in-Err-clause-runs
returns-in-Err-clause-runs g c =
    ran_quiet _ _ _ _ _ _ _ _ c.quiet-in-Err.result c.quiet-in-Err.ensures (asked_lines _) (ended_wanting _ (plan_of c.args.words.now (g.M.Machine.past c.args.m.now) (g.M.Machine.past c.args.m.now)) _ c.in-Err.stop) tt

pub returns-in-Err-clause-stands : goal.returns-in-Err-clause-stands
returns-in-Err-clause-stands g c = asked_none g.M.Machine.tells (command_of c.args.words.now) (g.M.Machine.past c.args.m.now)
