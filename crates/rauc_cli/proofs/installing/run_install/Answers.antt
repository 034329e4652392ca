use Rattle.std.specs.Prelude.{option_map}
use Rattle.rauc_cli.specs.Plans.{request_of}
use Rattle.install_core.proofs.CrashSafeLater.{safe_none}
use Rattle.rauc_cli.proofs.Installs.{runs_asked}
use Rattle.rauc_cli.proofs.Standing.{as_requested}
use Rattle.rauc_cli.proofs.installing.run_install.Goals as goal

pub returns-in-Ok-clause-runs : goal.returns-in-Ok-clause-runs
returns-in-Ok-clause-runs g c =
    runs_asked _ _ c.in-Ok.asks.request (request_of (option_map (λ name. name.now) c.args.given) c.args.bundle.now c.args.ignore_compatible) c.in-Ok.asks.last _ _ _ _ c.install_noting-told.result c.install_report.result c.in-Ok.ensures.request c.in-Ok.ensures.last c.install_noting-told.ensures.told c.install_noting-told.ensures.done c.install_noting-told.ensures.untouched c.install_noting-told.ensures.fails c.install_report.ensures

pub returns-in-Ok-clause-stands : goal.returns-in-Ok-clause-stands
returns-in-Ok-clause-stands g c =
    as_requested _ _ c.in-Ok.asks.request (request_of (option_map (λ name. name.now) c.args.given) c.args.bundle.now c.args.ignore_compatible) _ _ c.in-Ok.ensures.request c.install_noting-told.ensures.crash_safe

pub returns-in-Err-clause-stands : goal.returns-in-Err-clause-stands
returns-in-Err-clause-stands g c = safe_none _ _ _ _
