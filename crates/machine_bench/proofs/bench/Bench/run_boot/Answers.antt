use Rattle.std.specs.Option.{option_copied}
use Rattle.machine_bench.proofs.Scripted.{boot_is_kept}
use Rattle.machine_bench.proofs.bench.Bench.run_boot.Goals as goal

pub returns-clause-kept : goal.returns-clause-kept
returns-clause-kept c = boot_is_kept c.in_ok-exit.exit (option_copied c.script_for-script.result) c.in_ok-end.end c.in_ok-exit.ensures.exit
