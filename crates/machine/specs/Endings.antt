-- How a child ended, in words.
use Rattle.std.specs.Prelude.{ℕ, List, ◌++◌, codes, decimal}
use Rattle.machine.specs.declared.world.Ended.{Ended}
use Rattle.machine.specs.declared.world.Ended.TheVariants.{Code, Signal}

-- by a status, or by a signal
abbrev pub ended_text : Ended → List ℕ
ended_text (Code code) = codes "status " ++ decimal code
ended_text Signal = codes "signal"
