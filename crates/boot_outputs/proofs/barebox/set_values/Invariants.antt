use Rattle.std.proofs.Common.{◌≡◌, ℕ, List, Bor, map}
use Rattle.boot_outputs.specs.Texts.{with_all}
use Rattle.boot_outputs.proofs.barebox.set_values.Given as goal

-- the values so far are set
abbrev pub invariant-loop-name : goal.invariant-loop-name
invariant-loop-name l = l.read ≡ with_all l.initial.read (map (λ (p : Bor (List ℕ) × Bor (List ℕ)). (p.0.now, p.1.now)) l.yielded)
