use Rattle.std.proofs.Common.{◌≡◌, ◌++◌, drop, filter, not}
use Rattle.std.specs.Prelude.{bytes_eq}
use Rattle.undo_log.proofs.changes.besides.Given as goal

abbrev pub invariant-loop-span : goal.invariant-loop-span
invariant-loop-span l = l.others ++ filter (λ s. not (bytes_eq s.path l.path)) (drop l.span-index l.spans) ≡ filter (λ s. not (bytes_eq s.path l.path)) l.spans
