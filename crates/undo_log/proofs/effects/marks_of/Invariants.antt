use Rattle.std.proofs.Common.{◌≡◌, ◌++◌, drop, map}
use Rattle.undo_log.specs.Effects.{keeps_file}
use Rattle.undo_log.proofs.effects.marks_of.Given as goal

abbrev pub invariant-loop-file : goal.invariant-loop-file
invariant-loop-file l = l.stays ++ map (λ n. keeps_file l.child l.prefix n.path) (drop l.file-index l.files) ≡ map (λ n. keeps_file l.child l.prefix n.path) l.files
