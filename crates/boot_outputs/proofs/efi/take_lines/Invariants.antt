use Rattle.std.proofs.Common.{◌≡◌, map}
use Rattle.std.specs.List.{filter_map}
use Rattle.boot_outputs.specs.Efi.{variable_in}
use Rattle.boot_outputs.specs.Texts.{with_all}
use Rattle.boot_outputs.proofs.efi.take_lines.Given as goal

-- the lines so far are taken up
abbrev pub invariant-loop-line : goal.invariant-loop-line
invariant-loop-line l = l.read ≡ with_all l.initial.read (filter_map variable_in (map (λ x. x.now) l.yielded))
