use Rattle.std.proofs.Common.{◌≡◌, ◌∙◌, ap, codes, Option, Some, None, List, ℕ}
use Rattle.machine.specs.Past.{world_now}
use Rattle.slot_graph.specs.Booted.{booted_of}
use Rattle.running_system.specs.Running.{booted_by_text, file_within}
use Rattle.running_system.proofs.running.what_kernel_tells.Goals as goal

pub returns-in-Ok-Some-clause-answers : goal.returns-in-Ok-Some-clause-answers
returns-in-Ok-Some-clause-answers g c = λ told.
    let slots = c.args.system.now.slots in
    let found : Some c.in-Ok-Some.line ≡ file_within (world_now (g.M.Machine.past c.args.m.now)) (codes "/proc/cmdline") 65536 =
    rw c.in-Ok-Some.field-0-is at (c.in-Ok-Some.ensures.answers told) in
    c.booted.ensures.value ∙ ap (λ (line : List ℕ). booted_of slots line None) c.as_slice.ensures ∙ ap (booted_by_text slots) found

pub returns-in-Ok-None-clause-answers : goal.returns-in-Ok-None-clause-answers
returns-in-Ok-None-clause-answers g c = λ told.
    let found : ◌≡◌ {A = Option (List ℕ)} None (file_within (world_now (g.M.Machine.past c.args.m.now)) (codes "/proc/cmdline") 65536) =
    rw c.in-Ok-None.field-0-is at (c.in-Ok-None.ensures.answers told) in
    ap (booted_by_text c.args.system.now.slots) found
