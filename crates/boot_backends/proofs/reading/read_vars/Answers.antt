use Rattle.std.proofs.Common.{◌∙◌}
use Rattle.std.specs.FinMap as fin
use Rattle.boot_commands.specs.Plans.{readings}
use Rattle.boot_backends.specs.Marked.{names_of}
use Rattle.boot_backends.proofs.Because.{commands_cause}
use Rattle.boot_backends.proofs.Callers.{finishes_of, reading_keeps, reading_tells}
use Rattle.boot_backends.proofs.Names.{names_are}
use Rattle.boot_backends.proofs.reading.read_vars.Goals as goal

pub returns-clause-tells : goal.returns-clause-tells
returns-clause-tells g c = λ told.
    let names = c.deref.ensures.value ∙ c.in_ok-names.ensures in
    let are = names_are c.args.system.now.slots c.args.system.now.sound.slots.formed in
    reading_tells c.args.system.now.boot (names_of c.args.system.now.slots) _ _ c.run_commands.result are
    (finishes_of c.args.system.now.boot _ (names_of c.args.system.now.slots) c.as_slice.result.now _ _ c.run_commands.result names (c.as_slice.ensures ∙ c.in_ok-commands.ensures) (c.run_commands.ensures.ends told))

pub returns-clause-kept : goal.returns-clause-kept
returns-clause-kept g c = λ told.
    let names = c.deref.ensures.value ∙ c.in_ok-names.ensures in
    reading_keeps c.args.system.now.boot (names_of c.args.system.now.slots) _ _ c.run_commands.result c.args.system.now.sound.boot_formed
    (finishes_of c.args.system.now.boot _ (names_of c.args.system.now.slots) c.as_slice.result.now _ _ c.run_commands.result names (c.as_slice.ensures ∙ c.in_ok-commands.ensures) (c.run_commands.ensures.ends told))

pub returns-clause-causes : goal.returns-clause-causes
returns-clause-causes g c = λ told.
    let names = c.deref.ensures.value ∙ c.in_ok-names.ensures in
    commands_cause (readings c.args.system.now.boot (names_of c.args.system.now.slots)) fin.empty _ _ c.run_commands.result
    (finishes_of c.args.system.now.boot _ (names_of c.args.system.now.slots) c.as_slice.result.now _ _ c.run_commands.result names (c.as_slice.ensures ∙ c.in_ok-commands.ensures) (c.run_commands.ensures.ends told))
