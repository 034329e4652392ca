use Rattle.boot_backends.proofs.Because.{mark_cause}
use Rattle.boot_backends.proofs.Callers.{marks_down, marks_keep_others, marks_led}
use Rattle.boot_backends.proofs.Names.{name_is, names_are}
use Rattle.boot_backends.proofs.Truth.{marks_left}
use Rattle.boot_backends.specs.Marked.{names_of}
use Rattle.boot_backends.proofs.marks.mark_bad.Goals as goal

pub returns-clause-leaves : goal.returns-clause-leaves
returns-clause-leaves g c = λ told.
    let are = names_are c.args.system.now.slots c.args.system.now.sound.slots.formed in
    marks_left _ (names_of c.args.system.now.slots) _ c.args.name.now c.requires _ _ c.mark.result are (name_is (names_of c.args.system.now.slots) c.args.name.now are c.requires) (c.mark.ensures.ends told)

pub returns-clause-others : goal.returns-clause-others
returns-clause-others g c = λ told.
    let are = names_are c.args.system.now.slots c.args.system.now.sound.slots.formed in
    marks_keep_others _ (names_of c.args.system.now.slots) _ c.args.name.now _ _ c.mark.result c.requires are (name_is (names_of c.args.system.now.slots) c.args.name.now are c.requires) (c.mark.ensures.ends told)

pub returns-clause-leads : goal.returns-clause-leads
returns-clause-leads g c = λ told. marks_led _ (names_of c.args.system.now.slots) _ c.args.name.now _ _ c.mark.result (c.mark.ensures.ends told)

pub returns-clause-causes : goal.returns-clause-causes
returns-clause-causes g c = λ told. mark_cause _ (names_of c.args.system.now.slots) _ c.args.name.now _ _ c.mark.result (c.mark.ensures.ends told)

pub returns-clause-down : goal.returns-clause-down
returns-clause-down g c = λ told.
    let are = names_are c.args.system.now.slots c.args.system.now.sound.slots.formed in
    marks_down _ (names_of c.args.system.now.slots) c.args.name.now _ _ c.mark.result c.requires are (name_is (names_of c.args.system.now.slots) c.args.name.now are c.requires) (c.mark.ensures.ends told)
