use Rattle.std.proofs.Common.{◌∙◌, ap, option_map, subst, sym}
use Rattle.slot_graph.specs.Booted.{IsBooted, booted_of}
use Rattle.slot_graph.proofs.StateLemmas.{is_booted}
use Rattle.slot_graph.proofs.told.booted.Goals as goal

pub returns-clause-root : goal.returns-clause-root
returns-clause-root c =
    let s = c.args.system.now in
    let given = option_map (λ name. name.now) c.args.given in
    let value = c.booted_among.ensures ∙ ap (λ slots. booted_of slots c.args.cmdline.now given) c.as_slice.ensures in
    subst (IsBooted s.slots c.args.cmdline.now given) (sym value)
    (is_booted s.slots s.sound.slots c.args.cmdline.now given)
