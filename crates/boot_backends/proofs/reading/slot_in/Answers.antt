use Rattle.std.proofs.Common.{ap, sym, ◌∙◌, Some, List, ℕ}
use Rattle.std.specs.Prelude.{position}
use Rattle.std.proofs.lemmas.Option.{slice_get-get_or}
use Rattle.system_conf.specs.declared.slot.Slot.{Slot}
use Rattle.boot_backends.specs.Marked.{has_boot_name}
use Rattle.boot_backends.proofs.PrimarySlot.{slot_none, slot_some}
use Rattle.boot_backends.proofs.reading.slot_in.Goals as goal

pub returns-in_err-at : goal.returns-in_err-at
returns-in_err-at c = c.from_residual.ensures ∙ slot_none c.args.system.now.boot c.args.vars.now c.args.names.now c.args.system.now.slots c.requires (sym c.primary_of.ensures ∙ c.in_err-at.was)

pub returns : goal.returns
returns c =
    let here = c.in_ok-name.ensures.lookup in
    c.slot_with.ensures
    ∙ ap (λ (slots : List Slot). position (has_boot_name c.as_str.result.now) slots) c.as_slice.ensures
    ∙ ap (λ (n : List ℕ). position (has_boot_name n) c.args.system.now.slots) c.as_str.ensures
    ∙ slot_some c.args.system.now.boot c.args.vars.now c.args.names.now c.args.system.now.slots c.in_ok-at.at c.in_ok-name.name.now c.requires (sym c.primary_of.ensures ∙ c.in_ok-at.was)
    (slice_get-get_or c.args.names.now c.in_ok-at.at c.in_ok-name.name.now here.3.0 ∙ ap (λ (n : List ℕ). Some n) (sym here.1))
