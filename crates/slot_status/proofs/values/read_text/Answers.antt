use Rattle.std.proofs.Common.{◌∙◌, ap}
use Rattle.std.proofs.lemmas.Result.{IfOk-weaker}
use Rattle.manifest.specs.Sound.{is_text_if_any}
use Rattle.slot_status.proofs.Formed.{text_formed}
use Rattle.slot_status.proofs.values.read_text.Goals as goal

pub returns-clause-formed : goal.returns-clause-formed
returns-clause-formed c =
    IfOk-weaker c.text_if_any.result _ _
    (λ t is. ap is_text_if_any (is ∙ c.value_with_form.ensures) ∙ text_formed c.args.file.now c.reads_back.ensures.form c.args.group.now c.args.key.now)
    c.text_if_any.ensures
