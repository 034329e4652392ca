use Rattle.std.proofs.Common.{◌∙◌, ap, sym, subst}
use Rattle.std.proofs.lemmas.Bool.{false≢true}
use Rattle.std.proofs.lemmas.Str.{IsUtf8-string_bytes}
use Rattle.std.specs.Str.{IsUtf8}
use Rattle.child_steps.proofs.PrintedTexts.{no_text, text_is}
use Rattle.child_steps.proofs.check.text_of.Goals as goal

pub returns-in-Ok : goal.returns-in-Ok
returns-in-Ok c =
    let same = ap (λ v. v.items) c.in-Ok.ensures.ok in
    c.from_string.ensures ∙ same ∙ sym (text_is c.args.bytes.items (subst IsUtf8 same (IsUtf8-string_bytes c.in-Ok.text)))

pub returns : goal.returns
returns c = c.empty.ensures ∙ sym (no_text c.args.bytes.items (λ is. false≢true (c.in-Err.ensures.succeeds is)))
