use Rattle.std.proofs.Common.{◌∙◌, ap, lit<, refl}
use Rattle.std.proofs.lemmas.Str.Pattern.{strip_suffix_char}
use Rattle.conf_forms.proofs.Slashes.{without_slash-read}
use Rattle.conf_forms.proofs.form.without_slash.Goals as goal

pub returns : goal.returns
returns c =
    ap (λ t. t.now) c.unwrap_or.ensures
    ∙ without_slash-read c.args.text.now c.strip_suffix.result c.args.text refl (strip_suffix_char 47 c.args.text.now c.strip_suffix.result c.strip_suffix.ensures.cases (lit< tt))
