use Rattle.std.proofs.Common.{◌≡◌, ◌∷◌, ◌++◌, [], Some, None, Bool, ap, ◌∙◌, sym, option_copied, if◌then◌else◌, lit<}
use Rattle.std.proofs.lemmas.Str.Pattern.{strip_prefix_char, strip_suffix_char}
use Rattle.keyfile.proofs.LineForms.{bracket_name-none, bracket_name-is}
use Rattle.keyfile.specs.Lines.{inner}
use Rattle.keyfile.proofs.line.bracket_name.Goals as goal

pub returns-in_err-strip_prefix : goal.returns-in_err-strip_prefix
returns-in_err-strip_prefix c =
    ap option_copied c.from_residual.ensures ∙ sym (bracket_name-none c.args.text.now (strip_prefix_char 91 c.args.text.now None c.in_err-strip_prefix.ensures.cases (lit< tt) _))

pub returns-in_err-name : goal.returns-in_err-name
returns-in_err-name c =
    let front : c.args.text.now ≡ 91 ∷ c.in_ok-strip_prefix.field-0.now = strip_prefix_char 91 c.args.text.now (Some c.in_ok-strip_prefix.field-0) c.in_ok-strip_prefix.ensures.cases (lit< tt) in
    ap option_copied c.from_residual-in_err-name.ensures
    ∙ sym (bracket_name-none c.args.text.now (λ whole. strip_suffix_char 93 c.in_ok-strip_prefix.field-0.now None c.in_err-name.ensures.cases (lit< tt) (inner c.args.text.now) (cc)))

pub returns-then-is_name : goal.returns-then-is_name
returns-then-is_name c =
    let front : c.args.text.now ≡ 91 ∷ c.in_ok-strip_prefix.field-0.now = strip_prefix_char 91 c.args.text.now (Some c.in_ok-strip_prefix.field-0) c.in_ok-strip_prefix.ensures.cases (lit< tt) in
    let back : c.in_ok-strip_prefix.field-0.now ≡ c.in_ok-name.name.now ++ 93 ∷ [] = strip_suffix_char 93 c.in_ok-strip_prefix.field-0.now (Some c.in_ok-name.name) c.in_ok-name.ensures.cases (lit< tt) in
    sym (bracket_name-is _ _ _ front back ∙ ap (λ (b : Bool). if b then Some c.in_ok-name.name.now else None) (sym c.if-is_name.ensures))

pub returns-else-is_name : goal.returns-else-is_name
returns-else-is_name c =
    let front : c.args.text.now ≡ 91 ∷ c.in_ok-strip_prefix.field-0.now = strip_prefix_char 91 c.args.text.now (Some c.in_ok-strip_prefix.field-0) c.in_ok-strip_prefix.ensures.cases (lit< tt) in
    let back : c.in_ok-strip_prefix.field-0.now ≡ c.in_ok-name.name.now ++ 93 ∷ [] = strip_suffix_char 93 c.in_ok-strip_prefix.field-0.now (Some c.in_ok-name.name) c.in_ok-name.ensures.cases (lit< tt) in
    sym (bracket_name-is _ _ _ front back ∙ ap (λ (b : Bool). if b then Some c.in_ok-name.name.now else None) (sym c.if-is_name.ensures))
