use Rattle.std.proofs.Common.{◌≡◌, ◌∙◌, ℕ, List, Result, Err, map, ap, subst, sym, arith}
use Rattle.std.specs.Str.Lines.{lines}
use Rattle.keyfile.specs.Groups.{Group, Text}
use Rattle.keyfile.specs.Lines.{line_of}
use Rattle.updater_text.specs.Answers.{Gives}
use Rattle.keyfile.specs.Reading.{read_lines_of, read_of}
use Rattle.keyfile.specs.declared.fault.KeyFault.{KeyFault}
use Rattle.keyfile.specs.declared.fault.KeyFault.TheVariants as fault
use Rattle.keyfile.proofs.Whole.{read_of-bytes, read_of-text}
use Rattle.keyfile.proofs.reading.read.Goals as goal

pub returns-in-Ok : goal.returns-in-Ok
returns-in-Ok c =
    let is : read_lines_of (map line_of (lines c.in-Ok.text.now)) ≡ read_of c.args.bytes.now =
    ap (λ (t : Text). read_lines_of (map line_of (lines t))) c.in-Ok.ensures.cases.0 ∙ sym (read_of-text c.args.bytes.now (omega arith) c.in-Ok.ensures.cases.1) in
    subst (λ (wanted : Result (List Group) KeyFault). Gives c.read_lines.result wanted) is c.read_lines.ensures

pub returns-in-Err : goal.returns-in-Err
returns-in-Err c =
    read_of-bytes c.args.bytes.now (omega arith) c.in-Err.ensures.cases.0
    ∙ ap (λ (n : ℕ). Err (fault.NotUtf8 n)) (sym (c.valid_up_to.ensures ∙ c.in-Err.ensures.valid_len))
