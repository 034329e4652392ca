use Rattle.std.proofs.Common.{◌≡◌, ◌∙◌, ◌+◌, ◌∷◌, [], List, drop, map, None, ap, sym, arith, length-append}
use Rattle.std.specs.Str.Lines.{lines}
use Rattle.std.proofs.lemmas.Iterator.Consumers.{YieldsList-turn, YieldsList-end}
use Rattle.std.proofs.lemmas.Iterator.Splits.{YieldsList-from_lines}
use Rattle.keyfile.specs.Groups.{Group}
use Rattle.keyfile.specs.Lines.{Line, has_line_form, line_of, line_meaning}
use Rattle.keyfile.specs.Reading.{read_lines_of}
use Rattle.keyfile.specs.Steps.{after_line}
use Rattle.keyfile.specs.declared.fault.KeyFault.{KeyFault}
use Rattle.keyfile.proofs.LineForms.{line_of-formed}
use Rattle.keyfile.proofs.Orders.{after, after-bad, after-good, after-read_lines_of, drop_line, drop_lines, gives_fault}
use Rattle.keyfile.proofs.reading.read_lines.Goals as goal

pub take_line-requires : goal.take_line-requires
take_line-requires c = ap has_line_form c.line_of.ensures ∙ line_of-formed c.in-Some.line.now

pub loop-line-preserved : goal.loop-line-preserved
loop-line-preserved c =
    let all = lines c.args.text.now in
    let said = map line_of all in
    let at = c.loop-line.number in
    let road = YieldsList-from_lines c.args.text.now (cc) in
    let turn = YieldsList-turn road c.loop-line.yielded _ c.loop-line.yielded_by _ _ c.in-Some.line c.in-Some.is c.next.ensures.steps in
    let next : drop at said ≡ line_of c.in-Some.line.now ∷ drop (at + 1) said =
    drop_line all at c.in-Some.line.now (omega (arith, turn.0, c.loop-line.invariant.counted)) (rw c.loop-line.invariant.counted turn.1) in
    let is : line_meaning c.line_of.result ≡ line_of c.in-Some.line.now = c.line_of.ensures in
    record {
      counted = omega (arith, c.loop-line.invariant.counted, length-append c.loop-line.yielded (c.in-Some.line ∷ []));
      left = sym (after-good c.loop-line.file c.loop-line.group at (line_meaning c.line_of.result) (drop (at + 1) said) c.take_line.new.file c.in-Ok-take_line.next c.in-Ok-take_line.ensures)
          ∙ (ap (λ (l : Line). after c.loop-line.file c.loop-line.group at (l ∷ drop (at + 1) said)) is
          ∙ (ap (after c.loop-line.file c.loop-line.group at) (sym next) ∙ c.loop-line.invariant.left));
    }

pub returns-in-Err : goal.returns-in-Err
returns-in-Err c =
    let all = lines c.args.text.now in
    let said = map line_of all in
    let at = c.loop-line.number in
    let road = YieldsList-from_lines c.args.text.now (cc) in
    let turn = YieldsList-turn road c.loop-line.yielded _ c.loop-line.yielded_by _ _ c.in-Some.line c.in-Some.is c.next.ensures.steps in
    let next : drop at said ≡ line_of c.in-Some.line.now ∷ drop (at + 1) said =
    drop_line all at c.in-Some.line.now (omega (arith, turn.0, c.loop-line.invariant.counted)) (rw c.loop-line.invariant.counted turn.1) in
    let is : line_meaning c.line_of.result ≡ line_of c.in-Some.line.now = c.line_of.ensures in
    gives_fault c.in-Err.lack c.take_line.new.file (after_line c.loop-line.file c.loop-line.group (at + 1) (line_meaning c.line_of.result)) (read_lines_of said) c.in-Err.ensures
    (λ (why : KeyFault) refused. sym (after-read_lines_of said)
    ∙ (ap (λ (gs : List Group). after gs None 0 said) (sym c.in-Ok.ensures)
    ∙ (sym c.loop-line.invariant.left
    ∙ (ap (after c.loop-line.file c.loop-line.group at) next
    ∙ (ap (λ (l : Line). after c.loop-line.file c.loop-line.group at (l ∷ drop (at + 1) said)) (sym is)
    ∙ after-bad c.loop-line.file c.loop-line.group at (line_meaning c.line_of.result) (drop (at + 1) said) why refused)))))

pub returns : goal.returns
returns c =
    let all = lines c.args.text.now in
    let said = map line_of all in
    let at = c.loop-line.number in
    let road = YieldsList-from_lines c.args.text.now (cc) in
    let end = YieldsList-end road c.loop-line.yielded _ c.loop-line.yielded_by _ _ c.in-None.is c.next.ensures.steps in
    sym (after-read_lines_of said)
    ∙ (ap (λ (gs : List Group). after gs None 0 said) (sym c.in-Ok.ensures)
    ∙ (sym c.loop-line.invariant.left
    ∙ ap (after c.loop-line.file c.loop-line.group at) (drop_lines all at (omega (arith, end.1, c.loop-line.invariant.counted)))))
