use Rattle.std.proofs.Common.{◌<◌, ◌≤◌, ◌∙◌, arith, length, sym}
use Rattle.std.specs.FinMap.{keys}
use Rattle.boot_state.specs.Efi.{is_number_of, number_in}
use Rattle.boot_state.proofs.Lookups.{length-keys, not_past}
use Rattle.boot_commands.proofs.Numbers.{fails_here, found_here, none_here, none_left}
use Rattle.boot_commands.proofs.efi.first_number.Goals.{in-Some+else-is_number_of, in_default}
use Rattle.boot_commands.proofs.efi.first_number.Goals as goal

pub returns-in_err-variable : goal.returns-in_err-variable
returns-in_err-variable c =
    let within : c.loop-at.at < length (keys c.args.read.now) = omega (arith, length-keys c.args.read.now, c.len-at-end.ensures, c.loop-at-test.true) in
    absurd (not_past (keys c.args.read.now) c.loop-at.at c.in_err-variable.ensures within)

pub returns-then-is_number_of : goal.returns-then-is_number_of
returns-then-is_number_of c =
    let is = (λ i. is_number_of c.args.read.now (sym c.as_bytes.ensures.value i) (sym c.as_bytes-in-Some.ensures.value i)) ∙ sym c.is_number_of.ensures ∙ c.if-is_number_of.true in
    sym (c.loop-at.invariant
    ∙ found_here (is_number_of c.args.read.now c.args.name.now) number_in (keys c.args.read.now) c.loop-at.at c.in_ok-variable.variable.now c.in-Some.number.now c.in_ok-variable.ensures (sym c.in-Some.ensures) is)

pub loop-at-preserved : goal.loop-at-preserved
loop-at-preserved c =
    elim c.match-number_in.branch [
      | in-Some+else-is_number_of w ↦
          c.loop-at.invariant
          ∙ fails_here (is_number_of c.args.read.now c.args.name.now) number_in (keys c.args.read.now) c.loop-at.at c.in_ok-variable.variable.now w.in-Some.number.now c.in_ok-variable.ensures (sym w.in-Some.ensures)
          ((λ i. is_number_of c.args.read.now (sym w.as_bytes.ensures.value i) (sym w.as_bytes-in-Some.ensures.value i)) ∙ sym w.is_number_of.ensures ∙ w.if-is_number_of.false)
      | in_default w ↦
          c.loop-at.invariant
          ∙ none_here (is_number_of c.args.read.now c.args.name.now) number_in (keys c.args.read.now) c.loop-at.at c.in_ok-variable.variable.now c.in_ok-variable.ensures (sym w.in_default.ensures)
    ]

pub returns : goal.returns
returns c =
    let past : length (keys c.args.read.now) ≤ c.loop-at.at = omega (arith, length-keys c.args.read.now, c.len-at-end.ensures, c.loop-at-test.false) in
    sym (c.loop-at.invariant ∙ none_left (is_number_of c.args.read.now c.args.name.now) number_in (keys c.args.read.now) c.loop-at.at past)
