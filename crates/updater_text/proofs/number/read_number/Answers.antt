use Rattle.std.proofs.Common.{◌≤◌, length, arith, ◌∙◌}
use Rattle.std.proofs.lemmas.Bool.Decides.{nat_tests}
use Rattle.updater_text.proofs.Values.{overflows, reads_all}
use Rattle.updater_text.proofs.number.read_number.Goals as goal

pub returns-in_err-checked_mul : goal.returns-in_err-checked_mul
returns-in_err-checked_mul c =
    c.from_residual.ensures
    ∙ overflows c.args.bytes.now c.loop-byte.byte-index c.loop-byte.value (omega arith) c.loop-byte.invariant.value (omega (arith, c.in_err-checked_mul.ensures))

pub returns-in_err-value : goal.returns-in_err-value
returns-in_err-value c =
    c.from_residual-in_err-value.ensures
    ∙ overflows c.args.bytes.now c.loop-byte.byte-index c.loop-byte.value (omega arith) c.loop-byte.invariant.value (omega (arith, c.in_err-value.ensures, c.in_ok-checked_mul.ensures, c.from-digit.ensures))

pub returns : goal.returns
returns c =
    let some : 1 ≤ length c.args.bytes.now = grind (arith, nat_tests, c.is_empty.ensures) in
    reads_all c.args.bytes.now c.loop-byte.byte-index c.loop-byte.value (omega arith) some c.if-bytes-gt20.false c.loop-byte.invariant.digits c.loop-byte.invariant.value c.loop-byte.invariant.fits
