use Rattle.std.proofs.Common.{arith, ◌+◌}
use Rattle.pg_base.proofs.AtoiLemmas.{AreDigits-at, decimal_value-more, decimal_value-take-le}
use Rattle.pg_base.proofs.io.atoi.value_up_to.Goals as goal

pub returns-in_err-checked_mul : goal.returns-in_err-checked_mul
returns-in_err-checked_mul c =
    let ds = c.args.digits.now in
    let i = c.loop-digit.digit-index in
    rw c.from_residual.ensures (omega (arith, c.in_err-checked_mul.ensures, decimal_value-more ds i c.loop-digit-test.true, decimal_value-take-le ds (i + 1)))

pub overflow_sub-digit : goal.overflow_sub-digit
overflow_sub-digit c = omega (arith, AreDigits-at c.args.digits.now c.loop-digit.digit-index c.requires c.loop-digit-test.true)

pub returns-in_err-value : goal.returns-in_err-value
returns-in_err-value c =
    let ds = c.args.digits.now in
    let i = c.loop-digit.digit-index in
    rw c.from_residual-in_err-value.ensures
    (omega (arith, c.in_err-value.ensures, c.in_ok-checked_mul.ensures, decimal_value-more ds i c.loop-digit-test.true, decimal_value-take-le ds (i + 1)))

pub returns-then-value-top : goal.returns-then-value-top
returns-then-value-top c =
    let ds = c.args.digits.now in
    let i = c.loop-digit.digit-index in
    omega (arith, c.in_ok-value.ensures, c.in_ok-checked_mul.ensures, decimal_value-more ds i c.loop-digit-test.true, decimal_value-take-le ds (i + 1))

pub loop-digit-preserved : goal.loop-digit-preserved
loop-digit-preserved c = record {
  so_far = omega (arith, c.in_ok-value.ensures, c.in_ok-checked_mul.ensures, decimal_value-more c.args.digits.now c.loop-digit.digit-index c.loop-digit-test.true);
  within = omega arith;
}
