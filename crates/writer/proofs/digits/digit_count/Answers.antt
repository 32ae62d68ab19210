use native.Mathlib.Omega.{arith}
use Rattle.writer.proofs.Decimal.{digits_most}
use Rattle.writer.proofs.Splits.{Counting, counting_on, counting_starts}
use Rattle.writer.proofs.digits.digit_count.Goals as goal

-- `digits::digit_count` meets its contract.

pub loop-left-init : goal.loop-left-init
loop-left-init c = counting_starts _ c.requires

pub overflow_add-behind : goal.overflow_add-behind
overflow_add-behind c = record { fits = omega (arith, c.loop-left.invariant.is, digits_most c.args.n) }

pub loop-left-smaller : goal.loop-left-smaller
loop-left-smaller c = omega (arith, c.loop-left-test.true)

pub loop-left-preserved : goal.loop-left-preserved
loop-left-preserved c = counting_on _ _ _ c.loop-left.invariant c.loop-left-test.true

pub few_digits-requires : goal.few_digits-requires
few_digits-requires c = c.loop-left-test.false

pub overflow_add-result : goal.overflow_add-result
overflow_add-result c = record { fits = omega (arith, c.loop-left.invariant.is, c.few_digits.ensures, digits_most c.args.n) }

pub returns : goal.returns
returns c = omega (arith, c.loop-left.invariant.is, c.few_digits.ensures)
