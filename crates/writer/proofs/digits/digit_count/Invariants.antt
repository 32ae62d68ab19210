use native.Mathlib.Omega.{arith}
use Rattle.writer.proofs.Decimal.{digits_most}
use Rattle.writer.proofs.Splits.{Counting, counting_on, counting_starts}
use Rattle.writer.proofs.digits.digit_count.Given as goal

abbrev pub invariant-loop-left : goal.invariant-loop-left
invariant-loop-left l = Counting l.n l.behind l.left

abbrev pub decreases-loop-left : goal.decreases-loop-left
decreases-loop-left l = l.left
