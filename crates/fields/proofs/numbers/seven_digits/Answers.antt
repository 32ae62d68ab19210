use native.Mathlib.Omega.{arith}
use Rattle.fields.proofs.FewDigits.{few_done, few_more}
use Rattle.fields.proofs.numbers.seven_digits.Goals as goal

pub returns-in-44 : goal.returns-in-44
returns-in-44 c = few_done _ _ _ _ c.loop-k.invariant (omega arith) (omega arith)

pub loop-k-preserved : goal.loop-k-preserved
loop-k-preserved c = rw c.from.ensures (few_more _ _ _ _ c.loop-k.invariant (omega arith) (omega arith) (omega arith) (omega arith))
