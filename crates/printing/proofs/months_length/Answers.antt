use native.Mathlib.Omega.{arith}
use Rattle.printing.proofs.MonthLines.{counted_all, counted_more}
use Rattle.printing.proofs.months_length.Goals as goal

pub loop-m-preserved : goal.loop-m-preserved
loop-m-preserved c = counted_more _ _ c.loop-m.invariant c.loop-m-test.true c.month_length-sum.ensures.0 c.month_length-sum.ensures.1

pub returns : goal.returns
returns c = counted_all _ _ c.loop-m.invariant (omega (arith, c.loop-m-test.false)) c.requires.2
