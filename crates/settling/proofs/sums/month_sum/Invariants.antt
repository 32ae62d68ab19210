use Rattle.settling.proofs.SettingSums as sums
use Rattle.settling.proofs.sums.month_sum.Given as goal

abbrev pub invariant-loop-k : goal.invariant-loop-k
invariant-loop-k l = sums.Summing l.days l.digits l.rest l.k l.sum
