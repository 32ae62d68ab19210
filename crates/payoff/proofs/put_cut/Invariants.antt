use Rattle.payoff.proofs.Copied.{Copied}
use Rattle.payoff.proofs.put_cut.Given as goal

abbrev pub invariant-loop-i : goal.invariant-loop-i
invariant-loop-i l = Copied l.text l.initial.out l.out l.i
