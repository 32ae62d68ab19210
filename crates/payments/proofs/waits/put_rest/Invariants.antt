use Rattle.payments.proofs.RestPut.{Copied}
use Rattle.payments.proofs.waits.put_rest.Given as goal

abbrev pub invariant-loop-i : goal.invariant-loop-i
invariant-loop-i l = Copied l.text l.from l.initial.out l.at l.out l.i
