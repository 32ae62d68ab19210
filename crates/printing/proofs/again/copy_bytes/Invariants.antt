use lib.ListN.{drop, take}
use Rattle.printing.proofs.Words.{Spelt}
use Rattle.printing.proofs.again.copy_bytes.Given as goal

abbrev pub invariant-loop-i : goal.invariant-loop-i
invariant-loop-i l = Spelt (take l.n (drop l.from l.initial.out)) l.initial.out l.to l.out l.i
