use Rattle.printing.proofs.Words.{Spelt}
use Rattle.printing.proofs.put_word.Given as goal

abbrev pub invariant-loop-i : goal.invariant-loop-i
invariant-loop-i l = Spelt l.word l.initial.out l.at l.out l.i
