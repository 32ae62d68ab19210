use Rattle.fields.proofs.FewDigits.{Few}
use Rattle.fields.proofs.numbers.seven_digits.Given as goal

abbrev pub invariant-loop-k : goal.invariant-loop-k
invariant-loop-k l = Few l.text l.at l.v l.k
