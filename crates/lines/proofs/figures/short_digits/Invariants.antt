use Rattle.fields.proofs.FewDigits.{Few}
use Rattle.lines.proofs.figures.short_digits.Given as goal

abbrev pub invariant-loop-k : goal.invariant-loop-k
invariant-loop-k l = Few l.line l.at l.v l.k
