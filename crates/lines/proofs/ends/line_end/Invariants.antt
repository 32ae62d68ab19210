use Rattle.lines.specs.Lines.{LineFrom}
use Rattle.lines.proofs.ends.line_end.Given as goal

abbrev pub invariant-loop-i : goal.invariant-loop-i
invariant-loop-i l = LineFrom l.input l.at l.i
