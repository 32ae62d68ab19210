use Rattle.writer.proofs.Texts.{Counted}
use Rattle.writer.proofs.text_length.Given as goal

-- the sum is the length of the first i rows, each behind a comma
abbrev pub invariant-loop-i : goal.invariant-loop-i
invariant-loop-i l = Counted l.nodes l.sum l.i
