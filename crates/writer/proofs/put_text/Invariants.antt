use Rattle.writer.specs.Put.{Put}
use Rattle.writer.specs.Written.{written}
use Rattle.writer.proofs.put_text.Given as goal

-- the text of the first i rows stands in the buffer
abbrev pub invariant-loop-i : goal.invariant-loop-i
invariant-loop-i l = Put l.initial.out l.out 0 l.place (written l.i l.nodes)
