use Rattle.printing.proofs.MonthLines.{Counted}
use Rattle.printing.proofs.months_length.Given as goal

abbrev pub invariant-loop-m : goal.invariant-loop-m
invariant-loop-m l = Counted l.column l.rest l.months l.sum l.m
