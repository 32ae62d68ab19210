use Rattle.columns.proofs.BackSums.{Backed}
use Rattle.columns.proofs.remaining.add_back.Given as goal

abbrev pub invariant-loop-m : goal.invariant-loop-m
invariant-loop-m l = Backed l.factors l.column l.months l.initial.rest l.rest l.sum.0 l.m
