use Rattle.tables.proofs.Lists.{Joining}
use Rattle.tables.proofs.both_between.Given as goal

abbrev pub invariant-loop-x : goal.invariant-loop-x
invariant-loop-x l = Joining l.xs l.ys l.x-iterator.a.rest.now l.x-iterator.b.rest.now l.first l.width l.over l.below l.above
