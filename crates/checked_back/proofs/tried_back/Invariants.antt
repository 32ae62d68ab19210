use Rattle.checked_back.proofs.CheckedWay as checked
use Rattle.nodes.specs.Table.{nat_of}
use Rattle.checked_back.proofs.tried_back.Given as goal

abbrev pub invariant-loop-at : goal.invariant-loop-at
invariant-loop-at l =
    checked.Going l.lent.span.h l.lent.span.f l.lent.bounds.now l.lent.values.now (nat_of l.waited.0) l.lent.nodes.now l.from l.to l.stack l.depth l.top l.at
