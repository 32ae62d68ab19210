use Rattle.backwards.proofs.Backwards as plain
use Rattle.nodes.specs.Table.{nat_of}
use Rattle.backwards.proofs.worked_back.Given as goal

abbrev pub invariant-loop-at : goal.invariant-loop-at
invariant-loop-at l = plain.Going l.tables.values.now (nat_of l.month.0) l.tables.nodes.now l.from l.to l.stack l.depth l.top l.at
