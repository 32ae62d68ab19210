use Rattle.measures.proofs.RowArms as arms
use Rattle.measures.specs.Magnitudes.{bound_in}
use Rattle.measures.proofs.rows.read_rows.Given as goal

abbrev pub invariant-loop-at : goal.invariant-loop-at
invariant-loop-at l = arms.Here l.w (bound_in l.lent.bounds.now) l.lent.nodes.now l.from l.to l.at l.latest l.total l.reads
