use lib.IntN.{◌-ℤ◌}
use Rattle.integers.proofs.Locals.{difference_fits, op_fits, op_reads, small_fits}
use Rattle.measures.proofs.reads.nearer.Goals as goal

pub overflow_sub-result : goal.overflow_sub-result
overflow_sub-result c =
    let p = c.requires in
    op_fits ◌-ℤ◌ (small_fits p.0) (small_fits p.1) (difference_fits p.0 p.1)

pub returns : goal.returns
returns c =
    let p = c.requires in
    op_reads ◌-ℤ◌ (small_fits p.0) (small_fits p.1) (difference_fits p.0 p.1)
