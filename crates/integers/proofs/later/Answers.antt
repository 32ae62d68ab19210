use lib.IntN.{◌+ℤ◌}
use Rattle.integers.proofs.Locals.{op_fits, op_reads, small_fits, sum_fits}
use Rattle.integers.proofs.later.Goals as goal

pub overflow_add-result : goal.overflow_add-result
overflow_add-result c =
    let p = c.requires in
    op_fits ◌+ℤ◌ (small_fits p.0) (small_fits p.1) (sum_fits p.0 p.1)

pub returns : goal.returns
returns c =
    let p = c.requires in
    op_reads ◌+ℤ◌ (small_fits p.0) (small_fits p.1) (sum_fits p.0 p.1)
