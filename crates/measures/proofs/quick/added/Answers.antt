use Prim.Native.Nat.{◌+◌, ◌/◌}
use Rattle.measures.proofs.SurePlans.{joined_most}
use native.Mathlib.Omega.{arith}
use Rattle.measures.proofs.quick.added.Goals as goal

pub overflow_mul-result : goal.overflow_mul-result
overflow_mul-result c = omega (arith, c.sum_of.ensures, joined_most ◌+◌ (c.args.x / 1024) (c.args.y / 1024))

pub overflow_add-result : goal.overflow_add-result
overflow_add-result c = omega (arith, c.sum_of.ensures, c.min.ensures, joined_most ◌+◌ (c.args.x / 1024) (c.args.y / 1024))
