use Prim.Native.Nat.{◌*◌, ◌/◌}
use Rattle.measures.proofs.SurePlans.{joined_most}
use native.Mathlib.Omega.{arith}
use Rattle.measures.proofs.quick.scaled.Goals as goal

pub overflow_mul-result : goal.overflow_mul-result
overflow_mul-result c = omega (arith, c.product_of.ensures, joined_most ◌*◌ c.args.m (c.args.x / 1024))

pub overflow_add-result : goal.overflow_add-result
overflow_add-result c = omega (arith, c.product_of.ensures, joined_most ◌*◌ c.args.m (c.args.x / 1024))
