use Prim.Native.Nat.{◌+◌}
use Rattle.measures.proofs.PlanMeasures as laws
use mathlib.Core.Path.{ap, refl}
use native.Mathlib.Omega.{arith}
use Rattle.measures.proofs.plan.of_within.Goals as goal

pub overflow_add-length : goal.overflow_add-length
overflow_add-length c = omega (arith, c.max-after.ensures, c.requires.0, c.requires.1.length, c.requires.2.length)

pub greater_where-magnitude-requires : goal.greater_where-magnitude-requires
greater_where-magnitude-requires c = (c.requires.1.magnitude, c.requires.2.magnitude)

pub returns : goal.returns
returns c =
    λ t a z bound u p q ek eb ec h k.
    laws.within_measures t a z bound _ u p q c.requires.1 c.requires.2 ek eb ec h k (ap (λ n. c.args.d + n) c.max-after.ensures) c.min-paid.ensures
    c.tried_in_time-timely.ensures refl refl c.greater_where-magnitude.ensures
