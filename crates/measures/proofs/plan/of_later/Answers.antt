use Rattle.measures.proofs.PlanMeasures as laws
use mathlib.Core.Path.{refl}
use native.Mathlib.Omega.{arith}
use Rattle.measures.proofs.plan.of_later.Goals as goal

pub overflow_add-length : goal.overflow_add-length
overflow_add-length c = omega (arith, c.requires.0, c.requires.1.length)

pub after_delay-first-requires : goal.after_delay-first-requires
after_delay-first-requires c = (omega (arith, c.requires.0), c.requires.2)

pub returns : goal.returns
returns c =
    λ t a z bound p h.
    laws.later_measures t a z bound _ p c.requires.0 c.requires.1 h refl c.after_delay-first.ensures refl refl refl
