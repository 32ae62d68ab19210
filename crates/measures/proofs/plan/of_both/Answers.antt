use Rattle.measures.proofs.PlanMeasures as laws
use mathlib.Core.Path.{refl}
use Rattle.measures.proofs.plan.of_both.Goals as goal

pub sum_of-magnitude-requires : goal.sum_of-magnitude-requires
sum_of-magnitude-requires c = (c.requires.0.magnitude, c.requires.1.magnitude)

pub returns : goal.returns
returns c =
    λ t a z bound p q h k.
    laws.both_measures t a z bound p q c.requires.0 c.requires.1 h k c.max-length.ensures c.min-first.ensures refl refl c.sum_of-magnitude.ensures
