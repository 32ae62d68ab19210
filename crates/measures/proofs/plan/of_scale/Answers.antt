use Rattle.measures.proofs.PlanMeasures as laws
use mathlib.Core.Path.{refl}
use Rattle.measures.proofs.plan.of_scale.Goals as goal

pub returns : goal.returns
returns c =
    λ t a z bound n p ek eb em h.
    laws.scale_measures t a z bound n p c.requires ek eb em h refl refl c.in_time-timely.ensures refl refl c.product_of-magnitude.ensures
