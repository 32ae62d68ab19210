use Rattle.measures.proofs.PlanMeasures as laws
use Rattle.measures.proofs.plan.of_nothing.Goals as goal

pub returns : goal.returns
returns c = λ t a z bound. laws.nothing_measures t a z bound
