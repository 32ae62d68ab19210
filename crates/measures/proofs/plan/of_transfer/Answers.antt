use Rattle.measures.proofs.PlanMeasures as laws
use Rattle.measures.proofs.plan.of_transfer.Goals as goal

pub returns : goal.returns
returns c = λ t a z bound p q. laws.transfer_measures t a z bound p q
