use Rattle.measures.proofs.plan.+measure_plan.Given as goal

abbrev pub decreases-measure_plan : goal.decreases-measure_plan
decreases-measure_plan l = l.left
