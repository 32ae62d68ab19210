use Rattle.steps.proofs.+step_plan.Given as goal

abbrev pub decreases-step_plan : goal.decreases-step_plan
decreases-step_plan l = l.left
