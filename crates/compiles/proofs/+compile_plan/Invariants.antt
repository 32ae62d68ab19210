use Rattle.compiles.proofs.+compile_plan.Given as goal

abbrev pub decreases-compile_plan : goal.decreases-compile_plan
decreases-compile_plan l = l.left
