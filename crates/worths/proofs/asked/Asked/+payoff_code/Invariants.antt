use Rattle.worths.proofs.asked.Asked.+payoff_code.Given as goal

abbrev pub decreases-payoff_code : goal.decreases-payoff_code
decreases-payoff_code l = l.left
