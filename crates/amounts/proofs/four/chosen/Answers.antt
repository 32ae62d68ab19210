use borrow.Author.Rules.{rules}
use Rattle.amounts.proofs.FourMonths.{each}
use Rattle.amounts.specs.FourMonths.{held_in, pence_in}
use Rattle.amounts.proofs.four.chosen.Goals as goal

pub returns : goal.returns
unfolding held_in pence_in
returns c = each _ c.choice.ensures c.choice-2.ensures c.choice-3.ensures c.choice-4.ensures
