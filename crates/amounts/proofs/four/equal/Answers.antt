use borrow.Author.Rules.{rules}
use Rattle.amounts.proofs.FourMonths.{each}
use Rattle.amounts.specs.FourMonths.{held_in, pence_in}
use Rattle.amounts.proofs.four.equal.Goals as goal

pub returns : goal.returns
unfolding held_in pence_in
returns c = each _ c.equal.ensures c.equal-2.ensures c.equal-3.ensures c.equal-4.ensures
