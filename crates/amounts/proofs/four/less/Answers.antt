use borrow.Author.Rules.{rules}
use Rattle.amounts.proofs.FourMonths.{each}
use Rattle.amounts.specs.FourMonths.{held_in, pence_in}
use Rattle.amounts.proofs.four.less.Goals as goal

pub returns : goal.returns
unfolding held_in pence_in
returns c = each _ c.less.ensures c.less-2.ensures c.less-3.ensures c.less-4.ensures
