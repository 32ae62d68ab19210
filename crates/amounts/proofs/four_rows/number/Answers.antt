use borrow.Author.Rules.{rules}
use Rattle.amounts.proofs.FourMonths.{each}
use Rattle.amounts.specs.FourMonths.{pence_in}
use Rattle.amounts.proofs.four_rows.number.Goals as goal

pub returns : goal.returns
unfolding pence_in
returns c = each _ c.number-n.ensures c.number-n.ensures c.number-n.ensures c.number-n.ensures
