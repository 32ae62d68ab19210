use borrow.Author.Rules.{rules}
use Rattle.amounts.proofs.FourMonths.{each}
use Rattle.amounts.specs.FourMonths.{pence_in}
use Rattle.amounts.proofs.four_rows.over.Goals as goal

pub returns : goal.returns
unfolding pence_in
returns c = each _ c.over.ensures c.over-2.ensures c.over-3.ensures c.over-4.ensures
