use native.Mathlib.Omega.{arith}
use Rattle.amounts.proofs.FourMonths.{each}
use Rattle.amounts.specs.FourMonths.{pence_in}
use Rattle.amounts.proofs.four.minus.Goals as goal

pub minus-requires : goal.minus-requires
unfolding pence_in
minus-requires c = c.requires 0 (omega arith)

pub minus-requires-2 : goal.minus-requires-2
unfolding pence_in
minus-requires-2 c = c.requires 1 (omega arith)

pub minus-requires-3 : goal.minus-requires-3
unfolding pence_in
minus-requires-3 c = c.requires 2 (omega arith)

pub minus-requires-4 : goal.minus-requires-4
unfolding pence_in
minus-requires-4 c = c.requires 3 (omega arith)

pub returns : goal.returns
unfolding pence_in
returns c = each _ c.minus.ensures c.minus-2.ensures c.minus-3.ensures c.minus-4.ensures
