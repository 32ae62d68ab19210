use native.Mathlib.Omega.{arith}
use Rattle.amounts.proofs.FourMonths.{each}
use Rattle.amounts.specs.FourMonths.{pence_in}
use Rattle.amounts.proofs.four.plus.Goals as goal

pub plus-requires : goal.plus-requires
unfolding pence_in
plus-requires c = c.requires 0 (omega arith)

pub plus-requires-2 : goal.plus-requires-2
unfolding pence_in
plus-requires-2 c = c.requires 1 (omega arith)

pub plus-requires-3 : goal.plus-requires-3
unfolding pence_in
plus-requires-3 c = c.requires 2 (omega arith)

pub plus-requires-4 : goal.plus-requires-4
unfolding pence_in
plus-requires-4 c = c.requires 3 (omega arith)

pub returns : goal.returns
unfolding pence_in
returns c = each _ c.plus.ensures c.plus-2.ensures c.plus-3.ensures c.plus-4.ensures
