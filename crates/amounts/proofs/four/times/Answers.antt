use native.Mathlib.Omega.{arith}
use Rattle.amounts.proofs.FourMonths.{each}
use Rattle.amounts.specs.FourMonths.{pence_in}
use Rattle.amounts.proofs.four.times.Goals as goal

pub times-requires : goal.times-requires
unfolding pence_in
times-requires c = c.requires 0 (omega arith)

pub times-requires-2 : goal.times-requires-2
unfolding pence_in
times-requires-2 c = c.requires 1 (omega arith)

pub times-requires-3 : goal.times-requires-3
unfolding pence_in
times-requires-3 c = c.requires 2 (omega arith)

pub times-requires-4 : goal.times-requires-4
unfolding pence_in
times-requires-4 c = c.requires 3 (omega arith)

pub returns : goal.returns
unfolding pence_in
returns c = each _ c.times.ensures c.times-2.ensures c.times-3.ensures c.times-4.ensures
