use borrow.Author.Rules.{rules}
use borrow.Author.Tests.{eqb-true}
use lib.IntN.{◌+ℤ◌}
use native.Mathlib.Omega.{arith}
use Rattle.amounts.proofs.FourMonths.{each}
use Rattle.amounts.specs.FourMonths.{pence_in}
use Rattle.language.proofs.Truth.{and_e}
use Rattle.checked.proofs.FourLaws.{joined_sure}
use Rattle.checked.proofs.four.sum_of.Goals as goal

pub plus-requires : goal.plus-requires
unfolding pence_in
plus-requires c =
    let b = and_e _ _ c.if-x-y.true in
    let p = c.requires in
    (p.0 (eqb-true _ _ b.0) 0 (omega arith), p.1 (eqb-true _ _ b.1) 0 (omega arith))

pub plus-requires-then-x-y : goal.plus-requires-then-x-y
unfolding pence_in
plus-requires-then-x-y c =
    let b = and_e _ _ c.if-x-y.true in
    let p = c.requires in
    (p.0 (eqb-true _ _ b.0) 1 (omega arith), p.1 (eqb-true _ _ b.1) 1 (omega arith))

pub plus-requires-then-x-y-2 : goal.plus-requires-then-x-y-2
unfolding pence_in
plus-requires-then-x-y-2 c =
    let b = and_e _ _ c.if-x-y.true in
    let p = c.requires in
    (p.0 (eqb-true _ _ b.0) 2 (omega arith), p.1 (eqb-true _ _ b.1) 2 (omega arith))

pub plus-requires-then-x-y-3 : goal.plus-requires-then-x-y-3
unfolding pence_in
plus-requires-then-x-y-3 c =
    let b = and_e _ _ c.if-x-y.true in
    let p = c.requires in
    (p.0 (eqb-true _ _ b.0) 3 (omega arith), p.1 (eqb-true _ _ b.1) 3 (omega arith))

pub returns-then-x-y : goal.returns-then-x-y
unfolding pence_in
returns-then-x-y c =
    let b = and_e _ _ c.if-x-y.true in
    λ e. (
      eqb-true _ _ b.0,
      eqb-true _ _ b.1,
      each _
          (joined_sure ◌+ℤ◌ _ _ (c.sure.ensures e 0 (omega arith)) c.plus.ensures)
          (joined_sure ◌+ℤ◌ _ _ (c.sure.ensures e 1 (omega arith)) c.plus-then-x-y.ensures)
          (joined_sure ◌+ℤ◌ _ _ (c.sure.ensures e 2 (omega arith)) c.plus-then-x-y-2.ensures)
          (joined_sure ◌+ℤ◌ _ _ (c.sure.ensures e 3 (omega arith)) c.plus-then-x-y-3.ensures),
    )

pub returns : goal.returns
returns c = λ e. absurd (c.unsure.ensures e)
