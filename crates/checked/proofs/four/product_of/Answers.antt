use borrow.Author.Rules.{rules}
use borrow.Author.Tests.{eqb-true}
use lib.IntN.{◌*ℤ◌}
use native.Mathlib.Omega.{arith}
use Rattle.amounts.proofs.FourMonths.{each}
use Rattle.amounts.specs.FourMonths.{pence_in}
use Rattle.language.proofs.Truth.{and_e}
use Rattle.checked.proofs.FourLaws.{joined}
use Rattle.checked.specs.FourMonths.{one_of}
use Rattle.checked.proofs.four.product_of.Goals as goal

pub product-requires : goal.product-requires
unfolding pence_in
product-requires c =
    let b = and_e _ _ c.if-x-y.true in
    (c.requires.0 (eqb-true _ _ b.0) 0 (omega arith), c.requires.1 (eqb-true _ _ b.1) 0 (omega arith))

pub product-requires-then-x-y : goal.product-requires-then-x-y
unfolding pence_in
product-requires-then-x-y c =
    let b = and_e _ _ c.if-x-y.true in
    (c.requires.0 (eqb-true _ _ b.0) 1 (omega arith), c.requires.1 (eqb-true _ _ b.1) 1 (omega arith))

pub product-requires-then-x-y-2 : goal.product-requires-then-x-y-2
unfolding pence_in
product-requires-then-x-y-2 c =
    let b = and_e _ _ c.if-x-y.true in
    (c.requires.0 (eqb-true _ _ b.0) 2 (omega arith), c.requires.1 (eqb-true _ _ b.1) 2 (omega arith))

pub product-requires-then-x-y-3 : goal.product-requires-then-x-y-3
unfolding pence_in
product-requires-then-x-y-3 c =
    let b = and_e _ _ c.if-x-y.true in
    (c.requires.0 (eqb-true _ _ b.0) 3 (omega arith), c.requires.1 (eqb-true _ _ b.1) 3 (omega arith))

pub returns-then-x-y : goal.returns-then-x-y
unfolding pence_in one_of
returns-then-x-y c =
    let b = and_e _ _ c.if-x-y.true in
    λ e. (
      eqb-true _ _ b.0,
      eqb-true _ _ b.1,
      each _
          (joined ◌*ℤ◌ _ _ (c.gathered.ensures e 0 (omega arith)) c.amount_of.ensures c.product.ensures)
          (joined ◌*ℤ◌ _ _ (c.gathered.ensures e 1 (omega arith)) c.amount_of-then-x-y.ensures c.product-then-x-y.ensures)
          (joined ◌*ℤ◌ _ _ (c.gathered.ensures e 2 (omega arith)) c.amount_of-then-x-y-2.ensures c.product-then-x-y-2.ensures)
          (joined ◌*ℤ◌ _ _ (c.gathered.ensures e 3 (omega arith)) c.amount_of-then-x-y-3.ensures c.product-then-x-y-3.ensures),
    )

pub returns : goal.returns
returns c = λ e. absurd (c.unsure.ensures e)
