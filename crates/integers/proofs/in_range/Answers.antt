use borrow.Author.Rules.{rules}
use lib.IntN.{nat_abs}
use mathlib.Core.Path.{◌∙◌, ap}
use mir.Facts.{to_z-of_z}
use native.Mathlib.Omega.{arith}
use Rattle.integers.proofs.Answers.{amount_in, amount_out}
use Rattle.integers.proofs.in_range.Goals as goal

pub returns-then-magnitude-gt-AMOUNT_LIMIT : goal.returns-then-magnitude-gt-AMOUNT_LIMIT
returns-then-magnitude-gt-AMOUNT_LIMIT c =
    let f = c.ranges.x in
    let e = c.magnitude.ensures ∙ ap nat_abs (to_z-of_z f) in
    amount_out _ (omega (arith, e, c.if-magnitude-gt-AMOUNT_LIMIT.true))

pub returns : goal.returns
returns c =
    let f = c.ranges.x in
    let e = c.magnitude.ensures ∙ ap nat_abs (to_z-of_z f) in
    rw (to_z-of_z f) (amount_in _ (omega (arith, e, c.if-magnitude-gt-AMOUNT_LIMIT.false)))
