use borrow.Author.Rules.{rules}
use mir.Facts.{to_z-of_z}
use mir.Syntax.{w64}
use mir.Val.{SFits}
use native.Mathlib.Omega.{arith}
use Rattle.columns.proofs.BackSums.{backed_next, backed_start, due_fits, sum_in}
use Rattle.columns.proofs.remaining.add_back.Goals as goal

pub loop-m-init : goal.loop-m-init
loop-m-init c = backed_start c.args.factors.now c.args.column.now c.args.months c.args.rest.now

pub due_in-due-requires : goal.due_in-due-requires
due_in-due-requires c =
    let i = c.loop-m.invariant in
    (omega (arith, i.inside, c.loop-m-test.true, c.requires.0), omega (arith, i.inside, c.loop-m-test.true, c.requires.1), due_fits _ _ c.requires.3 _ (omega (arith, i.inside, c.loop-m-test.true)))

pub value_plus-sum-requires : goal.value_plus-sum-requires
value_plus-sum-requires c =
    sum_in _ _ c.loop-m.invariant (omega (arith, c.loop-m-test.true)) c.requires.3 c.due_in-due.ensures

pub loop-m-preserved : goal.loop-m-preserved
loop-m-preserved c =
    let f : SFits w64 c.value_plus-sum.result.0 = search rules in
    backed_next _ _ c.loop-m.invariant (omega (arith, c.loop-m-test.true)) c.requires.2 c.due_in-due.ensures c.value_plus-sum.ensures (to_z-of_z f)
