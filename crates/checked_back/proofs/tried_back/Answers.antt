use Prim.Native.Nat.{◌-◌}
use Rattle.backwards.proofs.Waiting as loop
use Rattle.checked_back.proofs.CheckedWay as checked
use Rattle.nodes.specs.Letters.{letter_of_amount}
use Rattle.nodes.specs.Table.{nat_of}
use borrow.Author.Rules.{rules}
use lib.IntN.{◌*ℤ◌, ◌+ℤ◌, ◌-ℤ◌, pos}
use lib.ListN.{get_or}
use mathlib.Core.Path.{◌∙◌, refl}
use mir.Facts.{to_z-of_z}
use mir.Syntax.{w64}
use mir.Val.{SFits}
use native.Mathlib.Omega.{arith}
use Rattle.checked_back.proofs.tried_back.Goals as goal

pub loop-at-init : goal.loop-at-init
loop-at-init c = checked.begun _ _ _ _ _ c.requires.2 c.requires.1 refl

pub overflow_sub-depth : goal.overflow_sub-depth
unfolding letter_of_amount
overflow_sub-depth c =
    let g : SFits w64 c.slot-x.result = search rules in
    let e = loop.letter_at g c.slot-x.ensures c.in-65.in-65-own.keys1 in
    omega (arith, (loop.sum_joins c.loop-at.invariant c.loop-at-test.true e).some)

pub sum-requires : goal.sum-requires
unfolding letter_of_amount
sum-requires c =
    let g : SFits w64 c.slot-x.result = search rules in
    let e = loop.letter_at g c.slot-x.ensures c.in-65.in-65-own.keys1 in
    let j = loop.sum_joins c.loop-at.invariant c.loop-at-test.true e in
    let s : SFits w64 (get_or c.loop-at.stack (c.loop-at.depth - 1) (pos 0)) = search rules in
    (j.then.0, rw (to_z-of_z s) j.then.1)

pub loop-at-preserved-in-65 : goal.loop-at-preserved-in-65
unfolding letter_of_amount
loop-at-preserved-in-65 c =
    let g : SFits w64 c.slot-x.result = search rules in
    let e = loop.letter_at g c.slot-x.ensures c.in-65.in-65-own.keys1 in
    let s : SFits w64 (get_or c.loop-at.stack (c.loop-at.depth - 1) (pos 0)) = search rules in
    let z : SFits w64 c.in_ok-p-in-65.p.0 = search rules in
    checked.tested_row c.args.lent.now.span.h c.args.lent.now.span.f c.args.lent.now.bounds.now c.args.lent.now.values.now (nat_of c.args.waited.0) c.loop-at.invariant c.loop-at-test.true ◌+ℤ◌ (loop.sum_joins c.loop-at.invariant c.loop-at-test.true e) (to_z-of_z s) c.sum.ensures c.in_ok-p-in-65.p c.in_ok-p-in-65.was (to_z-of_z z)

pub overflow_sub-depth-in-75 : goal.overflow_sub-depth-in-75
unfolding letter_of_amount
overflow_sub-depth-in-75 c =
    let g : SFits w64 c.slot-x.result = search rules in
    let e = loop.letter_at g c.slot-x.ensures c.in-75.in-75-own.keys2 in
    omega (arith, (loop.product_joins c.loop-at.invariant c.loop-at-test.true e).some)

pub product-requires : goal.product-requires
unfolding letter_of_amount
product-requires c =
    let g : SFits w64 c.slot-x.result = search rules in
    let e = loop.letter_at g c.slot-x.ensures c.in-75.in-75-own.keys2 in
    let j = loop.product_joins c.loop-at.invariant c.loop-at-test.true e in
    let s : SFits w64 (get_or c.loop-at.stack (c.loop-at.depth - 1) (pos 0)) = search rules in
    (j.then.0, rw (to_z-of_z s) j.then.1)

pub loop-at-preserved-in-75 : goal.loop-at-preserved-in-75
unfolding letter_of_amount
loop-at-preserved-in-75 c =
    let g : SFits w64 c.slot-x.result = search rules in
    let e = loop.letter_at g c.slot-x.ensures c.in-75.in-75-own.keys2 in
    let s : SFits w64 (get_or c.loop-at.stack (c.loop-at.depth - 1) (pos 0)) = search rules in
    let z : SFits w64 c.in_ok-p-in-75.p.0 = search rules in
    checked.tested_row c.args.lent.now.span.h c.args.lent.now.span.f c.args.lent.now.bounds.now c.args.lent.now.values.now (nat_of c.args.waited.0) c.loop-at.invariant c.loop-at-test.true ◌*ℤ◌ (loop.product_joins c.loop-at.invariant c.loop-at-test.true e) (to_z-of_z s) c.product.ensures c.in_ok-p-in-75.p c.in_ok-p-in-75.was (to_z-of_z z)

pub loop-at-preserved-in-78 : goal.loop-at-preserved-in-78
unfolding letter_of_amount
loop-at-preserved-in-78 c =
    let g : SFits w64 c.slot-x.result = search rules in
    let e = loop.letter_at g c.slot-x.ensures c.in-78.in-78-own.keys1 in
    let s : SFits w64 c.number-top.result.0 = search rules in
    loop.number_row c.loop-at.invariant c.loop-at-test.true e (omega (arith, c.loop-at.invariant.deep)) (to_z-of_z s ∙ c.number-top.ensures)

pub reading-requires : goal.reading-requires
unfolding letter_of_amount
reading-requires c =
    let g : SFits w64 c.slot-x.result = search rules in
    let e = loop.letter_at g c.slot-x.ensures c.in-79.in-79-own.keys2 in
    ((omega (arith, c.requires.3, c.loop-at.invariant.high), omega (arith, c.requires.4, c.loop-at.invariant.high)), c.requires.0, (loop.index_reads c.loop-at.invariant c.loop-at-test.true e).0)

pub loop-at-preserved-in-79 : goal.loop-at-preserved-in-79
unfolding letter_of_amount
loop-at-preserved-in-79 c =
    let g : SFits w64 c.slot-x.result = search rules in
    let e = loop.letter_at g c.slot-x.ensures c.in-79.in-79-own.keys2 in
    let s : SFits w64 c.in-Ok.p.0 = search rules in
    checked.read_row c.args.lent.now.span.h c.args.lent.now.span.f c.args.lent.now.bounds.now c.args.lent.now.values.now (nat_of c.args.waited.0) c.loop-at.invariant c.loop-at-test.true e (omega (arith, c.loop-at.invariant.deep)) c.reading.ensures c.in-Ok.p c.in-Ok.is (to_z-of_z s)

pub overflow_sub-depth-in-85 : goal.overflow_sub-depth-in-85
unfolding letter_of_amount
overflow_sub-depth-in-85 c =
    let g : SFits w64 c.slot-x.result = search rules in
    let e = loop.letter_at g c.slot-x.ensures c.in-85.in-85-own.keys1 in
    omega (arith, (loop.difference_joins c.loop-at.invariant c.loop-at-test.true e).some)

pub difference-requires : goal.difference-requires
unfolding letter_of_amount
difference-requires c =
    let g : SFits w64 c.slot-x.result = search rules in
    let e = loop.letter_at g c.slot-x.ensures c.in-85.in-85-own.keys1 in
    let j = loop.difference_joins c.loop-at.invariant c.loop-at-test.true e in
    let s : SFits w64 (get_or c.loop-at.stack (c.loop-at.depth - 1) (pos 0)) = search rules in
    (j.then.0, rw (to_z-of_z s) j.then.1)

pub loop-at-preserved-in-85 : goal.loop-at-preserved-in-85
unfolding letter_of_amount
loop-at-preserved-in-85 c =
    let g : SFits w64 c.slot-x.result = search rules in
    let e = loop.letter_at g c.slot-x.ensures c.in-85.in-85-own.keys1 in
    let s : SFits w64 (get_or c.loop-at.stack (c.loop-at.depth - 1) (pos 0)) = search rules in
    let z : SFits w64 c.in_ok-p-in-85.p.0 = search rules in
    checked.tested_row c.args.lent.now.span.h c.args.lent.now.span.f c.args.lent.now.bounds.now c.args.lent.now.values.now (nat_of c.args.waited.0) c.loop-at.invariant c.loop-at-test.true ◌-ℤ◌ (loop.difference_joins c.loop-at.invariant c.loop-at-test.true e) (to_z-of_z s) c.difference.ensures c.in_ok-p-in-85.p c.in_ok-p-in-85.was (to_z-of_z z)

pub over-top-requires : goal.over-top-requires
unfolding letter_of_amount
over-top-requires c =
    let g : SFits w64 c.slot-x.result = search rules in
    let e = loop.letter_at g c.slot-x.ensures c.in-81.in-81-own.keys2 in
    ((omega (arith, c.requires.3, c.loop-at.invariant.high), omega (arith, c.requires.4, c.loop-at.invariant.high)), loop.quotient_divides c.loop-at.invariant c.loop-at-test.true e)

pub loop-at-preserved : goal.loop-at-preserved
unfolding letter_of_amount
loop-at-preserved c =
    let g : SFits w64 c.slot-x.result = search rules in
    let e = loop.letter_at g c.slot-x.ensures c.in-81.in-81-own.keys2 in
    let s : SFits w64 c.over-top.result.0 = search rules in
    loop.quotient_row c.loop-at.invariant c.loop-at-test.true e (to_z-of_z s ∙ c.over-top.ensures)

pub returns : goal.returns
returns c = loop.all_passed c.loop-at.invariant c.loop-at-test.false
