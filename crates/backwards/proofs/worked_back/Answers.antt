use Prim.Native.Nat.{◌-◌}
use Rattle.backwards.proofs.Backwards as plain
use Rattle.backwards.proofs.Waiting as loop
use Rattle.nodes.specs.Letters.{letter_of_amount}
use borrow.Author.Rules.{rules}
use lib.IntN.{pos}
use lib.ListN.{get_or}
use mathlib.Core.Path.{◌∙◌, refl}
use mir.Facts.{to_z-of_z}
use mir.Syntax.{w64}
use mir.Val.{SFits}
use native.Mathlib.Omega.{arith}
use Rattle.backwards.proofs.worked_back.Goals as goal

pub loop-at-init : goal.loop-at-init
loop-at-init c = plain.begun _ _ c.requires.2 c.requires.1 refl

pub overflow_sub-depth : goal.overflow_sub-depth
unfolding letter_of_amount
overflow_sub-depth c =
    let f : SFits w64 c.slot-x.result = search rules in
    let e = loop.letter_at f c.slot-x.ensures c.in-65.in-65-own.keys1 in
    let j = loop.sum_joins c.loop-at.invariant c.loop-at-test.true e in
    omega (arith, j.some)

pub plus-top-requires : goal.plus-top-requires
unfolding letter_of_amount
plus-top-requires c =
    let f : SFits w64 c.slot-x.result = search rules in
    let e = loop.letter_at f c.slot-x.ensures c.in-65.in-65-own.keys1 in
    let j = loop.sum_joins c.loop-at.invariant c.loop-at-test.true e in
    let g : SFits w64 (get_or c.loop-at.stack (c.loop-at.depth - 1) (pos 0)) = search rules in
    rw (to_z-of_z g) j.then.0

pub loop-at-preserved-in-65 : goal.loop-at-preserved-in-65
unfolding letter_of_amount
loop-at-preserved-in-65 c =
    let f : SFits w64 c.slot-x.result = search rules in
    let e = loop.letter_at f c.slot-x.ensures c.in-65.in-65-own.keys1 in
    let j = loop.sum_joins c.loop-at.invariant c.loop-at-test.true e in
    let g : SFits w64 (get_or c.loop-at.stack (c.loop-at.depth - 1) (pos 0)) = search rules in
    let s : SFits w64 c.plus-top.result.0 = search rules in
    loop.joined_row c.loop-at.invariant c.loop-at-test.true (to_z-of_z s ∙ (rw (to_z-of_z g) at c.plus-top.ensures)) j.then.1

pub overflow_sub-depth-in-75 : goal.overflow_sub-depth-in-75
unfolding letter_of_amount
overflow_sub-depth-in-75 c =
    let f : SFits w64 c.slot-x.result = search rules in
    let e = loop.letter_at f c.slot-x.ensures c.in-75.in-75-own.keys2 in
    let j = loop.product_joins c.loop-at.invariant c.loop-at-test.true e in
    omega (arith, j.some)

pub times-top-requires : goal.times-top-requires
unfolding letter_of_amount
times-top-requires c =
    let f : SFits w64 c.slot-x.result = search rules in
    let e = loop.letter_at f c.slot-x.ensures c.in-75.in-75-own.keys2 in
    let j = loop.product_joins c.loop-at.invariant c.loop-at-test.true e in
    let g : SFits w64 (get_or c.loop-at.stack (c.loop-at.depth - 1) (pos 0)) = search rules in
    rw (to_z-of_z g) j.then.0

pub loop-at-preserved-in-75 : goal.loop-at-preserved-in-75
unfolding letter_of_amount
loop-at-preserved-in-75 c =
    let f : SFits w64 c.slot-x.result = search rules in
    let e = loop.letter_at f c.slot-x.ensures c.in-75.in-75-own.keys2 in
    let j = loop.product_joins c.loop-at.invariant c.loop-at-test.true e in
    let g : SFits w64 (get_or c.loop-at.stack (c.loop-at.depth - 1) (pos 0)) = search rules in
    let s : SFits w64 c.times-top.result.0 = search rules in
    loop.joined_row c.loop-at.invariant c.loop-at-test.true (to_z-of_z s ∙ (rw (to_z-of_z g) at c.times-top.ensures)) j.then.1

pub loop-at-preserved-in-78 : goal.loop-at-preserved-in-78
unfolding letter_of_amount
loop-at-preserved-in-78 c =
    let f : SFits w64 c.slot-x.result = search rules in
    let e = loop.letter_at f c.slot-x.ensures c.in-78.in-78-own.keys1 in
    let s : SFits w64 c.number-top.result.0 = search rules in
    loop.number_row c.loop-at.invariant c.loop-at-test.true e (omega (arith, c.loop-at.invariant.deep)) (to_z-of_z s ∙ c.number-top.ensures)

pub reading-top-requires : goal.reading-top-requires
unfolding letter_of_amount
reading-top-requires c =
    let f : SFits w64 c.slot-x.result = search rules in
    let e = loop.letter_at f c.slot-x.ensures c.in-79.in-79-own.keys2 in
    ((omega (arith, c.requires.3, c.loop-at.invariant.high), omega (arith, c.requires.4, c.loop-at.invariant.high)), c.requires.0, (loop.index_reads c.loop-at.invariant c.loop-at-test.true e).0)

pub loop-at-preserved-in-79 : goal.loop-at-preserved-in-79
unfolding letter_of_amount
loop-at-preserved-in-79 c =
    let f : SFits w64 c.slot-x.result = search rules in
    let e = loop.letter_at f c.slot-x.ensures c.in-79.in-79-own.keys2 in
    let s : SFits w64 c.reading-top.result.0 = search rules in
    loop.pushed_row c.loop-at.invariant c.loop-at-test.true (omega (arith, c.loop-at.invariant.deep)) (to_z-of_z s ∙ c.reading-top.ensures) (loop.index_reads c.loop-at.invariant c.loop-at-test.true e).1

pub overflow_sub-depth-in-85 : goal.overflow_sub-depth-in-85
unfolding letter_of_amount
overflow_sub-depth-in-85 c =
    let f : SFits w64 c.slot-x.result = search rules in
    let e = loop.letter_at f c.slot-x.ensures c.in-85.in-85-own.keys1 in
    let j = loop.difference_joins c.loop-at.invariant c.loop-at-test.true e in
    omega (arith, j.some)

pub minus-top-requires : goal.minus-top-requires
unfolding letter_of_amount
minus-top-requires c =
    let f : SFits w64 c.slot-x.result = search rules in
    let e = loop.letter_at f c.slot-x.ensures c.in-85.in-85-own.keys1 in
    let j = loop.difference_joins c.loop-at.invariant c.loop-at-test.true e in
    let g : SFits w64 (get_or c.loop-at.stack (c.loop-at.depth - 1) (pos 0)) = search rules in
    rw (to_z-of_z g) j.then.0

pub loop-at-preserved-in-85 : goal.loop-at-preserved-in-85
unfolding letter_of_amount
loop-at-preserved-in-85 c =
    let f : SFits w64 c.slot-x.result = search rules in
    let e = loop.letter_at f c.slot-x.ensures c.in-85.in-85-own.keys1 in
    let j = loop.difference_joins c.loop-at.invariant c.loop-at-test.true e in
    let g : SFits w64 (get_or c.loop-at.stack (c.loop-at.depth - 1) (pos 0)) = search rules in
    let s : SFits w64 c.minus-top.result.0 = search rules in
    loop.joined_row c.loop-at.invariant c.loop-at-test.true (to_z-of_z s ∙ (rw (to_z-of_z g) at c.minus-top.ensures)) j.then.1

pub over-top-requires : goal.over-top-requires
unfolding letter_of_amount
over-top-requires c =
    let f : SFits w64 c.slot-x.result = search rules in
    let e = loop.letter_at f c.slot-x.ensures c.in-81.in-81-own.keys2 in
    ((omega (arith, c.requires.3, c.loop-at.invariant.high), omega (arith, c.requires.4, c.loop-at.invariant.high)), loop.quotient_divides c.loop-at.invariant c.loop-at-test.true e)

pub loop-at-preserved : goal.loop-at-preserved
unfolding letter_of_amount
loop-at-preserved c =
    let f : SFits w64 c.slot-x.result = search rules in
    let e = loop.letter_at f c.slot-x.ensures c.in-81.in-81-own.keys2 in
    let s : SFits w64 c.over-top.result.0 = search rules in
    loop.quotient_row c.loop-at.invariant c.loop-at-test.true e (to_z-of_z s ∙ c.over-top.ensures)

pub returns : goal.returns
returns c = plain.same_value (loop.all_passed c.loop-at.invariant c.loop-at-test.false)
