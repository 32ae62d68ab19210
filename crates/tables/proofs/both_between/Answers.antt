use Rattle.std.proofs.Common.{◌≡◌, arith, w64, SFits, rules, length}
use Rattle.tables.proofs.Lists.{back, from, joining_ends, joining_on, joining_starts}
use Rattle.tables.proofs.Words.{ends}
use mathlib.Core.Logic.{inl, inr}
use Rattle.tables.proofs.both_between.Goals as goal

pub loop-x-init : goal.loop-x-init
loop-x-init c = joining_starts (search rules) (search rules) c.requires.1

pub loop-x-preserved : goal.loop-x-preserved
loop-x-preserved c =
    let s = c.in-Some.ensures.steps in
    let f : SFits w64 c.in-Some.x.now = search rules in
    let g : SFits w64 c.in-Some.y.now = search rules in
    joining_on c.loop-x.invariant _ _ _ _ s.0 s.1 f g c.word-first.type_inv (omega arith) _ _ c.word-in-loop-x.type_inv c.word-in-loop-x-2.type_inv c.word-in-loop-x.ensures c.word-in-loop-x-2.ensures

pub returns : goal.returns
returns c =
    let low : SFits w64 c.args.range.low = search rules in
    let high : SFits w64 c.args.range.high = search rules in
    let first = c.word-first.result in
    let width = from first c.word.result in
    let s = c.in-None.ensures.steps in
    let none : length c.loop-x.x-iterator.a.rest.now ≡ 0 = elim s [ inl w ↦ w.1.0 | inr w ↦ omega (arith, w.1.0, c.loop-x.invariant.even) ] in
    joining_ends c.loop-x.invariant none (ends _ _ low high c.requires.0 c.word-first.ensures c.word.ensures (omega arith) (back first c.word.result c.word-first.type_inv c.word.type_inv) (omega arith) (back 9223372036854775807 width (omega arith) (omega arith)))
