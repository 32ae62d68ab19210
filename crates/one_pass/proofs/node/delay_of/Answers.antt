use Prim.Native.Nat.{◌-◌}
use Rattle.one_pass.proofs.Nodes.{below_zero, few_settings, lent_cast, lent_few, months_cast, months_few, months_for, setting_for, unsure}
use borrow.Author.Rules.{rules}
use lib.IntN.{pos}
use lib.ListN.{get_or}
use mir.Syntax.{w64}
use mir.Val.{SFits}
use native.Mathlib.Omega.{arith}
use Rattle.one_pass.proofs.node.delay_of.Goals as goal

pub overflow_sub-k : goal.overflow_sub-k
overflow_sub-k c = below_zero c.ranges.a c.if-a-lt0.true c.magnitude.ensures

pub offset_bounds-days-k : goal.offset_bounds-days-k
offset_bounds-days-k c =
    record { fits = omega (arith, c.if-k-days.true, few_settings c.args.days.now.now c.requires.1) }

pub overflow_cast-days : goal.overflow_cast-days
overflow_cast-days c =
    let g : SFits w64 (get_or c.args.days.now.now (c.magnitude.result - 1) (pos 0)) = search rules in
    lent_cast c.ranges.a c.if-a-lt0.true c.magnitude.ensures c.args.days.now.now c.requires.1 g

pub number_for-requires : goal.number_for-requires
number_for-requires c =
    let g : SFits w64 (get_or c.args.days.now.now (c.magnitude.result - 1) (pos 0)) = search rules in
    (omega (arith, lent_few c.ranges.a c.if-a-lt0.true c.magnitude.ensures c.args.days.now.now c.requires.1 g), c.requires.0)

pub returns-then-k-days : goal.returns-then-k-days
returns-then-k-days c =
    let g : SFits w64 (get_or c.args.days.now.now (c.magnitude.result - 1) (pos 0)) = search rules in
    λ k. setting_for c.ranges.a c.if-a-lt0.true c.magnitude.ensures c.args.days.now.now c.requires.1 g c.if-k-days.true (c.number_for.ensures k)

pub returns-then-a-lt0 : goal.returns-then-a-lt0
returns-then-a-lt0 c = unsure

pub returns-then-a-gt600 : goal.returns-then-a-gt600
returns-then-a-gt600 c = unsure

pub overflow_cast-a : goal.overflow_cast-a
overflow_cast-a c = months_cast c.ranges.a c.if-a-lt0.false c.if-a-gt600.false

pub number_for-requires-2 : goal.number_for-requires-2
number_for-requires-2 c =
    (omega (arith, months_few c.ranges.a c.if-a-lt0.false c.if-a-gt600.false), c.requires.0)

pub returns : goal.returns
returns c = λ k. months_for c.ranges.a c.if-a-lt0.false c.if-a-gt600.false (c.number_for-2.ensures k)
