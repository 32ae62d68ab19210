use Rattle.integers.proofs.Locals.{rd}
use Rattle.one_pass.proofs.Nodes.{indexed, label_cast, label_few, offset_cast, offset_few, unsure}
use borrow.Author.Rules.{rules}
use lib.IntN.{nat_abs, pos}
use lib.ListN.{get_or}
use mathlib.Core.Path.{◌∙◌, ap}
use mir.Facts.{to_z-of_z}
use mir.Syntax.{w64}
use mir.Val.{SFits}
use native.Mathlib.Omega.{arith}
use Rattle.one_pass.proofs.node.index_of.Goals as goal

pub returns-then-l-i : goal.returns-then-l-i
returns-then-l-i c = unsure

pub overflow_cast-k : goal.overflow_cast-k
overflow_cast-k c = label_cast c.ranges.l c.ranges.i c.if-l-i.false

pub offset_bounds-bounds-k : goal.offset_bounds-bounds-k
offset_bounds-bounds-k c =
    record { fits = omega (arith, label_few c.ranges.l c.ranges.i c.if-l-i.false) }

pub overflow_cast-i : goal.overflow_cast-i
overflow_cast-i c =
    offset_cast c.ranges.l c.ranges.i c.if-l-i.false

pub number_for-requires : goal.number_for-requires
number_for-requires c =
    (omega (arith, offset_few c.ranges.l c.ranges.i c.if-l-i.false), c.requires)

pub returns-then-low-i : goal.returns-then-low-i
returns-then-low-i c =
    let x : SFits w64 c.args.low.0 = search rules in
    let y : SFits w64 c.args.high.0 = search rules in
    let z : SFits w64 (get_or c.args.bounds.now.now (nat_abs (rd c.args.l)) (pos 0)) = search rules in
    λ k. indexed c.ranges.l c.ranges.i c.if-l-i.false x y c.if-k-bounds.true c.if-low-i.true (c.magnitude.ensures ∙ ap nat_abs (to_z-of_z z)) (c.number_for.ensures k)

pub returns-else-low-i : goal.returns-else-low-i
returns-else-low-i c = unsure

pub returns-else-k-bounds : goal.returns-else-k-bounds
returns-else-k-bounds c = unsure
