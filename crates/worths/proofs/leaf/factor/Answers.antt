use lib.IntN.{nat_abs, pos}
use lib.ListN.{get_or}
use mathlib.Core.Path.{◌∙◌, ap, refl}
use mir.Facts.{to_z-of_z}
use mir.Syntax.{w64}
use mir.Val.{SFits}
use Rattle.nodes.proofs.Signed.{index_cast}
use Rattle.integers.proofs.Locals.{rd}
use borrow.Author.Rules.{rules}
use native.Mathlib.Omega.{arith}
use Rattle.worths.proofs.leaf.factor.Goals as goal

pub overflow_cast-i : goal.overflow_cast-i
overflow_cast-i c =
    let f : SFits w64 c.args.month.0 = search rules in
    index_cast c.args.month.0 c.args.month.0 f refl c.requires.0

pub offset_bounds-factors-i : goal.offset_bounds-factors-i
offset_bounds-factors-i c =
    let f : SFits w64 c.args.month.0 = search rules in
    omega (arith, c.requires.1, ap nat_abs (to_z-of_z f))

pub bounds-factors-i : goal.bounds-factors-i
bounds-factors-i c =
    let f : SFits w64 c.args.month.0 = search rules in
    omega (arith, c.requires.1, ap nat_abs (to_z-of_z f))

pub returns : goal.returns
returns c =
    let f : SFits w64 c.args.month.0 = search rules in
    let g : SFits w64 (get_or c.args.factors.now (nat_abs (rd c.args.month.0)) (pos 0)) = search rules in
    to_z-of_z g ∙ ap (λ z. get_or c.args.factors.now (nat_abs z) (pos 0)) (to_z-of_z f)
