use Rattle.nodes.proofs.Fields.{field_cast}
use Rattle.measures.proofs.SurePlans.{left_few, left_is, nothing_sure, unsure}
use borrow.Author.Rules.{rules}
use mathlib.Core.Path.{refl}
use mir.Syntax.{w64}
use mir.Val.{SFits}
use native.Mathlib.Omega.{arith}
use Rattle.measures.proofs.quick.quick_nothing.Goals as goal

pub returns-then-high-lt0 : goal.returns-then-high-lt0
returns-then-high-lt0 c = (omega arith, λ t a z bound need. unsure t a z bound need _ _ (omega arith))

pub overflow_cast-result : goal.overflow_cast-result
overflow_cast-result c =
    let f : SFits w64 c.args.high.0 = search rules in
    field_cast f refl c.if-high-lt0.false

pub returns : goal.returns
returns c =
    let f : SFits w64 c.args.high.0 = search rules in
    let b = left_few f c.if-high-lt0.false c.requires in
    (omega (arith, b), λ t a z bound need. nothing_sure t a z bound need b (left_is f c.if-high-lt0.false))
