use Rattle.nodes.proofs.Fields.{field_cast}
use Rattle.measures.proofs.SurePlans.{left_few, left_is, transfer_sure}
use borrow.Author.Rules.{rules}
use mathlib.Core.Path.{refl}
use mir.Syntax.{w64}
use mir.Val.{SFits}
use native.Mathlib.Omega.{arith}
use Rattle.measures.proofs.quick.quick_transfer.Goals as goal

pub overflow_cast-result : goal.overflow_cast-result
overflow_cast-result c =
    let f : SFits w64 c.args.high.0 = search rules in
    field_cast f refl c.if-high-lt0.false

pub overflow_add-result : goal.overflow_add-result
overflow_add-result c =
    let f : SFits w64 c.args.high.0 = search rules in
    omega (arith, left_few f c.if-high-lt0.false c.requires)

pub returns : goal.returns
returns c =
    let f : SFits w64 c.args.high.0 = search rules in
    let b = left_few f c.if-high-lt0.false c.requires in
    (omega (arith, b), λ t a z bound p q. transfer_sure t a z bound p q b (left_is f c.if-high-lt0.false) (omega arith) refl)
