use Rattle.measures.proofs.Fields.{field_cast}
use Rattle.measures.proofs.SurePlans.{left_few, left_is}
use Rattle.one_pass.proofs.Nodes.{unsure}
use borrow.Author.Rules.{rules}
use mathlib.Core.Path.{refl}
use mir.Syntax.{w64}
use mir.Val.{SFits}
use native.Mathlib.Omega.{arith}
use Rattle.one_pass.proofs.node.ended.Goals as goal

pub returns-then-high-lt0 : goal.returns-then-high-lt0
returns-then-high-lt0 c = unsure

pub overflow_cast-high : goal.overflow_cast-high
overflow_cast-high c =
    let f : SFits w64 c.args.high.0 = search rules in field_cast f refl c.if-high-lt0.false

pub number_for-requires : goal.number_for-requires
number_for-requires c =
    let f : SFits w64 c.args.high.0 = search rules in (omega (arith, left_few f c.if-high-lt0.false c.requires.1), c.requires.0)

pub returns : goal.returns
returns c =
    let f : SFits w64 c.args.high.0 = search rules in λ k. record { months = _; packed = c.number_for.ensures k; few = left_few f c.if-high-lt0.false c.requires.1; is = left_is f c.if-high-lt0.false }
