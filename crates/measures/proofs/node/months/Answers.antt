use Rattle.nodes.proofs.Fields.{field_below, field_cast, field_index}
use borrow.Author.Rules.{rules}
use mir.Syntax.{w64}
use mir.Val.{SFits}
use Rattle.measures.proofs.node.months.Goals as goal

pub returns-then-d-lt0 : goal.returns-then-d-lt0
returns-then-d-lt0 c =
    let f : SFits w64 c.slot-d.result = search rules in
    field_below f c.slot-d.ensures c.if-d-lt0.true

pub overflow_cast-result : goal.overflow_cast-result
overflow_cast-result c =
    let f : SFits w64 c.slot-d.result = search rules in
    field_cast f c.slot-d.ensures c.if-d-lt0.false

pub returns : goal.returns
returns c =
    let f : SFits w64 c.slot-d.result = search rules in
    field_index f c.slot-d.ensures c.if-d-lt0.false
