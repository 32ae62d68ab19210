use Rattle.nodes.proofs.Fields.{field_below, field_cast, field_index}
use borrow.Author.Rules.{rules}
use mir.Syntax.{w64}
use mir.Val.{SFits}
use Rattle.nodes.proofs.label.Goals as goal

pub returns-then-l-lt0 : goal.returns-then-l-lt0
returns-then-l-lt0 c =
    let f : SFits w64 c.slot-l.result = search rules in
    field_below f c.slot-l.ensures c.if-l-lt0.true

pub overflow_cast-result : goal.overflow_cast-result
overflow_cast-result c =
    let f : SFits w64 c.slot-l.result = search rules in
    field_cast f c.slot-l.ensures c.if-l-lt0.false

pub returns : goal.returns
returns c =
    let f : SFits w64 c.slot-l.result = search rules in
    field_index f c.slot-l.ensures c.if-l-lt0.false
