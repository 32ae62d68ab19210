use Rattle.nodes.proofs.Fields.{field_below, field_whole}
use borrow.Author.Rules.{rules}
use lib.IntN.{pos}
use mathlib.Core.Path.{ap}
use mir.Syntax.{w64}
use mir.Val.{SFits}
use Rattle.nodes.proofs.delay.Goals as goal

pub returns-then-d-lt0 : goal.returns-then-d-lt0
returns-then-d-lt0 c =
    let f : SFits w64 c.slot-d.result = search rules in
    ap pos (field_below f c.slot-d.ensures c.if-d-lt0.true)

pub returns : goal.returns
returns c =
    let f : SFits w64 c.slot-d.result = search rules in
    field_whole f c.slot-d.ensures c.if-d-lt0.false
