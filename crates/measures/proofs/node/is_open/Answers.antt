use Rattle.nodes.proofs.Fields.{field_reads}
use borrow.Author.Rules.{rules}
use lib.IntN.{pos}
use lib.Signed.{lt_z}
use mathlib.Core.Path.{ap}
use mir.Syntax.{w64}
use mir.Val.{SFits}
use Rattle.measures.proofs.node.is_open.Goals as goal

pub returns : goal.returns
returns c =
    let f : SFits w64 c.slot-d.result = search rules in
    ap (λ z. lt_z z (pos 0)) (field_reads f c.slot-d.ensures)
