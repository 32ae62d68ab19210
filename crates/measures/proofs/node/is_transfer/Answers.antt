use Rattle.measures.proofs.Plans.{transfer_key}
use borrow.Author.Rules.{rules}
use borrow.Author.Tests.{eqb-true}
use mir.Syntax.{w64}
use mir.Val.{SFits}
use Rattle.measures.proofs.node.is_transfer.Goals as goal

pub returns : goal.returns
returns c =
    let f : SFits w64 c.slot-x.result = search rules in
    λ e. transfer_key f c.slot-x.ensures (eqb-true _ _ e)
