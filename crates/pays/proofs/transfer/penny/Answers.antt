use borrow.Author.Rules.{rules}
use mir.Syntax.{w64}
use mir.Val.{SFits}
use Rattle.pays.proofs.Pennies.{of_row}
use Rattle.pays.proofs.transfer.penny.Goals as goal

pub returns : goal.returns
returns c =
    let p = c.args.pair in
    let fa : SFits w64 c.slot.result = search rules in
    let fb : SFits w64 c.slot-2.result = search rules in
    of_row p.p p.q fa fb c.slot.ensures c.slot-2.ensures c.penny_between.ensures
