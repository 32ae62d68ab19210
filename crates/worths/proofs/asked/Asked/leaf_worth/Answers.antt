use borrow.Author.Rules.{rules}
use mir.Facts.{to_z-of_z}
use mir.Syntax.{w64}
use mir.Val.{SFits}
use Rattle.worths.proofs.asked.Asked.leaf_worth.Goals as goal

pub leaf_worth-requires : goal.leaf_worth-requires
leaf_worth-requires c =
    let a = c.args.self.now in
    let f : SFits w64 a.lent.span.f = search rules in
    rw (to_z-of_z f) (c.requires.0, a.payable, c.requires.1, a.parties, c.requires.2)

pub returns : goal.returns
returns c =
    let f : SFits w64 c.args.self.now.lent.span.f = search rules in
    rw (to_z-of_z f) at c.leaf_worth.ensures
