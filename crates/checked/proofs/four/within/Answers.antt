use borrow.Author.Rules.{rules}
use mir.Facts.{to_z-of_z}
use mir.Syntax.{w64}
use mir.Val.{SFits}
use Rattle.checked.proofs.FourLaws.{between_small}
use Rattle.checked.proofs.four.within.Goals as goal

pub returns : goal.returns
returns c =
    let f : SFits w64 c.args.x.0 = search rules in
    λ e. between_small _ (rw (to_z-of_z f) at e)
