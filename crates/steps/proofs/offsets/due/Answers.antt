use borrow.Author.Rules.{rules}
use lib.IntN.{pos}
use lib.Signed.{le_z}
use mathlib.Core.Path.{ap}
use mir.Facts.{to_z-of_z}
use mir.Syntax.{w64}
use mir.Val.{SFits}
use Rattle.steps.proofs.offsets.due.Goals as goal

pub returns : goal.returns
returns c =
    let f : SFits w64 c.args.d.0 = search rules in
    ap (λ z. le_z z (pos 0)) (to_z-of_z f)
