use mathlib.Core.List.{◌∷◌, []}
use mir.Facts.{to_z-of_z}
use native.Mathlib.Omega.{arith}
use Rattle.unit.proofs.Puts.{too_short, two_put}
use Rattle.unit.proofs.put_two.Goals as goal

pub returns-then-answer-lt2 : goal.returns-then-answer-lt2
returns-then-answer-lt2 c =
    let a = c.args in
    too_short (a.first ∷ a.second ∷ []) a.answer.now (omega (arith, c.if-answer-lt2.true))

pub returns : goal.returns
returns c =
    rw (to_z-of_z c.ranges.first, to_z-of_z c.ranges.second) (two_put c.args.first c.args.second c.args.answer.now c.if-answer-lt2.false)
