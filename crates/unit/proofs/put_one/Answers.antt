use mathlib.Core.List.{◌∷◌, []}
use mir.Facts.{to_z-of_z}
use native.Mathlib.Omega.{arith}
use Rattle.unit.proofs.Puts.{one_put, too_short}
use Rattle.unit.proofs.put_one.Goals as goal

pub returns-then-answer-lt1 : goal.returns-then-answer-lt1
returns-then-answer-lt1 c =
    let a = c.args in
    too_short (a.first ∷ []) a.answer.now (omega (arith, c.if-answer-lt1.true))

pub returns : goal.returns
returns c =
    rw (to_z-of_z c.ranges.first) (one_put c.args.first c.args.answer.now c.if-answer-lt1.false)
