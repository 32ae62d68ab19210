use mir.Facts.{to_z-of_z}
use Rattle.payoff.proofs.evaluate.Goals as goal

pub returns : goal.returns
returns c =
    let f = c.ranges in
    rw (to_z-of_z f.month, to_z-of_z f.p, to_z-of_z f.q) at c.evaluate_sized.ensures
