use mir.Facts.{to_z-of_z}
use Rattle.payments.proofs.step.Goals as goal

pub returns : goal.returns
returns c =
    let f = c.ranges in
    rw (to_z-of_z f.today, to_z-of_z f.p, to_z-of_z f.q) at c.step_sized.ensures
