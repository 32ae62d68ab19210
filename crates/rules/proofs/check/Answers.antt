use mir.Facts.{to_z-of_z}
use Rattle.rules.proofs.check.Goals as goal

pub returns : goal.returns
returns c =
    let f = c.ranges in
    rw (to_z-of_z f.today) at c.check_any.ensures
