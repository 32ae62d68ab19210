use mir.Facts.{to_z-of_z}
use Rattle.payments.proofs.payment.Goals as goal

pub returns : goal.returns
returns c =
    let f = c.ranges in
    rw (to_z-of_z f.today, to_z-of_z f.p, to_z-of_z f.q, to_z-of_z f.month) at c.payment_sized.ensures
