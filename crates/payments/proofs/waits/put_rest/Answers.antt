use native.Mathlib.Omega.{arith}
use Rattle.payments.proofs.RestPut.{all_copied, none_copied, one_copied, same_size}
use Rattle.payments.proofs.waits.put_rest.Goals as goal

pub loop-i-init : goal.loop-i-init
loop-i-init c = none_copied _ _ _ _

pub bounds-out-at : goal.bounds-out-at
bounds-out-at c = omega (arith, c.loop-i-test.true, c.requires.1, same_size _ _ _ _ c.requires.1 c.loop-i.invariant)

pub loop-i-preserved : goal.loop-i-preserved
loop-i-preserved c = one_copied _ _ _ _ c.requires.1 c.loop-i.invariant c.loop-i-test.true

pub returns : goal.returns
returns c = all_copied _ _ _ _ c.requires.1 c.loop-i.invariant (omega (arith, c.loop-i-test.false))
