use Prim.Native.Nat.{◌+◌}
use lib.ListN.{set}
use mathlib.Core.Path.{subst, sym}
use native.Mathlib.Omega.{arith}
use Rattle.payoff.proofs.Copied.{Copied, all_copied, none_copied, one_copied, same_size}
use Rattle.payoff.proofs.put_cut.Goals as goal

pub loop-i-init : goal.loop-i-init
loop-i-init c = none_copied _ _

pub bounds-out-i : goal.bounds-out-i
bounds-out-i c =
    let p = c.requires in
    omega (arith, p, c.loop-i-test.true, same_size _ _ p c.loop-i.invariant)

pub loop-i-preserved : goal.loop-i-preserved
loop-i-preserved c =
    subst (λ x. Copied c.args.text.now c.args.out.now (set c.loop-i.out c.loop-i.i x) (c.loop-i.i + 1)) (sym c.cut_byte.ensures)
    (one_copied _ _ c.requires c.loop-i.invariant c.loop-i-test.true)

pub returns : goal.returns
returns c = all_copied _ _ c.requires c.loop-i.invariant (omega (arith, c.loop-i-test.false))
