use lib.ListN.{length}
use mathlib.Core.Path.{◌≡◌}
use native.Mathlib.Omega.{arith}
use Rattle.printing.proofs.Words.{spelt_all, spelt_more, spelt_none}
use Rattle.writer.proofs.Puts.{kept}
use Rattle.printing.proofs.put_word.Goals as goal

pub loop-i-init : goal.loop-i-init
loop-i-init c = spelt_none _ _ _

pub bounds-out-at : goal.bounds-out-at
bounds-out-at c =
    omega (arith, c.requires, c.loop-i-test.true, kept c.loop-i.invariant.put)

pub loop-i-preserved : goal.loop-i-preserved
loop-i-preserved c = spelt_more _ _ _ c.loop-i.invariant c.loop-i-test.true

pub returns : goal.returns
returns c =
    let e : c.loop-i.i ≡ length c.args.word.now = omega (arith, c.loop-i.invariant.inside, c.loop-i-test.false) in
    rw e at (spelt_all _ _ _ c.loop-i.invariant (omega (arith, c.loop-i-test.false)))
