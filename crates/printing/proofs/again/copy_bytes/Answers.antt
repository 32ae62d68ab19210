use mathlib.Core.Path.{◌≡◌}
use native.Mathlib.Omega.{arith}
use Rattle.printing.proofs.Copying.{copied, word_length}
use Rattle.printing.proofs.Words.{spelt_all, spelt_none}
use Rattle.writer.proofs.Puts.{kept}
use Rattle.printing.proofs.again.copy_bytes.Goals as goal

pub loop-i-init : goal.loop-i-init
loop-i-init c = spelt_none _ _ _

pub loop-i-preserved : goal.loop-i-preserved
loop-i-preserved c =
    copied c.args.out.now c.args.from c.args.to c.args.n c.requires.0 c.requires.1 c.loop-i.invariant c.loop-i-test.true

pub returns : goal.returns
returns c =
    let l = word_length c.args.out.now c.args.from c.args.to c.args.n c.requires.0 c.requires.1 in
    let i : c.loop-i.i ≡ c.args.n = omega (arith, c.loop-i.invariant.inside, l, c.loop-i-test.false) in
    rw i at (spelt_all _ _ _ c.loop-i.invariant (omega (arith, l, c.loop-i-test.false)))
