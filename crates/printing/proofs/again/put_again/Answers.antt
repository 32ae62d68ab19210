use borrow.Author.Rules.{rules}
use native.Mathlib.Omega.{arith}
use Rattle.printing.proofs.Copying.{twice_put}
use Rattle.printing.proofs.again.put_again.Goals as goal

pub returns : goal.returns
returns c =
    twice_put c.args.out.now c.args.from c.args.to c.args.n c.requires.0 c.requires.1 c.requires.2 (omega (arith, c.if-n-gt16.false)) c.copy_eight.ensures c.copy_eight-2.ensures
