use borrow.Author.Rules.{rules}
use lib.ListN.{length-set}
use native.Mathlib.Omega.{arith}
use Rattle.writer.proofs.Puts.{pair}
use Rattle.writer.proofs.digits.put_two.Goals as goal

-- `digits::put_two` meets its contract.

pub bounds-out-at-2 : goal.bounds-out-at-2
bounds-out-at-2 c = simp length-set (omega (arith, c.requires.1))

pub returns : goal.returns
returns c = pair _ _ _ _
