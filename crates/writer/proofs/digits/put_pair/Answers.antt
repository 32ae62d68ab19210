use borrow.Author.Rules.{rules}
use lib.ListN.{length-set}
use native.Mathlib.Omega.{arith}
use Rattle.writer.proofs.Pairs.{pair_put}
use Rattle.writer.proofs.digits.put_pair.Goals as goal

-- `digits::put_pair` meets its contract.

pub bounds-out-at-2 : goal.bounds-out-at-2
bounds-out-at-2 c = simp length-set (omega (arith, c.requires.1))

pub returns : goal.returns
returns c = pair_put _ c.requires.2 _ _ _ c.requires.0
