use borrow.Author.Rules.{rules}
use native.Mathlib.Omega.{arith}
use Rattle.writer.proofs.Splits.{at_four, front_room, parted, row_room}
use Rattle.writer.proofs.digits.put_to_eight.Goals as goal

-- `digits::put_to_eight` meets its contract.

pub put_to_four-next-requires : goal.put_to_four-next-requires
put_to_four-next-requires c = (omega (arith, c.requires.0), front_room at_four _ c.if-n-lt10000.false (omega (arith, c.requires.0)) _ _ c.requires.1, c.requires.2)

pub put_four-requires : goal.put_four-requires
put_four-requires c = (omega arith, row_room at_four _ c.if-n-lt10000.false (omega (arith, c.requires.0)) c.requires.1 c.put_to_four-next.ensures, c.requires.2)

pub returns-else-n-lt10000 : goal.returns-else-n-lt10000
returns-else-n-lt10000 c = parted at_four _ c.if-n-lt10000.false (omega (arith, c.requires.0)) c.put_to_four-next.ensures c.put_four.ensures
