use borrow.Author.Rules.{rules}
use native.Mathlib.Omega.{arith}
use Rattle.writer.proofs.Splits.{at_four, front_room, parted, row_room}
use Rattle.writer.proofs.digits.put_medium.Goals as goal

-- `digits::put_medium` meets its contract.

pub put_short-next-requires : goal.put_short-next-requires
put_short-next-requires c = (omega (arith, c.requires.0), front_room at_four _ c.if-n-lt10000.false (omega (arith, c.requires.0)) _ _ c.requires.1)

pub put_last_four-requires : goal.put_last_four-requires
put_last_four-requires c = (omega arith, row_room at_four _ c.if-n-lt10000.false (omega (arith, c.requires.0)) c.requires.1 c.put_short-next.ensures)

pub returns-else-n-lt10000 : goal.returns-else-n-lt10000
returns-else-n-lt10000 c = parted at_four _ c.if-n-lt10000.false (omega (arith, c.requires.0)) c.put_short-next.ensures c.put_last_four.ensures
