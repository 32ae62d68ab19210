use borrow.Author.Rules.{rules}
use native.Mathlib.Omega.{arith}
use Rattle.writer.proofs.Splits.{at_two, front_room, parted, row_room}
use Rattle.writer.proofs.digits.put_to_four.Goals as goal

-- `digits::put_to_four` meets its contract.

pub put_to_two-next-requires : goal.put_to_two-next-requires
put_to_two-next-requires c = (omega (arith, c.requires.0), front_room at_two _ c.if-n-lt100.false (omega (arith, c.requires.0)) _ _ c.requires.1)

pub put_pair-requires : goal.put_pair-requires
put_pair-requires c = (omega arith, row_room at_two _ c.if-n-lt100.false (omega (arith, c.requires.0)) c.requires.1 c.put_to_two-next.ensures, c.requires.2)

pub returns-else-n-lt100 : goal.returns-else-n-lt100
returns-else-n-lt100 c = parted at_two _ c.if-n-lt100.false (omega (arith, c.requires.0)) c.put_to_two-next.ensures c.put_pair.ensures
