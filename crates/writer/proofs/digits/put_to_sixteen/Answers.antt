use borrow.Author.Rules.{rules}
use native.Mathlib.Omega.{arith}
use Rattle.writer.proofs.Splits.{at_eight, front_room, parted, row_room}
use Rattle.writer.proofs.digits.put_to_sixteen.Goals as goal

-- `digits::put_to_sixteen` meets its contract.

pub put_to_eight-next-requires : goal.put_to_eight-next-requires
put_to_eight-next-requires c = (omega (arith, c.requires.0), front_room at_eight _ c.if-n-lt100000000.false (omega (arith, c.requires.0)) _ _ c.requires.1, c.requires.2)

pub put_eight-requires : goal.put_eight-requires
put_eight-requires c = (omega arith, row_room at_eight _ c.if-n-lt100000000.false (omega (arith, c.requires.0)) c.requires.1 c.put_to_eight-next.ensures, c.requires.2)

pub returns-else-n-lt100000000 : goal.returns-else-n-lt100000000
returns-else-n-lt100000000 c = parted at_eight _ c.if-n-lt100000000.false (omega (arith, c.requires.0)) c.put_to_eight-next.ensures c.put_eight.ensures
