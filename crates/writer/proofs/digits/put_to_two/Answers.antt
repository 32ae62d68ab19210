use borrow.Author.Rules.{rules}
use mathlib.Core.Path.{sym}
use native.Mathlib.Omega.{arith}
use Rattle.writer.proofs.Decimal.{print_few}
use Rattle.writer.proofs.Puts.{one, room_as, said}
use Rattle.writer.proofs.Splits.{print_two}
use Rattle.writer.proofs.digits.put_to_two.Goals as goal

-- `digits::put_to_two` meets its contract.

pub bounds-out-at : goal.bounds-out-at
bounds-out-at c = omega (arith, room_as _ _ _ _ (print_few _ c.if-n-lt10.true) c.requires.1)

pub put_two-requires : goal.put_two-requires
put_two-requires c = (c.requires.0, room_as _ _ _ _ (print_two _ c.if-n-lt10.false c.requires.0) c.requires.1)

pub returns-then-n-lt10 : goal.returns-then-n-lt10
returns-then-n-lt10 c = said (sym (print_few _ c.if-n-lt10.true)) (one _ _ _)

pub returns-else-n-lt10 : goal.returns-else-n-lt10
returns-else-n-lt10 c = said (sym (print_two _ c.if-n-lt10.false c.requires.0)) c.put_two.ensures
