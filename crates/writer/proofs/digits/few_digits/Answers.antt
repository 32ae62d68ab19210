use Rattle.writer.proofs.Splits.{four_digits, one_digit, three_digits, two_digits}
use Rattle.writer.proofs.digits.few_digits.Goals as goal

-- `digits::few_digits` meets its contract.

pub returns-then-n-lt10 : goal.returns-then-n-lt10
returns-then-n-lt10 c = one_digit _ c.if-n-lt10.true

pub returns-else-n-lt10 : goal.returns-else-n-lt10
returns-else-n-lt10 c = two_digits _ c.if-n-lt10.false c.if-n-lt100.true

pub returns-then-n-lt1000 : goal.returns-then-n-lt1000
returns-then-n-lt1000 c = three_digits _ c.if-n-lt100.false c.if-n-lt1000.true

pub returns-else-n-lt1000 : goal.returns-else-n-lt1000
returns-else-n-lt1000 c = four_digits _ c.if-n-lt1000.false c.requires
