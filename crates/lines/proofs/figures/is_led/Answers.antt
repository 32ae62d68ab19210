use mathlib.Core.Bool.{true≢false}
use mathlib.Core.Path.{sym}
use native.Mathlib.Omega.{arith}
use borrow.Author.Rules.{rules}
use Rattle.lines.proofs.figures.is_led.Goals as goal

pub returns-then-line-at-lt8 : goal.returns-then-line-at-lt8
returns-then-line-at-lt8 c e = absurd (true≢false (sym e))

pub returns-in-49-to-57 : goal.returns-in-49-to-57
returns-in-49-to-57 c e = (omega (arith, c.if-line-at-lt8.false), omega arith, omega arith)

pub returns-in_default : goal.returns-in_default
returns-in_default c e = absurd (true≢false (sym e))

pub returns-in_default-2 : goal.returns-in_default-2
returns-in_default-2 c e = absurd (true≢false (sym e))
