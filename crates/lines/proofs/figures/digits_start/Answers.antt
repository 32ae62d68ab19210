use mathlib.Core.Logic.{inl, inr}
use mathlib.Core.Path.{refl}
use borrow.Author.Rules.{rules}
use Rattle.lines.proofs.figures.digits_start.Goals as goal

pub returns-then-line-at-eq45 : goal.returns-then-line-at-eq45
returns-then-line-at-eq45 c = inl ((c.if-at-line.true, c.if-line-at-eq45.true), refl)

pub returns-else-line-at-eq45 : goal.returns-else-line-at-eq45
returns-else-line-at-eq45 c = inr (inr (c.if-at-line.true, c.if-line-at-eq45.false), refl)

pub returns-else-at-line : goal.returns-else-at-line
returns-else-at-line c = inr (inl c.if-at-line.false, refl)
