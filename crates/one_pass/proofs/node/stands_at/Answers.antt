use borrow.Author.Rules.{rules}
use borrow.Author.Tests.{eqb-true}
use mathlib.Core.Bool.{false≢true}
use native.Mathlib.Omega.{arith}
use Rattle.one_pass.proofs.node.stands_at.Goals as goal

pub returns-then-text-at : goal.returns-then-text-at
returns-then-text-at c = λ e. absurd (false≢true e)

pub returns-then-left-eq0 : goal.returns-then-left-eq0
returns-then-left-eq0 c = λ e. absurd (false≢true e)

pub returns : goal.returns
returns c = λ e. (omega (arith, c.if-text-at.false), eqb-true _ _ e, omega (arith, c.if-left-eq0.false))
