use borrow.Author.Tests.{eq-eqb, ne_eqb}
use borrow.Author.Rules.{rules}
use lib.ListN.{length}
use mathlib.Core.Path.{refl}
use native.Mathlib.Omega.{arith}
use Rattle.lines.proofs.ends.ended.Goals as goal

pub returns-then-input-eq0 : goal.returns-then-input-eq0
returns-then-input-eq0 c = rw (eq-eqb (length c.args.input.now) 0 c.if-input-eq0.true) refl

pub overflow_sub-result : goal.overflow_sub-result
overflow_sub-result c = omega (arith, c.if-input-eq0.false)

pub bounds-input-input : goal.bounds-input-input
bounds-input-input c = omega (arith, c.if-input-eq0.false)

pub returns : goal.returns
returns c = rw (ne_eqb (length c.args.input.now) 0 c.if-input-eq0.false) refl
