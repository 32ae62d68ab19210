use mathlib.Core.Path.{refl}
use Rattle.amounts.specs.FourMonths.{first_that_holds}
use Rattle.amounts.proofs.wait.first_held.Goals as goal

pub returns-then-t : goal.returns-then-t
unfolding first_that_holds
returns-then-t c = rw c.if-t.true refl

pub returns-then-t-2 : goal.returns-then-t-2
unfolding first_that_holds
returns-then-t-2 c = rw (c.if-t.false, c.if-t-2.true) refl

pub returns-then-t-3 : goal.returns-then-t-3
unfolding first_that_holds
returns-then-t-3 c = rw (c.if-t.false, c.if-t-2.false, c.if-t-3.true) refl

pub returns-then-t-4 : goal.returns-then-t-4
unfolding first_that_holds
returns-then-t-4 c = rw (c.if-t.false, c.if-t-2.false, c.if-t-3.false, c.if-t-4.true) refl

pub returns : goal.returns
unfolding first_that_holds
returns c = rw (c.if-t.false, c.if-t-2.false, c.if-t-3.false, c.if-t-4.false) refl
