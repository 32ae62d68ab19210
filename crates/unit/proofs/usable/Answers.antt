use borrow.Author.Tests.{le-leb, lt-leb}
use Rattle.unit.proofs.usable.Goals as goal

pub returns-then-places-numbers : goal.returns-then-places-numbers
returns-then-places-numbers c =
    let a = c.args in
    rw (lt-leb a.numbers a.places c.if-places-numbers.true)

pub returns : goal.returns
returns c =
    let a = c.args in
    rw (le-leb a.numbers a.places c.if-places-numbers.false)
