use borrow.Author.Rules.{rules}
use borrow.Author.Tests.{eqb-true}
use Rattle.language.proofs.Truth.{and_e}
use Rattle.checked.proofs.four.chosen.Goals as goal

pub returns-then-t-x : goal.returns-then-t-x
returns-then-t-x c =
    let b = and_e _ _ c.if-t-x.true in
    let d = and_e _ _ b.1 in
    λ e. (b.0, eqb-true _ _ d.0, eqb-true _ _ d.1, c.chosen.ensures)

pub returns : goal.returns
returns c = λ e. absurd (c.unsure.ensures e)
