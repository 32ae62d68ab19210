use borrow.Author.Rules.{rules}
use borrow.Author.Tests.{eqb-true}
use Rattle.integers.specs.Equal.{eq_z}
use Rattle.language.proofs.Truth.{and_e}
use Rattle.checked.proofs.FourLaws.{tested}
use Rattle.checked.proofs.four.equal_to.Goals as goal

pub returns : goal.returns
returns c =
    λ e.
    let b = and_e _ _ e in
    (eqb-true _ _ b.0, eqb-true _ _ b.1, λ k l. tested eq_z _ _ (c.equal.ensures k l))
