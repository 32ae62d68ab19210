use borrow.Author.Rules.{rules}
use borrow.Author.Tests.{eqb-true}
use lib.Signed.{lt_z}
use Rattle.language.proofs.Truth.{and_e}
use Rattle.checked.proofs.FourLaws.{tested}
use Rattle.checked.proofs.four.less_than.Goals as goal

pub returns : goal.returns
returns c =
    λ e.
    let b = and_e _ _ e in
    (eqb-true _ _ b.0, eqb-true _ _ b.1, λ k l. tested lt_z _ _ (c.less.ensures k l))
