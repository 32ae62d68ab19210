use borrow.Author.Rules.{rules}
use mathlib.Core.Bool.{◌&&◌}
use Rattle.language.proofs.Truth.{and_e}
use Rattle.checked.proofs.FourLaws.{tested}
use Rattle.checked.proofs.four.both_hold.Goals as goal

pub returns : goal.returns
returns c =
    λ e.
    let b = and_e _ _ e in
    (b.0, b.1, λ k l. tested ◌&&◌ _ _ (c.both.ensures k l))
