use borrow.Author.Rules.{rules}
use mathlib.Core.Path.{refl}
use Rattle.checked.proofs.RowAnswers.{divided}
use Rattle.checked.proofs.four.over.Goals as goal

pub returns : goal.returns
returns c = λ e. (e, λ k l. divided _ refl (c.requires.2 e k l) (c.over.ensures k l))
