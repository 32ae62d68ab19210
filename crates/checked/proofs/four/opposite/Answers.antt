use borrow.Author.Rules.{rules}
use mathlib.Core.Path.{ap}
use Rattle.language.specs.Answer.{got}
use Rattle.checked.proofs.four.opposite.Goals as goal

pub returns : goal.returns
returns c = λ e. (e, λ k l. ap got (c.opposite.ensures k l))
