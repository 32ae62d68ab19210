use borrow.Author.Rules.{rules}
use mathlib.Core.Path.{◌∙◌, ap, sym}
use Rattle.language.proofs.Payoff.Evaluate.{in_range_lem}
use Rattle.language.specs.Answer.{got}
use Rattle.language.specs.Limits.{max_amount}
use Rattle.checked.proofs.four.number.Goals as goal

pub returns : goal.returns
returns c = λ e k l. ap got (c.number.ensures k l) ∙ sym (in_range_lem max_amount _ c.requires.1)
