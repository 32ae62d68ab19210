use mathlib.Core.Path.{◌∙◌, ap}
use mir.Facts.{to_z-of_z}
use mir.Syntax.{w64}
use mir.Val.{SFits}
use Rattle.nodes.specs.Letters.{letter_of_payoff}
use borrow.Author.Rules.{rules}
use Rattle.worths.proofs.rows.letter.Goals as goal

pub returns : goal.returns
returns c =
    let f : SFits w64 c.slot.result = search rules in
    c.payoff_letter.ensures ∙ ap letter_of_payoff (to_z-of_z f ∙ c.slot.ensures)
