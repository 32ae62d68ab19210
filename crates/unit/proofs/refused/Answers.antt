use borrow.Author.Rules.{rules}
use lib.IntN.{pos}
use mathlib.Core.Path.{◌∙◌, ap}
use mir.Syntax.{w32}
use mir.ValLaws.{to_z_pos}
use Rattle.unit.proofs.refused.Goals as goal

pub returns : goal.returns
returns c = to_z_pos w32 c.number_of.result (search rules) ∙ ap pos c.number_of.ensures
