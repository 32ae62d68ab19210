use Rattle.nodes.proofs.Fields.{field_reads}
use Rattle.nodes.specs.Letters.{letter_of_plan}
use borrow.Author.Rules.{rules}
use mathlib.Core.Path.{◌∙◌, ap}
use mir.Syntax.{w64}
use mir.Val.{SFits}
use Rattle.nodes.proofs.plan_kind.Goals as goal

pub returns : goal.returns
returns c =
    let f : SFits w64 c.slot.result = search rules in
    c.from.ensures ∙ ap letter_of_plan (field_reads f c.slot.ensures)
