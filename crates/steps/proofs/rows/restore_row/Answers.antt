use mathlib.Core.Path.{◌∙◌, sym}
use Rattle.copies.proofs.Appending.{appended_as}
use Rattle.steps.proofs.RowSteps.{index_restored, other_restored}
use Rattle.steps.proofs.rows.restore_row.Goals as goal

pub returns-then-is_index : goal.returns-then-is_index
returns-then-is_index c =
    let a = c.args in
    appended_as (index_restored a.nodes.now a.at a.span.h a.span.f (sym c.is_index.ensures ∙ c.if-is_index.true) c.label.ensures c.offset.ensures c.offset_of-i.ensures) c.put_index.ensures

pub returns : goal.returns
returns c =
    let a = c.args in
    appended_as (other_restored a.nodes.now a.at a.span.h a.span.f (sym c.is_index.ensures ∙ c.if-is_index.false)) c.copy_row.ensures
