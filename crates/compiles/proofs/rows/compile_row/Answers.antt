use mathlib.Core.Path.{◌∙◌, sym}
use Rattle.compiles.proofs.MonthRows.{index_compiled, other_compiled}
use Rattle.copies.proofs.Appending.{appended_as}
use Rattle.compiles.proofs.rows.compile_row.Goals as goal

pub returns-then-is_index : goal.returns-then-is_index
returns-then-is_index c =
    let a = c.args in
    let m = c.offset_month-m in
    appended_as (index_compiled a.plain.0 a.digits.0 a.nodes.now a.at (sym c.is_index.ensures ∙ c.if-is_index.true) c.offset.ensures m.ensures) c.put_index.ensures

pub returns : goal.returns
returns c =
    let a = c.args in
    appended_as (other_compiled a.plain.0 a.digits.0 a.nodes.now a.at (sym c.is_index.ensures ∙ c.if-is_index.false)) c.copy_row.ensures
