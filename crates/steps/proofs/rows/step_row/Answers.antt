use lib.IntN.{◌+ℤ◌}
use mathlib.Core.Path.{◌∙◌, ap, sym}
use native.Mathlib.Omega.{arith}
use Rattle.amounts.proofs.RowReads.{month_is}
use Rattle.copies.proofs.Appending.{appended_as}
use Rattle.nodes.specs.Table.{nat_of}
use Rattle.steps.proofs.Restored.{month_near, not_due, offset_small}
use Rattle.steps.proofs.RowSteps.{index_stepped, other_stepped, value_stepped}
use Rattle.tables.specs.Lookup.{read_table}
use Rattle.steps.proofs.rows.step_row.Goals as goal

pub later-requires : goal.later-requires
later-requires c =
    let a = c.args in
    (record { small = omega (arith, c.args.day.now.month.within) }, offset_small a.day.now.span.h a.day.now.span.f c.args.day.now.placed _ _ c.offset_of-i.ensures)

pub value_in-value-requires : goal.value_in-value-requires
value_in-value-requires c =
    let a = c.args in
    month_near a.day.now.span.h a.day.now.span.f c.args.day.now.placed _ _ a.day.now.today.0 c.args.day.now.month.within c.offset_of-i.ensures c.later.ensures

pub returns-then-due : goal.returns-then-due
returns-then-due c =
    let a = c.args in
    let t = read_table a.day.now.span.h a.day.now.span.f a.day.now.bounds.now a.day.now.values.now in
    let e = sym c.is_index.ensures ∙ c.if-is_index.true in
    appended_as (value_stepped a.nodes.now a.at t (nat_of a.day.now.today.0) e c.label-label.ensures c.offset.ensures c.offset_of-i.ensures (sym c.due.ensures ∙ c.if-due.true) (c.later.ensures ∙ ap (λ z. z +ℤ c.offset_of-i.result.0) (month_is a.day.now.today.0 c.args.day.now.month.known)) c.value_in-value.ensures) c.put_number.ensures

pub earlier-requires : goal.earlier-requires
earlier-requires c =
    not_due c.offset_of-i.result.0 (sym c.due.ensures ∙ c.if-due.false)

pub returns-then-is_index : goal.returns-then-is_index
returns-then-is_index c =
    let a = c.args in
    let t = read_table a.day.now.span.h a.day.now.span.f a.day.now.bounds.now a.day.now.values.now in
    let e = sym c.is_index.ensures ∙ c.if-is_index.true in
    appended_as (index_stepped a.nodes.now a.at t (nat_of a.day.now.today.0) e c.label-label.ensures c.offset.ensures c.offset_of-i.ensures (sym c.due.ensures ∙ c.if-due.false) c.earlier.ensures) c.put_index.ensures

pub returns : goal.returns
returns c =
    let a = c.args in
    appended_as (other_stepped a.nodes.now a.at (read_table a.day.now.span.h a.day.now.span.f a.day.now.bounds.now a.day.now.values.now) (nat_of a.day.now.today.0) (sym c.is_index.ensures ∙ c.if-is_index.false)) c.copy_row.ensures
