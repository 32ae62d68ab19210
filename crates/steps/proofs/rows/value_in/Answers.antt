use mathlib.Core.Path.{◌∙◌, ap, sym}
use Rattle.steps.proofs.Looked.{is_value, no_value}
use Rattle.tables.specs.Lookup.{found_answer, read_table}
use Rattle.steps.proofs.rows.value_in.Goals as goal

pub returns-in_default : goal.returns-in_default
returns-in_default c =
    let a = c.args in
    no_value (read_table a.day.now.span.h a.day.now.span.f a.day.now.bounds.now a.day.now.values.now) a.label a.month.0 (ap found_answer (sym c.in_default.is) ∙ c.labelled-found.ensures)

pub returns : goal.returns
returns c =
    let a = c.args in
    is_value (read_table a.day.now.span.h a.day.now.span.f a.day.now.bounds.now a.day.now.values.now) a.label a.month.0 _ (ap found_answer (sym c.in-Some.is) ∙ c.labelled-found.ensures)
