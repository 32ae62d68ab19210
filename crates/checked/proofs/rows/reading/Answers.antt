use Rattle.checked.proofs.RowAnswers as rows
use borrow.Author.Rules.{rules}
use Rattle.checked.proofs.rows.reading.Goals as goal

pub later-month-requires : goal.later-month-requires
later-month-requires c =
    (rows.waited_small c.requires.1, rows.near_small c.requires.2 c.month_at.ensures)

pub labelled-found-requires : goal.labelled-found-requires
labelled-found-requires c =
    let a = c.args in
    (a.lent.now.readable.kept, rows.read_small a.lent.now.span.h a.lent.now.span.f a.lent.now.bounds.now a.lent.now.values.now a.lent.now.readable a.waited.0 _ c.requires.1 c.requires.2 c.later-month.ensures c.month_at.ensures)

pub returns-in-Some : goal.returns-in-Some
returns-in-Some c =
    let a = c.args in
    rows.read_found a.lent.now.span.h a.lent.now.span.f a.lent.now.bounds.now a.lent.now.values.now a.lent.now.readable a.waited.0 _ c.requires.1 c.requires.2 c.label.ensures c.later-month.ensures c.month_at.ensures _ c.labelled-found.ensures _ c.in-Some.is

pub returns-in-None : goal.returns-in-None
returns-in-None c =
    let a = c.args in
    rows.read_outside a.lent.now.span.h a.lent.now.span.f a.lent.now.bounds.now a.lent.now.values.now a.lent.now.readable a.waited.0 _ c.requires.1 c.requires.2 c.label.ensures c.later-month.ensures c.month_at.ensures _ c.labelled-found.ensures c.in-None.is
