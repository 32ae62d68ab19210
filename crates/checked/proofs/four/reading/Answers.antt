use borrow.Author.Rules.{rules}
use mathlib.Core.Path.{◌∙◌}
use Rattle.checked.proofs.FourLaws.{first_waited, four_inside, four_read}
use Rattle.checked.proofs.RowAnswers as rows
use Rattle.checked.proofs.four.reading.Goals as goal

pub later-first-requires : goal.later-first-requires
later-first-requires c =
    let a = c.args in
    (rows.waited_small (first_waited c.requires.1), rows.near_small c.requires.2 c.month_at.ensures)

pub four_places-place-requires : goal.four_places-place-requires
four_places-place-requires c =
    let a = c.args in
    (a.lent.now.readable.kept.span, a.lent.now.readable.kept.labels, rows.read_small a.lent.now.span.h a.lent.now.span.f a.lent.now.bounds.now a.lent.now.values.now a.lent.now.readable a.waited.0 _ (first_waited c.requires.1) c.requires.2 c.later-first.ensures c.month_at.ensures)

pub values_at-requires : goal.values_at-requires
values_at-requires c =
    let a = c.args in
    four_inside a.lent.now.span.h a.lent.now.span.f a.lent.now.bounds.now a.lent.now.values.now a.lent.now.readable a.waited.0 _ c.requires.1 c.requires.2 c.label.ensures c.later-first.ensures c.month_at.ensures _ (c.four_places-place.ensures _ c.in-Some.is)

pub returns-in-Some : goal.returns-in-Some
returns-in-Some c =
    let a = c.args in
    λ e k m. c.values_at.ensures e k m ∙ four_read a.lent.now.span.h a.lent.now.span.f a.lent.now.bounds.now a.lent.now.values.now a.lent.now.readable a.waited.0 _ c.requires.1 c.requires.2 c.label.ensures c.later-first.ensures c.month_at.ensures _ (c.four_places-place.ensures _ c.in-Some.is) k m

pub returns-in-None : goal.returns-in-None
returns-in-None c = λ e. absurd (c.unsure.ensures e)
