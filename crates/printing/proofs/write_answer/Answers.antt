use borrow.Author.Rules.{rules}
use mathlib.Core.Path.{refl}
use native.Mathlib.Omega.{arith}
use Rattle.printing.proofs.MonthLines.{all_counted, surely_fits}
use Rattle.printing.specs.Lines.{answer_call}
use Rattle.writer.proofs.Whole.{no_room, whole}
use Rattle.printing.proofs.write_answer.Goals as goal

-- `write_answer` meets its contract.

pub put_answer-end-requires : goal.put_answer-end-requires
put_answer-end-requires c =
    (c.requires.0, c.requires.1, c.requires.2, c.requires.3, surely_fits _ _ _ _ _ c.if-months-out.true)

pub returns-then-months-out : goal.returns-then-months-out
unfolding answer_call
returns-then-months-out c =
    whole _ _ _ refl (surely_fits _ _ _ _ _ c.if-months-out.true) _ _ c.put_answer-end.ensures

pub head_length-first-requires : goal.head_length-first-requires
head_length-first-requires c = c.requires.0

pub months_length-requires : goal.months_length-requires
months_length-requires c = (c.requires.1, c.requires.2, c.requires.3)

pub overflow_add-need : goal.overflow_add-need
overflow_add-need c = record { fits = omega (arith, c.head_length-first.ensures.1, c.months_length.ensures.1) }

pub put_answer-end-requires-else-out-need : goal.put_answer-end-requires-else-out-need
put_answer-end-requires-else-out-need c =
    (c.requires.0, c.requires.1, c.requires.2, c.requires.3, omega (arith, (all_counted _ _ _ _ c.head_length-first.ensures.0 c.months_length.ensures.0), c.if-out-need.false))

pub returns-then-out-need : goal.returns-then-out-need
unfolding answer_call
returns-then-out-need c = no_room _ _ _ (all_counted _ _ _ _ c.head_length-first.ensures.0 c.months_length.ensures.0) c.if-out-need.true

pub returns-else-out-need : goal.returns-else-out-need
unfolding answer_call
returns-else-out-need c = whole _ _ _ (all_counted _ _ _ _ c.head_length-first.ensures.0 c.months_length.ensures.0) c.if-out-need.false _ _ c.put_answer-end-else-out-need.ensures
