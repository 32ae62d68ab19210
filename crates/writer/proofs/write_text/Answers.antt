use borrow.Author.Rules.{rules}
use mathlib.Core.Path.{refl}
use native.Mathlib.Omega.{arith}
use Rattle.writer.proofs.Whole.{no_room, whole}
use Rattle.writer.specs.Answers.{write_call}
use Rattle.writer.proofs.write_text.Goals as goal

-- `write_text` meets its contract.

pub put_text-end-requires : goal.put_text-end-requires
put_text-end-requires c =
    (c.requires.0, omega (arith, c.requires.2, c.if-most-out.true))

pub returns-then-most-out : goal.returns-then-most-out
unfolding write_call
returns-then-most-out c =
    whole _ _ _ refl (omega (arith, c.requires.2, c.if-most-out.true)) _ _ c.put_text-end.ensures

pub put_text-end-requires-else-out-need : goal.put_text-end-requires-else-out-need
put_text-end-requires-else-out-need c = (c.requires.0, omega (arith, c.text_length-need.ensures, c.if-out-need.false))

pub returns-then-out-need : goal.returns-then-out-need
unfolding write_call
returns-then-out-need c = no_room _ _ _ c.text_length-need.ensures c.if-out-need.true

pub returns-else-out-need : goal.returns-else-out-need
unfolding write_call
returns-else-out-need c = whole _ _ _ c.text_length-need.ensures c.if-out-need.false _ _ c.put_text-end-else-out-need.ensures
