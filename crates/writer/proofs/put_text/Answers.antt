use Rattle.std.proofs.Common.{arith}
use Rattle.writer.proofs.Texts.{comma_none, comma_put, comma_room, row_put, row_room, text_starts}
use Rattle.writer.proofs.put_text.Goals as goal
use Rattle.writer.proofs.put_text.Goals.{else-i-gt0, then-i-gt0}

pub loop-i-init : goal.loop-i-init
loop-i-init c = text_starts _

pub bounds-out-place : goal.bounds-out-place
bounds-out-place c = comma_room _ _ c.loop-i.invariant c.if-i-gt0.true _ c.loop-i-test.true c.requires.1

pub overflow_add-place : goal.overflow_add-place
overflow_add-place c = omega (arith, comma_room _ _ c.loop-i.invariant c.if-i-gt0.true _ c.loop-i-test.true c.requires.1)

pub put_row-place-requires : goal.put_row-place-requires
put_row-place-requires c = (
  omega arith,
  elim c.if-i-gt0.branch [
    | then-i-gt0 w ↦ rw (w.out-is, w.place-is) (row_room _ _ _ c.loop-i-test.true c.requires.1 (comma_put _ _ c.loop-i.invariant w.if-i-gt0.true))
    | else-i-gt0 w ↦ rw (w.out-is, w.place-is) (row_room _ _ _ c.loop-i-test.true c.requires.1 (comma_none _ _ c.loop-i.invariant w.if-i-gt0.false))
  ],
)

pub loop-i-preserved : goal.loop-i-preserved
loop-i-preserved c =
    elim c.if-i-gt0.branch [
      | then-i-gt0 w ↦ row_put _ _ _ c.loop-i-test.true c.requires.1 (comma_put _ _ c.loop-i.invariant w.if-i-gt0.true) (rw (w.out-is, w.place-is) at c.put_row-place.ensures)
      | else-i-gt0 w ↦ row_put _ _ _ c.loop-i-test.true c.requires.1 (comma_none _ _ c.loop-i.invariant w.if-i-gt0.false) (rw (w.out-is, w.place-is) at c.put_row-place.ensures)
    ]
