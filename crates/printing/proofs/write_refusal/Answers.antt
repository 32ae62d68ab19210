use Prim.Native.Nat.{◌+◌, ◌-◌, ◌<◌, ◌≤◌}
use borrow.Author.Rules.{rules}
use lib.ListN.{length}
use mathlib.Core.List.{◌++◌}
use mathlib.Core.Path.{◌∙◌, ap, sym}
use native.Mathlib.Omega.{arith}
use Rattle.printing.proofs.MonthLines.{refusal_counted, short_number}
use Rattle.printing.specs.Lines.{refusal_call}
use Rattle.writer.proofs.Whole.{no_room, whole}
use Rattle.printing.proofs.write_refusal.Goals as goal

pub number_length-need-requires : goal.number_length-need-requires
number_length-need-requires c = omega (arith, c.requires)

pub overflow_add-need : goal.overflow_add-need
overflow_add-need c =
    record { fits = omega (arith, short_number _ c.number_length-need.ensures) }

pub put_refusal-end-requires : goal.put_refusal-end-requires
put_refusal-end-requires c =
    (c.requires, omega (arith, refusal_counted c.args.number.now c.number_length-need.ensures, c.if-out-need.false))

pub returns-then-out-need : goal.returns-then-out-need
unfolding refusal_call
returns-then-out-need c =
    no_room _ _ _ (refusal_counted c.args.number.now c.number_length-need.ensures) c.if-out-need.true

pub returns-else-out-need : goal.returns-else-out-need
unfolding refusal_call
returns-else-out-need c =
    whole _ _ _ (refusal_counted c.args.number.now c.number_length-need.ensures) c.if-out-need.false _ _ c.put_refusal-end.ensures
