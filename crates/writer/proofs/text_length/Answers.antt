use Rattle.std.proofs.Common.{◌≡◌, ◌+◌, ap, arith, length, sym}
use Rattle.writer.proofs.Texts.{counted_all, counted_more, counted_none, text_none}
use Rattle.writer.proofs.text_length.Goals as goal

pub returns-then-count-eq0 : goal.returns-then-count-eq0
returns-then-count-eq0 c = sym (ap length (text_none _ _ c.if-count-eq0.true))

pub loop-i-init : goal.loop-i-init
loop-i-init c = counted_none _

pub loop-i-preserved : goal.loop-i-preserved
loop-i-preserved c = counted_more c.loop-i.invariant c.row_length.ensures.0 c.row_length.ensures.1

pub overflow_sub-result : goal.overflow_sub-result
overflow_sub-result c = omega (arith, counted_all c.args.count c.loop-i.invariant (omega arith) c.if-count-eq0.false)

pub returns : goal.returns
returns c = omega (arith, counted_all c.args.count c.loop-i.invariant (omega arith) c.if-count-eq0.false)
