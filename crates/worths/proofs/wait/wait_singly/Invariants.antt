use Prim.Native.Nat.{◌-◌}
use Rattle.nodes.specs.Found.{offset_of, test_at}
use Rattle.nodes.specs.Table.{nat_of}
use Rattle.worths.proofs.WaitLoop as waiting
use Rattle.checked.specs.Checked.{test_in}
use Rattle.worths.proofs.wait.wait_singly.Given as goal

abbrev pub invariant-loop-following : goal.invariant-loop-following
invariant-loop-following l = waiting.Waiting (test_in l.lent.span.h l.lent.span.f l.lent.bounds.now l.lent.values.now (test_at offset_of l.left l.lent.nodes.now l.at)) l.initial.month.0 l.last.0 l.month.0

abbrev pub decreases-loop-following : goal.decreases-loop-following
decreases-loop-following l = nat_of l.last.0 - nat_of l.month.0
