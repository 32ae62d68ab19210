use Rattle.amounts.proofs.Waiting as waiting
use Rattle.amounts.specs.Flat.{flat}
use Rattle.language.specs.Payments.Amounts.{holds}
use Rattle.nodes.specs.Found.{offset_of, test_at}
use Rattle.amounts.proofs.Tables.wait_singly.Given as goal

abbrev pub invariant-loop-month : goal.invariant-loop-month
invariant-loop-month l = waiting.Waiting (holds (flat l.self.values.now) (test_at offset_of l.left l.self.nodes.now l.at)) l.fn.first.0 l.last.0 l.month
