use Prim.Native.Nat.{◌-◌}
use borrow.Author.Rules.{rules}
use mathlib.Core.Path.{refl}
use mir.Syntax.{w64}
use mir.Val.{SFits}
use native.Mathlib.Omega.{arith}
use Rattle.language.specs.Payments.Amounts.{holds}
use Rattle.nodes.specs.Found.{offset_of, test_at}
use Rattle.nodes.specs.Table.{nat_of}
use Rattle.amounts.proofs.FourMonths.{few_small}
use Rattle.amounts.proofs.FourWaits as fours
use Rattle.amounts.proofs.Waiting as waiting
use Rattle.amounts.specs.Flat.{flat}
use Rattle.amounts.proofs.Tables.wait_for.Given as goal

abbrev pub invariant-loop-next : goal.invariant-loop-next
invariant-loop-next l = waiting.Waiting (holds (flat l.self.values.now) (test_at offset_of l.left l.self.nodes.now l.at)) l.initial.month.0 l.last.0 l.month.0

abbrev pub decreases-loop-next : goal.decreases-loop-next
decreases-loop-next l = nat_of l.last.0 - nat_of l.month.0
