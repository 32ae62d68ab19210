use Prim.Native.Nat.{◌≤◌}
use lib.ListN.{drop}
use Rattle.fields.specs.Positions.{up_to}
use Rattle.fields.proofs.NumberLaws.{Going}
use Rattle.fields.proofs.numbers.digits.Given as goal

abbrev pub invariant-loop-i : goal.invariant-loop-i
invariant-loop-i l = (l.v ≤ 9000000000000) × Going (up_to l.stop (drop l.at l.text)) (up_to l.stop (drop l.i l.text)) l.v l.at l.i
