use Prim.Native.Nat.{◌+◌, ◌≤◌}
use lib.ListN.{drop}
use Rattle.fields.specs.Positions.{up_to}
use Rattle.fields.proofs.NumberLaws.{Going}
use Rattle.fields.proofs.numbers.short_digits.Given as goal

abbrev pub invariant-loop-i : goal.invariant-loop-i
invariant-loop-i l = (l.v ≤ 999) × (l.i ≤ l.at → l.v ≤ 0) × (l.i ≤ l.at + 1 → l.v ≤ 9) × (l.i ≤ l.at + 2 → l.v ≤ 99) × Going (up_to 44 (drop l.at l.text)) (up_to 44 (drop l.i l.text)) l.v l.at l.i
