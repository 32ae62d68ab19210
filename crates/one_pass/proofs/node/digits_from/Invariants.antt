use Prim.Native.Nat.{◌-◌, ◌≤◌}
use Rattle.fields.proofs.NumberLaws.{Going, going_done, going_more, going_start}
use Rattle.fields.proofs.Positions.{up_comma, up_more}
use Rattle.fields.specs.Positions.{up_to}
use Rattle.one_pass.proofs.Nodes.{digits_seen, unsure}
use lib.ListN.{drop, length}
use native.Mathlib.Omega.{arith}
use Rattle.one_pass.proofs.node.digits_from.Given as goal

abbrev pub invariant-loop-i : goal.invariant-loop-i
invariant-loop-i l = (l.i ≤ 1024) × (l.v ≤ 9000000000000) × Going (up_to 44 (drop l.at l.text.now)) (up_to 44 (drop l.i l.text.now)) l.v l.at l.i
