use Prim.Native.Nat.{◌≤◌}
use Rattle.copies.specs.Copied.{Copied}
use Rattle.copies.proofs.changes.copy_rows.Given as goal

abbrev pub invariant-loop-at : goal.invariant-loop-at
invariant-loop-at g l = (l.from ≤ l.at) × Copied (g.C.Change.changed l.change) l.initial.nodes l.nodes l.from l.at l.count l.next
