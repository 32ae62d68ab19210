use Prim.Native.Nat.{◌*◌}
use Rattle.nodes.proofs.Passes.{Passing}
use Rattle.settling.specs.Settle.{row_in, row_settled, settle_row}
use Rattle.settling.proofs.settle_rows.Given as goal

abbrev pub invariant-loop-i : goal.invariant-loop-i
invariant-loop-i l = Passing (settle_row l.days) (row_settled l.days) l.count l.initial.nodes l.i (5 * l.i) l.nodes × Passing (settle_row l.days) row_in l.count l.initial.nodes l.i (5 * l.i) l.nodes
