use Rattle.std.proofs.Common.{◌-◌, ◌*◌, ◌∙◌, subst, arith, rules}
use Rattle.nodes.proofs.Passes.{passing_end, passing_stop}
use Rattle.tables.proofs.Skips.{Turning, turning_next, turning_room, turning_start, turning_step}
use Rattle.tables.specs.Fill.{RowIs, fill_row, row_set}
use Rattle.tables.proofs.fill.fill_rows.Given as goal

abbrev pub invariant-loop-i : goal.invariant-loop-i
invariant-loop-i l = Turning l.days l.count l.initial.nodes l.i l.nodes

abbrev pub decreases-loop-i : goal.decreases-loop-i
decreases-loop-i l = l.count - l.i
