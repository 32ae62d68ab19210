use Rattle.std.proofs.Common.{◌*◌}
use Rattle.nodes.proofs.Passes.{Passing}
use Rattle.places.specs.Place.{placed_row, row_in}
use Rattle.places.proofs.place_rows.Given as goal

abbrev pub invariant-loop-i : goal.invariant-loop-i
invariant-loop-i l = Passing (placed_row l.span.h l.span.f) row_in l.count l.initial.nodes l.i (5 * l.i) l.nodes
