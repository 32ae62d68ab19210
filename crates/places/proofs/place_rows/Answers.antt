use Rattle.std.proofs.Common.{◌≡◌, ◌+◌, ◌*◌, ◌∙◌, arith}
use Rattle.nodes.proofs.Passes.{passing_end, passing_next, passing_room, row_size}
use Rattle.nodes.specs.Pass.{row_from}
use Rattle.places.proofs.RowPlaces.{next_passes, place_keeps_size}
use Rattle.places.proofs.place_rows.Goals as goal

pub place_row-requires : goal.place_row-requires
place_row-requires c =
    let p = c.requires in
    (passing_room _ _ _ _ p.0 c.loop-i.invariant c.loop-i-test.true, p.1, next_passes _ _ _ _ p.0 c.loop-i.invariant c.loop-i-test.true p.2)

pub loop-i-preserved : goal.loop-i-preserved
loop-i-preserved c =
    let a = c.args in
    let p = c.requires in
    let l = c.loop-i in
    let on : 5 * l.i + 5 ≡ 5 * (l.i + 1) = omega arith in
    let room = passing_room _ _ _ _ p.0 l.invariant c.loop-i-test.true in
    let size = place_keeps_size a.span.h a.span.f (row_from (5 * l.i) l.nodes) ∙ row_size (5 * l.i) l.nodes room in
    rw (← on) (passing_next _ _ _ _ p.0 l.invariant c.loop-i-test.true size (next_passes _ _ _ _ p.0 l.invariant c.loop-i-test.true p.2) c.place_row.ensures)

pub returns : goal.returns
returns c = (passing_end _ _ _ _ c.requires.0 c.loop-i.invariant c.loop-i-test.false).1
