use Rattle.std.proofs.Common.{◌*◌, ◌∙◌, subst, sym, arith}
use Rattle.nodes.proofs.Passes.{passing_end, passing_stop}
use Rattle.tables.proofs.Skips.{turning_next, turning_room, turning_start, turning_step}
use Rattle.tables.specs.Fill.{FillIs, RowIs, fill_row, row_set}
use Rattle.integers.proofs.Passed.{handed_up}
use Rattle.tables.proofs.fill.fill_rows.Goals as goal

pub loop-i-init : goal.loop-i-init
loop-i-init c = turning_start c.args.days.now c.args.count c.args.nodes.now c.requires.2

pub overflow_mul-i : goal.overflow_mul-i
overflow_mul-i c = omega (arith, c.requires.0)

pub fill_row-requires : goal.fill_row-requires
fill_row-requires c =
    let a = c.args in
    (turning_room a.days.now a.count a.nodes.now c.requires.0 c.loop-i.i c.loop-i.nodes c.loop-i.invariant (omega arith), c.requires.1)

pub next_plan-i-requires : goal.next_plan-i-requires
next_plan-i-requires c =
    let a = c.args in
    let h = subst (RowIs a.days.now (5 * c.loop-i.i) c.loop-i.nodes c.fill_row.new.nodes) c.in_ok-fill_row.was c.fill_row.ensures in
    let n = turning_step a.days.now a.count a.nodes.now c.requires.0 c.loop-i.i c.loop-i.nodes c.loop-i.invariant (omega arith) c.fill_row.new.nodes h in
    (n.0, omega (arith, n.1, c.requires.0, c.fill_row.auto.nodes, c.loop-i.invariant.done.size))

pub loop-i-smaller : goal.loop-i-smaller
loop-i-smaller c =
    let a = c.args in
    let h = subst (RowIs a.days.now (5 * c.loop-i.i) c.loop-i.nodes c.fill_row.new.nodes) c.in_ok-fill_row.was c.fill_row.ensures in
    let n = turning_step a.days.now a.count a.nodes.now c.requires.0 c.loop-i.i c.loop-i.nodes c.loop-i.invariant (omega arith) c.fill_row.new.nodes h in
    omega (arith, n.0, n.1, c.next_plan-i.ensures)

pub loop-i-preserved : goal.loop-i-preserved
loop-i-preserved c =
    let a = c.args in
    let h = subst (RowIs a.days.now (5 * c.loop-i.i) c.loop-i.nodes c.fill_row.new.nodes) c.in_ok-fill_row.was c.fill_row.ensures in
    turning_next a.days.now a.count a.nodes.now c.requires.0 c.loop-i.i c.loop-i.nodes c.loop-i.invariant (omega arith) c.fill_row.new.nodes h c.next_plan-i.result c.next_plan-i.ensures

pub shape_of-nodes-in_err-fill_row : goal.shape_of-nodes-in_err-fill_row
shape_of-nodes-in_err-fill_row c = c.fill_row.auto.nodes ∙ c.loop-i.invariant.done.size

pub returns-in_err-fill_row : goal.returns-in_err-fill_row
returns-in_err-fill_row c =
    let a = c.args in
    let h = subst (RowIs a.days.now (5 * c.loop-i.i) c.loop-i.nodes c.fill_row.new.nodes) c.in_err-fill_row.was c.fill_row.ensures in
    subst (FillIs a.days.now a.count a.nodes.now c.fill_row.new.nodes) (sym (handed_up _ c.from_residual.ensures.1)) (passing_stop (fill_row a.days.now) (row_set a.days.now) a.count a.nodes.now c.requires.0 c.loop-i.invariant.done (omega arith) h)

pub shape_of-nodes : goal.shape_of-nodes
shape_of-nodes c = c.loop-i.invariant.done.size

pub returns : goal.returns
returns c =
    let a = c.args in
    passing_end (fill_row a.days.now) (row_set a.days.now) a.count a.nodes.now c.requires.0 c.loop-i.invariant.done (omega arith)
