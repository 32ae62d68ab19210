use Prim.Native.Nat.{◌*◌, ◌+◌}
use mathlib.Core.Path.{◌∙◌, ◌≡◌, subst, sym}
use native.Mathlib.Omega.{arith}
use Rattle.integers.proofs.Passed.{handed_up}
use Rattle.nodes.proofs.Passes.{passing_end, passing_next, passing_room, passing_start, passing_stop, row_size}
use Rattle.nodes.specs.Pass.{row_from}
use Rattle.settling.proofs.RowSettles.{next_passes, settle_keeps_size}
use Rattle.settling.specs.Settle.{RowIs, SettleIs, row_in, row_settled, settle_row}
use Rattle.settling.proofs.settle_rows.Goals as goal

pub loop-i-init : goal.loop-i-init
loop-i-init c =
    let a = c.args in
    (passing_start (settle_row a.days.now) (row_settled a.days.now) a.count a.nodes.now, passing_start (settle_row a.days.now) row_in a.count a.nodes.now)

pub settle_row-requires : goal.settle_row-requires
settle_row-requires c =
    let a = c.args in
    let i = c.loop-i.invariant in
    (passing_room (settle_row a.days.now) (row_settled a.days.now) a.count a.nodes.now c.requires.0 i.0 (omega arith), c.requires.1, next_passes (settle_row a.days.now) row_in a.count a.nodes.now c.requires.0 i.1 (omega arith) c.requires.2)

pub loop-i-preserved : goal.loop-i-preserved
loop-i-preserved c =
    let a = c.args in
    let i = c.loop-i.invariant in
    let room = passing_room (settle_row a.days.now) (row_settled a.days.now) a.count a.nodes.now c.requires.0 i.0 (omega arith) in
    let h = subst (RowIs a.days.now (5 * c.loop-i.i) c.loop-i.nodes c.settle_row.new.nodes) c.in_ok-settle_row.was c.settle_row.ensures in
    let five = settle_keeps_size a.days.now (row_from (5 * c.loop-i.i) c.loop-i.nodes) ∙ row_size (5 * c.loop-i.i) c.loop-i.nodes room in
    let next : 5 * (c.loop-i.i + 1) ≡ 5 * c.loop-i.i + 5 = omega arith in
    rw next (
      passing_next (settle_row a.days.now) (row_settled a.days.now) a.count a.nodes.now c.requires.0 i.0 (omega arith) five h.0 h.1,
      passing_next (settle_row a.days.now) row_in a.count a.nodes.now c.requires.0 i.1 (omega arith) five (next_passes (settle_row a.days.now) row_in a.count a.nodes.now c.requires.0 i.1 (omega arith) c.requires.2) h.1,
    )

pub shape_of-nodes-in_err-settle_row : goal.shape_of-nodes-in_err-settle_row
shape_of-nodes-in_err-settle_row c = c.settle_row.auto.nodes ∙ c.loop-i.invariant.0.size

pub returns-in_err-settle_row : goal.returns-in_err-settle_row
returns-in_err-settle_row c =
    let a = c.args in
    let i = c.loop-i.invariant in
    let h = subst (RowIs a.days.now (5 * c.loop-i.i) c.loop-i.nodes c.settle_row.new.nodes) c.in_err-settle_row.was c.settle_row.ensures in
    subst (SettleIs a.days.now a.count a.nodes.now c.settle_row.new.nodes) (sym (handed_up _ c.from_residual.ensures.1)) (passing_stop (settle_row a.days.now) (row_settled a.days.now) a.count a.nodes.now c.requires.0 i.0 (omega arith) h)

pub shape_of-nodes : goal.shape_of-nodes
shape_of-nodes c = c.loop-i.invariant.0.size

pub returns : goal.returns
returns c =
    let a = c.args in
    let i = c.loop-i.invariant in
    passing_end (settle_row a.days.now) (row_settled a.days.now) a.count a.nodes.now c.requires.0 i.0 (omega arith)
