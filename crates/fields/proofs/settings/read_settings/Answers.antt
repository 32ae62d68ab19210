use Prim.Native.Nat.{◌+◌}
use lib.ListN.{get_or}
use mathlib.Core.List.{[]}
use mathlib.Core.Path.{◌≡◌}
use mir.Syntax.{w64}
use mir.ValLaws.{to_z_pos}
use native.Mathlib.Omega.{arith}
use Rattle.fields.proofs.Positions.{up_comma, up_end}
use Rattle.fields.proofs.SettingLaws.{field_at, row_done, row_inside, row_last, row_next, row_other, row_outside}
use Rattle.fields.proofs.settings.read_settings.Goals as goal
use Rattle.fields.proofs.settings.read_settings.Goals.{else-loop-i-test, then-loop-i-test+then-from-ne20523, else-i-text-via-then-i-text+else-text-i-ne44, else-i-text-via-else-i-text}

pub returns-then-c-low : goal.returns-then-c-low
returns-then-c-low c =
    let l = c.loop-i in
    row_outside c.args.text.now c.args.at l.low l.acc l.i l.invariant.7 (omega arith)
    (omega (arith, c.type_inv.text l.i)) (omega arith) (omega arith) (omega arith) c.if-c-low.true

pub loop-i-preserved : goal.loop-i-preserved
loop-i-preserved c =
    let l = c.loop-i in
    let digit = row_inside (get_or c.args.text.now (l.i + 2) 0) l.low c.if-c-low.false in (
      omega arith,
      omega arith,
      omega arith,
      omega arith,
      omega arith,
      omega arith,
      omega (arith, c.weight-acc.ensures.small),
      row_next c.args.text.now c.args.at l.low l.acc l.i l.invariant.7 (omega arith)
          (omega (arith, c.type_inv.text l.i)) (omega arith) _ c.weight-acc.ensures.is (omega arith) (omega arith)
          (omega arith) (omega arith),
    )

pub returns-then-text-i-ne44 : goal.returns-then-text-i-ne44
returns-then-text-i-ne44 c =
    let l = c.loop-i in
    elim c.loop-i-test.branch [
      | else-loop-i-test w ↦ row_last c.args.text.now c.args.at l.low l.acc l.i l.invariant.7 (omega arith) c.if-text-i-ne44.true (omega arith)
      | then-loop-i-test+then-from-ne20523 w ↦ row_other c.args.text.now c.args.at l.low l.acc l.i l.invariant.7 (omega arith) c.if-text-i-ne44.true (omega arith) (λ e. w.if-from-ne20523.true (omega arith))
    ]

pub returns : goal.returns
returns c =
    let l = c.loop-i in
    let over : field_at c.args.text.now l.i ≡ [] = elim c.else-i-text.branch [
      | else-i-text-via-then-i-text+else-text-i-ne44 w ↦ up_comma 44 _ _ w.if-i-text.true w.if-text-i-ne44.false
      | else-i-text-via-else-i-text w ↦ up_end 44 _ _ w.if-i-text.false
    ] in
    row_done c.args.text.now c.args.at l.low l.acc l.i l.invariant.7 _ (to_z_pos w64 l.acc (omega arith)) over
