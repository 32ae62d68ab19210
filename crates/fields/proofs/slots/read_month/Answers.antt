use lib.ListN.{drop}
use mathlib.Core.Path.{◌∙◌, ap}
use mir.Syntax.{w64}
use mir.Val.{SFits}
use mir.ValLaws.{to_z-of_z}
use native.Mathlib.Omega.{arith}
use Rattle.language.specs.Text.Letters.{month}
use Rattle.fields.specs.Settings.{settings_from}
use Rattle.fields.proofs.FieldLaws.{failed_at, failed_behind, taken_at}
use Rattle.fields.proofs.MonthLaws.{later_is, month_held, month_length, month_number_fails, month_row_fails}
use Rattle.fields.proofs.Positions.{up_fits}
use Rattle.fields.proofs.slots.read_month.Goals as goal

pub returns-then-text-at : goal.returns-then-text-at
returns-then-text-at c = let a = c.args in let t = a.text.now in failed_behind month t a.at c.if-text-at.true

pub returns-in_err-a : goal.returns-in_err-a
returns-in_err-a c =
    let a = c.args in
    let t = a.text.now in
    rw c.from_residual.ensures (failed_at month t a.at c.if-text-at.false (month_number_fails (drop a.at t) (c.in_err-a.ensures _ _ c.read_number.ensures)))

pub quick_settings-requires : goal.quick_settings-requires
quick_settings-requires c =
    let w = c.in_ok-a.ensures _ _ c.read_number.ensures in
    omega (arith, w.ends, up_fits 43 c.args.text.now c.args.at c.if-text-at.false)

pub returns-in_err-b : goal.returns-in_err-b
returns-in_err-b c =
    let a = c.args in
    let t = a.text.now in
    let w = c.in_ok-a.ensures _ _ c.read_number.ensures in
    let q = later_is t a.at _ w.ends in
    rw c.from_residual-in_err-b.ensures (failed_at month t a.at c.if-text-at.false (month_row_fails (drop a.at t)
    c.in_ok-a.a.value w.is (ap (settings_from 0 0 0) q ∙ c.in_err-b.ensures)))

pub returns : goal.returns
returns c =
    let a = c.args in
    let t = a.text.now in
    let w = c.in_ok-a.ensures _ _ c.read_number.ensures in
    let s = c.in_ok-b.ensures in
    let x = c.in_ok-a.a.value in
    let y = c.in_ok-b.b.value in
    let fx : SFits w64 x = record { sfits = omega arith } in
    let fy : SFits w64 y = record { sfits = omega arith } in
    let q = later_is t a.at _ w.ends in
    let held = month_held (drop a.at t) x s.slot w.is (ap (settings_from 0 0 0) q ∙ s.is) in
    taken_at month t a.at _ _ c.if-text-at.false (omega (arith, s.ends, month_length t a.at _ w.ends)) (rw (to_z-of_z w64 x fx, to_z-of_z w64 y fy, s.value) held)
