use mir.Syntax.{w64}
use mir.ValLaws.{to_z-of_z}
use native.Mathlib.Omega.{arith}
use Rattle.language.specs.Text.Letters.{month}
use Rattle.fields.proofs.FieldLaws.{bad_first, bad_later, four_month}
use Rattle.fields.proofs.slots.month_first.Goals as goal

pub returns-in_err-two : goal.returns-in_err-two
returns-in_err-two c = rw c.from_residual.ensures (bad_first c.args.text.now c.args.at month _ c.in_err-two.ensures)

pub returns-in_err-other : goal.returns-in_err-other
returns-in_err-other c =
    rw c.from_residual-in_err-other.ensures (bad_later c.args.text.now c.args.at month _ _ _ c.in_ok-two.ensures c.in_err-other.ensures)

pub returns : goal.returns
returns c =
    four_month c.args.text.now c.args.at _ _ _ _ _ _ _ c.in_ok-two.ensures c.in_ok-other.ensures _ _ _ _
    (to_z-of_z w64 c.in_ok-two.two.a (record { sfits = omega arith }))
    (to_z-of_z w64 c.in_ok-two.two.b (record { sfits = omega arith }))
    (to_z-of_z w64 c.in_ok-other.other.a (record { sfits = omega arith }))
    (to_z-of_z w64 c.in_ok-other.other.b (record { sfits = omega arith }))
