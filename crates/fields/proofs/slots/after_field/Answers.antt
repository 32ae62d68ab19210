use mir.Syntax.{w64}
use mir.ValLaws.{to_z-of_z}
use native.Mathlib.Omega.{arith}
use Rattle.fields.proofs.FieldLaws.{bad_first, bad_later, four_field}
use Rattle.fields.proofs.slots.after_field.Goals as goal

pub returns-in_err-a : goal.returns-in_err-a
returns-in_err-a c = rw c.from_residual.ensures (bad_first c.args.text.now c.args.at _ _ c.in_err-a.ensures)

pub returns-in_err-two : goal.returns-in_err-two
returns-in_err-two c = rw c.from_residual-in_err-two.ensures (bad_later c.args.text.now c.args.at _ _ _ _ c.in_ok-a.ensures c.in_err-two.ensures)

pub returns : goal.returns
returns c =
    four_field c.args.text.now c.args.at _ _ _ _ _ _ _ c.in_ok-a.ensures c.in_ok-two.ensures _ _ _
    (to_z-of_z w64 c.in_ok-a.a.value (record { sfits = omega arith }))
    (to_z-of_z w64 c.in_ok-two.two.a (record { sfits = omega arith }))
    (to_z-of_z w64 c.in_ok-two.two.b (record { sfits = omega arith }))
