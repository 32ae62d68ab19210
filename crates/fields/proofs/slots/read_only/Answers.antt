use mir.Syntax.{w64}
use mir.ValLaws.{to_z-of_z}
use native.Mathlib.Omega.{arith}
use Rattle.fields.proofs.FieldLaws.{bad_first, four_one}
use Rattle.fields.proofs.slots.read_only.Goals as goal

pub returns-in_err-a : goal.returns-in_err-a
returns-in_err-a c = rw c.from_residual.ensures (bad_first c.args.text.now c.args.at _ _ c.in_err-a.ensures)

pub returns : goal.returns
returns c = four_one c.args.text.now c.args.at _ _ _ c.in_ok-a.ensures _ (to_z-of_z w64 c.in_ok-a.a.value (record { sfits = omega arith }))
