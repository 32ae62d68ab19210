use mir.Syntax.{w64}
use mir.ValLaws.{to_z-of_z}
use native.Mathlib.Omega.{arith}
use Rattle.fields.proofs.FieldLaws.{tried_alone, tried_first}
use Rattle.fields.proofs.slots.two_digits.Goals as goal

pub returns : goal.returns
returns c =
    let a = c.args in
    tried_first a.text.now a.at _ _ _ c.in_ok-a.was _ _ c.one_digit.ensures _ _ (tried_alone _ _ _ _ _ c.in_ok-b.was _ c.one_digit-2.ensures)
    _ _ (to_z-of_z w64 c.in_ok-a.a.value (record { sfits = omega arith })) (to_z-of_z w64 c.in_ok-b.b.value (record { sfits = omega arith }))
