use mathlib.Core.Path.{subst}
use mir.Syntax.{w64}
use mir.ValLaws.{to_z-of_z}
use native.Mathlib.Omega.{arith}
use Rattle.fields.specs.Classes.{class_of}
use Rattle.fields.specs.Fields.{TriedIs}
use Rattle.fields.proofs.FieldLaws.{are_tried, four_one}
use Rattle.fields.proofs.slots.quick_delay.Goals as goal

pub returns-in-Some : goal.returns-in-Some
unfolding class_of
returns-in-Some c =
    let a = c.args in
    let k = subst (TriedIs _ _ _) c.in-Some.is c.one_digit.ensures in
    four_one a.text.now a.at _ _ _ k.0 _ (to_z-of_z w64 c.in-Some.a.value (record { sfits = omega arith }))

pub returns-else-text-at-eq80 : goal.returns-else-text-at-eq80
unfolding class_of
returns-else-text-at-eq80 c = are_tried _ _ _ c.read_only.result c.read_only.ensures
