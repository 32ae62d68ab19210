use Prim.Native.Nat.{◌+◌, ℕ}
use lib.IntN.{pos}
use mathlib.Core.List.{[], ◌∷◌}
use mathlib.Core.Path.{◌∙◌, ◌≡◌, refl, subst}
use mir.Syntax.{w64}
use mir.ValLaws.{to_z-of_z}
use native.Mathlib.Omega.{arith}
use Rattle.language.specs.Text.Letters.{month}
use Rattle.fields.specs.Classes.{class_of}
use Rattle.fields.specs.declared.field.Class.TheVariants.{Party}
use Rattle.std.proofs.Common.{Some}
use Rattle.fields.specs.Fields.{classes_of_two, Taken}
use Rattle.fields.proofs.FieldLaws.{four_month, party_alone, two_two}
use Rattle.fields.proofs.slots.transfer_digits.Goals as goal

pub returns : goal.returns
unfolding class_of classes_of_two
returns c =
    let a = c.args in
    let t = a.text.now in
    let k = c.in_ok-a.ensures in
    let m = c.in_ok-c.ensures in
    let n = c.in_ok-d.ensures in
    let four : a.at + 2 + 2 ≡ a.at + 4 = omega arith in
    let first = subst (λ (i : ℕ). Taken month t a.at (c.in_ok-a.a.value ∷ pos 0 ∷ []) i) k.1 k.0 in
    let second = subst (λ (i : ℕ). Taken (class_of Party) t (a.at + 2) (c.in_ok-c.c.value ∷ []) i) (m.1 ∙ four) m.0 in
    four_month t a.at _ _ _ _ _ _ _ first (two_two t (a.at + 2) Party (Some Party) party_alone _ _ second Party _ _ n.0 _ _ refl refl refl) _ _ _ _
    (to_z-of_z w64 c.in_ok-a.a.value (record { sfits = omega arith })) refl
    (to_z-of_z w64 c.in_ok-c.c.value (record { sfits = omega arith }))
    (to_z-of_z w64 c.in_ok-d.d.value (record { sfits = omega arith }))
