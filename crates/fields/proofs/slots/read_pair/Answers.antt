use mathlib.Core.List.{List}
use mathlib.Core.Path.{◌∙◌, ap, subst, sym}
use mir.Syntax.{w64}
use mir.ValLaws.{to_z-of_z}
use native.Mathlib.Omega.{arith}
use Rattle.language.specs.Text.Letters.{Class}
use Rattle.fields.specs.declared.field.Class as coded
use Rattle.fields.specs.Fields.{PairIs, classes_of_two}
use Rattle.fields.proofs.FieldLaws.{month_alone, two_first_bad, two_month, two_none, two_one, two_second_bad, two_two}
use Rattle.std.proofs.Common.{Option}
use Rattle.fields.proofs.slots.read_pair.Goals as goal

pub returns-in_default : goal.returns-in_default
returns-in_default c =
    let a = c.args in
    two_none a.text.now a.at a.first a.second c.in_default.is c.requires

pub returns-in-Month : goal.returns-in-Month
returns-in-Month c =
    let a = c.args in
    subst (λ (ks : List Class). PairIs ks a.text.now a.at c.read_month.result)
    (sym (ap (λ (f : Option coded.Class). classes_of_two f a.second) c.in-Some.is ∙ month_alone a.text.now a.at c.in-Some.class a.second c.in-Month.is))
    (two_month a.text.now a.at c.read_month.result c.read_month.ensures)

pub returns-in_err-a : goal.returns-in_err-a
returns-in_err-a c =
    let a = c.args in
    rw (c.from_residual.ensures, c.in-Some.is) (two_first_bad a.text.now a.at c.in-Some.class a.second c.in_default-class.not-Month c.in_err-a.ensures)

pub returns-in_default-second : goal.returns-in_default-second
returns-in_default-second c =
    let a = c.args in
    rw c.in-Some.is (two_one a.text.now a.at c.in-Some.class a.second c.in_default-class.not-Month _ _ c.in_ok-a.ensures _
    (to_z-of_z w64 c.in_ok-a.a.value (record { sfits = omega arith })) c.in_default-second.is)

pub returns-in_err-b : goal.returns-in_err-b
returns-in_err-b c =
    let a = c.args in
    rw (c.from_residual-in_err-b.ensures, c.in-Some.is) (two_second_bad a.text.now a.at c.in-Some.class a.second c.in_default-class.not-Month _ _
    c.in_ok-a.ensures c.in-Some-second.other c.in-Some-second.is c.in_err-b.ensures)

pub returns : goal.returns
returns c =
    let a = c.args in
    rw c.in-Some.is (two_two a.text.now a.at c.in-Some.class a.second c.in_default-class.not-Month _ _ c.in_ok-a.ensures c.in-Some-second.other _ _ c.in_ok-b.ensures _ _
    (to_z-of_z w64 c.in_ok-a.a.value (record { sfits = omega arith }))
    (to_z-of_z w64 c.in_ok-b.b.value (record { sfits = omega arith })) c.in-Some-second.is)
