use mathlib.Core.List.{List}
use mathlib.Core.Path.{◌∙◌, ap, subst, sym}
use Rattle.language.specs.Text.Letters.{Class}
use Rattle.fields.specs.declared.field.Class as coded
use Rattle.fields.specs.Fields.{SlotsAre, classes_of_three}
use Rattle.fields.proofs.FieldLaws.{four_none, three_field, three_month}
use Rattle.std.proofs.Common.{Option}
use Rattle.fields.proofs.slots.read_fields.Goals as goal

pub returns-in_default : goal.returns-in_default
returns-in_default c =
    let a = c.args in
    four_none a.text.now a.at a.first a.second a.third c.in_default.is c.requires

pub returns-in-Month : goal.returns-in-Month
returns-in-Month c =
    let a = c.args in
    subst (λ (ks : List Class). SlotsAre ks a.text.now a.at c.month_first.result)
    (sym (ap (λ (f : Option coded.Class). classes_of_three f a.second a.third) c.in-Some.is ∙ three_month a.text.now a.at c.in-Some.class a.second a.third c.in-Month.is)) c.month_first.ensures

pub returns : goal.returns
returns c =
    let a = c.args in
    subst (λ (ks : List Class). SlotsAre ks a.text.now a.at c.after_field.result)
    (sym (ap (λ (f : Option coded.Class). classes_of_three f a.second a.third) c.in-Some.is ∙ three_field a.text.now a.at c.in-Some.class a.second a.third c.in_default-class.not-Month)) c.after_field.ensures
