use Rattle.fields.specs.declared.field.Class.TheVariants.{Delay, FromNode, Label, Party}
use Rattle.std.proofs.Common.{None, Some}
use mathlib.Core.Path.{refl, sym}
use native.Mathlib.Omega.{arith}
use Rattle.fields.specs.Classes.{class_of}
use Rattle.fields.specs.Fields.{classes_of_three, classes_of_two}
use Rattle.language.specs.Text.Letters.{plan_form}
use Rattle.text.proofs.QuickLaws.{common_shape, delay_shape, filled_opens, index_shape, transfer_shape}
use Rattle.text.proofs.quick.plan_row.Goals as goal

pub returns-in-79 : goal.returns-in-79
unfolding classes_of_three classes_of_two class_of
returns-in-79 c =
    let a = c.args in
    filled_opens a.text.now a.at a.kind (omega (arith, c.requires.0)) c.requires.1 plan_form a.nodes.now c.fill_row.new.nodes a.count 79 c.in-79.is (λ z. omega arith)
    (common_shape 2 (Some Label) (Some FromNode) None 0) index_shape (λ z. omega arith) (sym c.if-kind-eq-AMOUNT.true) 0 refl refl c.two_digits-slots.result c.two_digits-slots.ensures c.fill_row.result c.fill_row.ensures

pub returns-in-84 : goal.returns-in-84
unfolding classes_of_three classes_of_two class_of
returns-in-84 c =
    let a = c.args in
    filled_opens a.text.now a.at a.kind (omega (arith, c.requires.0)) c.requires.1 plan_form a.nodes.now c.fill_row-in-84.new.nodes a.count 84 c.in-84.is (λ z. omega arith)
    (common_shape 1 (Some Party) (Some Party) None 0) transfer_shape (λ z. omega arith) (sym c.if-kind-eq-ROOT.true) 0 refl refl c.two_digits-slots-in-84.result c.two_digits-slots-in-84.ensures c.fill_row-in-84.result c.fill_row-in-84.ensures

pub returns-in-76 : goal.returns-in-76
unfolding classes_of_three classes_of_two class_of
returns-in-76 c =
    let a = c.args in
    filled_opens a.text.now a.at a.kind (omega (arith, c.requires.0)) c.requires.1 plan_form a.nodes.now c.fill_row-in-76.new.nodes a.count 76 c.in-76.is (λ z. omega arith)
    (common_shape 1 (Some Delay) None None 1) delay_shape (λ z. omega arith) (sym c.if-kind-eq-ROOT-2.true) 1 refl refl c.quick_delay.result c.quick_delay.ensures c.fill_row-in-76.result c.fill_row-in-76.ensures
