use Rattle.fields.specs.declared.field.Class.TheVariants.{Label, Month, Party}
use Rattle.std.proofs.Common.{None, Some}
use mathlib.Core.Logic.{⊎_elim}
use mathlib.Core.Path.{refl, sym}
use native.Mathlib.Omega.{arith}
use Rattle.fields.specs.Classes.{class_of}
use Rattle.fields.specs.Fields.{classes_of_three, classes_of_two}
use Rattle.language.specs.Text.Letters.{payoff_form}
use Rattle.text.proofs.QuickLaws.{common_shape, cut_shape, filled_opens, future_shape, reading_shape}
use Rattle.text.proofs.quick.payoff_row.Goals as goal

pub returns-in-79 : goal.returns-in-79
unfolding classes_of_three classes_of_two class_of
returns-in-79 c =
    let a = c.args in
    filled_opens a.text.now a.at a.kind (omega (arith, c.requires.0)) c.requires.1 payoff_form a.nodes.now c.fill_row.new.nodes a.count 79 c.in-79.is (λ z. omega arith)
    (common_shape 2 (Some Label) (Some Month) None 0) reading_shape (λ z. omega arith) (sym c.if-kind-eq-AMOUNT.true) 0 refl refl c.quick_reading.result c.quick_reading.ensures c.fill_row.result c.fill_row.ensures

pub returns-in-70 : goal.returns-in-70
unfolding classes_of_three classes_of_two class_of
returns-in-70 c =
    let a = c.args in
    ⊎_elim (λ e. filled_opens a.text.now a.at a.kind (omega (arith, c.requires.0)) c.requires.1 payoff_form a.nodes.now c.fill_row-in-70.new.nodes a.count 70 e (λ z. omega arith)
    (common_shape 1 (Some Month) (Some Party) (Some Party) 0) future_shape (λ z. omega arith) (sym c.if-kind-eq-ROOT.true) 0 refl refl c.quick_transfer.result c.quick_transfer.ensures c.fill_row-in-70.result c.fill_row-in-70.ensures)
    (λ e. filled_opens a.text.now a.at a.kind (omega (arith, c.requires.0)) c.requires.1 payoff_form a.nodes.now c.fill_row-in-70.new.nodes a.count 72 e (λ z. omega arith)
    (common_shape 1 (Some Month) (Some Party) (Some Party) 0) cut_shape (λ z. omega arith) (sym c.if-kind-eq-ROOT.true) 0 refl refl c.quick_transfer.result c.quick_transfer.ensures c.fill_row-in-70.result c.fill_row-in-70.ensures)
    c.in-70.is
