use Rattle.fields.specs.declared.field.Class.TheVariants.{Divisor, Figure}
use Rattle.std.proofs.Common.{None, Some}
use mathlib.Core.Path.{refl, subst, sym}
use native.Mathlib.Omega.{arith}
use Rattle.fields.specs.Classes.{class_of}
use Rattle.fields.specs.Fields.{classes_of_three, classes_of_two}
use Rattle.text.specs.Letters.{form_of, kind_at}
use Rattle.text.specs.Rows.{QuickIs}
use Rattle.text.specs.declared.letters.TextForm.{TextForm}
use Rattle.text.proofs.QuickLaws.{common_shape, filled_opens, number_shape, quotient_shape, wait_shape_lem, wait_shape}
use Rattle.text.proofs.quick.field_row.Goals as goal

pub returns-in-78 : goal.returns-in-78
unfolding classes_of_three classes_of_two class_of
returns-in-78 c =
    let a = c.args in
    filled_opens a.text.now a.at a.kind (omega (arith, c.requires.0)) c.requires.1 (form_of a.form) a.nodes.now c.fill_row.new.nodes a.count 78 c.in-78.is (λ z. omega arith)
    (common_shape 2 (Some Figure) None None 0) (number_shape a.form) (λ z. omega arith) (sym c.if-kind-eq-AMOUNT.true) 0 refl refl c.quick_figure.result c.quick_figure.ensures c.fill_row.result c.fill_row.ensures

pub returns-in-81 : goal.returns-in-81
unfolding classes_of_three classes_of_two class_of
returns-in-81 c =
    let a = c.args in
    filled_opens a.text.now a.at a.kind (omega (arith, c.requires.0)) c.requires.1 (form_of a.form) a.nodes.now c.fill_row-in-81.new.nodes a.count 81 c.in-81.is (λ z. omega arith)
    (common_shape 2 (Some Divisor) None None 2) (quotient_shape a.form) (λ z. omega arith) (sym c.if-kind-eq-AMOUNT-2.true) 2 refl refl c.quick_divisor.result c.quick_divisor.ensures c.fill_row-in-81.result c.fill_row-in-81.ensures

pub returns-in-87 : goal.returns-in-87
unfolding classes_of_three classes_of_two class_of
returns-in-87 c =
    let a = c.args in
    filled_opens a.text.now a.at a.kind (omega (arith, c.requires.0)) c.requires.1 (form_of a.form) a.nodes.now c.fill_row-in-87.new.nodes a.count 87 c.in-87.is (λ z. omega arith)
    wait_shape (wait_shape_lem a.form) (λ z. omega arith) (sym c.if-kind-eq-ROOT.true) 23 refl refl c.quick_delay.result c.quick_delay.ensures c.fill_row-in-87.result c.fill_row-in-87.ensures

pub returns-in-Plan : goal.returns-in-Plan
returns-in-Plan c =
    let a = c.args in
    subst (λ (f : TextForm). QuickIs (form_of f) (kind_at a.kind) a.text.now a.at a.nodes.now c.plan_row.new.nodes a.count c.plan_row.result) (sym c.in-Plan.is) c.plan_row.ensures

pub returns-in-Payoff : goal.returns-in-Payoff
returns-in-Payoff c =
    let a = c.args in
    subst (λ (f : TextForm). QuickIs (form_of f) (kind_at a.kind) a.text.now a.at a.nodes.now c.payoff_row.new.nodes a.count c.payoff_row.result) (sym c.in-Payoff.is) c.payoff_row.ensures
