use Rattle.fields.specs.declared.field.Class.TheVariants.{Party}
use Rattle.std.proofs.Common.{None, Some}
use mathlib.Core.Path.{refl, sym}
use native.Mathlib.Omega.{arith}
use Rattle.fields.specs.Classes.{class_of}
use Rattle.fields.specs.Fields.{classes_of_three, classes_of_two}
use Rattle.language.specs.Text.Letters.{plan_form}
use Rattle.text.proofs.QuickLaws.{common_shape, filled_opens, transfer_shape}
use Rattle.text.proofs.edges.last_transfer.Goals as goal

pub returns-then-text-at-eq44 : goal.returns-then-text-at-eq44
unfolding classes_of_three classes_of_two class_of
returns-then-text-at-eq44 c =
    let a = c.args in
    filled_opens a.text.now a.at a.kind (omega arith) c.if-text-at-eq44.true plan_form a.nodes.now c.fill_row.new.nodes a.count 84 c.if-text-at-eq84.true (λ z. omega arith)
    (common_shape 1 (Some Party) (Some Party) None 0) transfer_shape (λ z. omega arith) (sym c.if-kind-eq-ROOT.true) 0 refl refl c.last_digits.result c.last_digits.ensures c.fill_row.result c.fill_row.ensures
