use mathlib.Core.Path.{refl}
use borrow.Author.Tests.{ne_eqb}
use native.Mathlib.Omega.{arith}
use Rattle.fields.specs.Classes.{class_of}
use Rattle.fields.specs.Fields.{classes_of_three, classes_of_two}
use Rattle.language.specs.Text.Letters.{AmountLetter, PayoffLetter, TestLetter, amount_row, letter_among, of_amount, of_root, of_test, payoff_form, payoff_row, row_of, test_row}
use Rattle.text.specs.Letters.{kind_at, kinds}
use Rattle.text.proofs.LetterLaws.{known, unknown}
use Rattle.text.proofs.letters.payoff_shape.Goals as goal

pub returns-in_default : goal.returns-in_default
unfolding letter_among row_of payoff_row amount_row test_row classes_of_three classes_of_two class_of kinds kind_at
returns-in_default c =
    unknown payoff_form c.args.letter c.leaf-in_default.result _ c.leaf-in_default.ensures (simp (
      ne_eqb c.args.letter 90 (λ e. omega arith),
      ne_eqb c.args.letter 70 (λ e. omega arith),
      ne_eqb c.args.letter 72 (λ e. omega arith),
      ne_eqb c.args.letter 83 (λ e. omega arith),
      ne_eqb c.args.letter 66 (λ e. omega arith),
      ne_eqb c.args.letter 87 (λ e. omega arith),
      ne_eqb c.args.letter 78 (λ e. omega arith),
      ne_eqb c.args.letter 79 (λ e. omega arith),
      ne_eqb c.args.letter 65 (λ e. omega arith),
      ne_eqb c.args.letter 85 (λ e. omega arith),
      ne_eqb c.args.letter 75 (λ e. omega arith),
      ne_eqb c.args.letter 81 (λ e. omega arith),
      ne_eqb c.args.letter 73 (λ e. omega arith),
      ne_eqb c.args.letter 71 (λ e. omega arith),
      ne_eqb c.args.letter 69 (λ e. omega arith),
      ne_eqb c.args.letter 89 (λ e. omega arith),
      ne_eqb c.args.letter 86 (λ e. omega arith),
      ne_eqb c.args.letter 82 (λ e. omega arith),
    )) refl

pub returns-in-90 : goal.returns-in-90
unfolding letter_among row_of payoff_row classes_of_three kinds
returns-in-90 c = known payoff_form _ _ _ 90 (of_root PayoffLetter.Z) c.in-90.is c.leaf.ensures refl refl refl refl refl refl

pub returns-in-70 : goal.returns-in-70
unfolding letter_among row_of payoff_row classes_of_three classes_of_two class_of kinds
returns-in-70 c = known payoff_form _ _ _ 70 (of_root PayoffLetter.F) c.in-70.is c.leaf-in-70.ensures refl refl refl refl refl refl

pub returns-in-72 : goal.returns-in-72
unfolding letter_among row_of payoff_row classes_of_three classes_of_two class_of kinds
returns-in-72 c = known payoff_form _ _ _ 72 (of_root PayoffLetter.H) c.in-72.is c.leaf-in-72.ensures refl refl refl refl refl refl

pub returns-in-83 : goal.returns-in-83
unfolding letter_among row_of payoff_row classes_of_three kinds kind_at
returns-in-83 c = known payoff_form _ _ _ 83 (of_root PayoffLetter.S) c.in-83.is c.over.ensures refl refl refl refl refl refl

pub returns-in-66 : goal.returns-in-66
unfolding letter_among row_of payoff_row classes_of_three kinds kind_at
returns-in-66 c = known payoff_form _ _ _ 66 (of_root PayoffLetter.B) c.in-66.is c.over-in-66.ensures refl refl refl refl refl refl

pub returns-in-87 : goal.returns-in-87
unfolding letter_among row_of payoff_row classes_of_three class_of classes_of_two kinds kind_at
returns-in-87 c = known payoff_form _ _ _ 87 (of_root PayoffLetter.W) c.in-87.is c.over-in-87.ensures refl refl refl refl refl refl

pub returns-in-78 : goal.returns-in-78
unfolding letter_among row_of payoff_row amount_row classes_of_three class_of classes_of_two kinds
returns-in-78 c = known payoff_form _ _ _ 78 (of_amount AmountLetter.N) c.in-78.is c.leaf-in-78.ensures refl refl refl refl refl refl

pub returns-in-79 : goal.returns-in-79
unfolding letter_among row_of payoff_row amount_row classes_of_three class_of classes_of_two kinds
returns-in-79 c = known payoff_form _ _ _ 79 (of_amount AmountLetter.O) c.in-79.is c.leaf-in-79.ensures refl refl refl refl refl refl

pub returns-in-65 : goal.returns-in-65
unfolding letter_among row_of payoff_row amount_row classes_of_three kinds kind_at
returns-in-65 c = known payoff_form _ _ _ 65 (of_amount AmountLetter.A) c.in-65.is c.over-in-65.ensures refl refl refl refl refl refl

pub returns-in-85 : goal.returns-in-85
unfolding letter_among row_of payoff_row amount_row classes_of_three kinds kind_at
returns-in-85 c = known payoff_form _ _ _ 85 (of_amount AmountLetter.U) c.in-85.is c.over-in-85.ensures refl refl refl refl refl refl

pub returns-in-75 : goal.returns-in-75
unfolding letter_among row_of payoff_row amount_row classes_of_three kinds kind_at
returns-in-75 c = known payoff_form _ _ _ 75 (of_amount AmountLetter.K) c.in-75.is c.over-in-75.ensures refl refl refl refl refl refl

pub returns-in-81 : goal.returns-in-81
unfolding letter_among row_of payoff_row amount_row classes_of_three class_of classes_of_two kinds kind_at
returns-in-81 c = known payoff_form _ _ _ 81 (of_amount AmountLetter.Q) c.in-81.is c.over-in-81.ensures refl refl refl refl refl refl

pub returns-in-73 : goal.returns-in-73
unfolding letter_among row_of payoff_row amount_row classes_of_three kinds kind_at
returns-in-73 c = known payoff_form _ _ _ 73 (of_amount AmountLetter.I) c.in-73.is c.over-in-73.ensures refl refl refl refl refl refl

pub returns-in-71 : goal.returns-in-71
unfolding letter_among row_of payoff_row amount_row test_row classes_of_three kinds kind_at
returns-in-71 c = known payoff_form _ _ _ 71 (of_test TestLetter.G) c.in-71.is c.over-in-71.ensures refl refl refl refl refl refl

pub returns-in-69 : goal.returns-in-69
unfolding letter_among row_of payoff_row amount_row test_row classes_of_three kinds kind_at
returns-in-69 c = known payoff_form _ _ _ 69 (of_test TestLetter.E) c.in-69.is c.over-in-69.ensures refl refl refl refl refl refl

pub returns-in-89 : goal.returns-in-89
unfolding letter_among row_of payoff_row amount_row test_row classes_of_three kinds kind_at
returns-in-89 c = known payoff_form _ _ _ 89 (of_test TestLetter.Y) c.in-89.is c.over-in-89.ensures refl refl refl refl refl refl

pub returns-in-86 : goal.returns-in-86
unfolding letter_among row_of payoff_row amount_row test_row classes_of_three kinds kind_at
returns-in-86 c = known payoff_form _ _ _ 86 (of_test TestLetter.«V») c.in-86.is c.over-in-86.ensures refl refl refl refl refl refl

pub returns-in-82 : goal.returns-in-82
unfolding letter_among row_of payoff_row amount_row test_row classes_of_three kinds kind_at
returns-in-82 c = known payoff_form _ _ _ 82 (of_test TestLetter.R) c.in-82.is c.over-in-82.ensures refl refl refl refl refl refl
