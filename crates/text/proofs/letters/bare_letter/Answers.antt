use mathlib.Core.Path.{refl}
use Rattle.language.specs.Text.Letters.{amount_row, letter_among, payoff_row, plan_row, row_of, test_row}
use Rattle.text.specs.Letters.{kind_at, kinds}
use Rattle.text.proofs.LetterLaws.{bare_row}
use Rattle.text.proofs.letters.bare_letter.Goals as goal

pub returns-in-83 : goal.returns-in-83
unfolding letter_among row_of plan_row payoff_row amount_row test_row kinds kind_at
returns-in-83 c = bare_row c.args.letter 83 25 c.in-83.is refl refl refl

pub returns-in-66 : goal.returns-in-66
unfolding letter_among row_of plan_row payoff_row amount_row test_row kinds kind_at
returns-in-66 c = bare_row c.args.letter 66 21 c.in-66.is refl refl refl

pub returns-in-65 : goal.returns-in-65
unfolding letter_among row_of plan_row payoff_row amount_row test_row kinds kind_at
returns-in-65 c = bare_row c.args.letter 65 42 c.in-65.is refl refl refl

pub returns-in-85 : goal.returns-in-85
unfolding letter_among row_of plan_row payoff_row amount_row test_row kinds kind_at
returns-in-85 c = bare_row c.args.letter 85 42 c.in-85.is refl refl refl

pub returns-in-75 : goal.returns-in-75
unfolding letter_among row_of plan_row payoff_row amount_row test_row kinds kind_at
returns-in-75 c = bare_row c.args.letter 75 42 c.in-75.is refl refl refl

pub returns-in-71 : goal.returns-in-71
unfolding letter_among row_of plan_row payoff_row amount_row test_row kinds kind_at
returns-in-71 c = bare_row c.args.letter 71 43 c.in-71.is refl refl refl

pub returns-in-69 : goal.returns-in-69
unfolding letter_among row_of plan_row payoff_row amount_row test_row kinds kind_at
returns-in-69 c = bare_row c.args.letter 69 43 c.in-69.is refl refl refl

pub returns-in-89 : goal.returns-in-89
unfolding letter_among row_of plan_row payoff_row amount_row test_row kinds kind_at
returns-in-89 c = bare_row c.args.letter 89 63 c.in-89.is refl refl refl

pub returns-in-86 : goal.returns-in-86
unfolding letter_among row_of plan_row payoff_row amount_row test_row kinds kind_at
returns-in-86 c = bare_row c.args.letter 86 63 c.in-86.is refl refl refl

pub returns-in-90 : goal.returns-in-90
unfolding letter_among row_of plan_row payoff_row amount_row test_row kinds kind_at
returns-in-90 c = bare_row c.args.letter 90 1 c.in-90.is refl refl refl

pub returns-in-73 : goal.returns-in-73
unfolding letter_among row_of plan_row payoff_row amount_row test_row kinds kind_at
returns-in-73 c = bare_row c.args.letter 73 174 c.in-73.is refl refl refl

pub returns-in-82 : goal.returns-in-82
unfolding letter_among row_of plan_row payoff_row amount_row test_row kinds kind_at
returns-in-82 c = bare_row c.args.letter 82 15 c.in-82.is refl refl refl
