use lib.IntN.{◌+ℤ◌}
use mathlib.Core.Path.{◌∙◌, ap, sym}
use Rattle.checked.proofs.Combined.{both_got, first_refused, second_refused}
use Rattle.integers.proofs.Passed.{handed_up}
use Rattle.language.specs.Limits.{max_value}
use Rattle.language.specs.Payoff.Evaluate.{in_range}
use Rattle.worths.proofs.Bounds.{value_within_lem}
use Rattle.worths.specs.Answers.{value_answer, worth_answer}
use Rattle.worths.proofs.answers.added.Goals as goal

pub returns-in_err-v : goal.returns-in_err-v
returns-in_err-v c = ap worth_answer (handed_up _ c.from_residual.ensures.1) ∙ sym (first_refused (λ a b. in_range max_value (a +ℤ b)) _ (ap worth_answer c.in_err-v.was))

pub returns-in_err-w : goal.returns-in_err-w
returns-in_err-w c = ap worth_answer (handed_up _ c.from_residual-in_err-w.ensures.1) ∙ sym (second_refused (λ a b. in_range max_value (a +ℤ b)) (ap worth_answer c.in_ok-v.was) (ap worth_answer c.in_err-w.was))

pub returns : goal.returns
returns c = c.value_of.ensures ∙ ap value_answer c.value_sum.ensures ∙ value_within_lem _ ∙ sym (both_got (λ a b. in_range max_value (a +ℤ b)) (ap worth_answer c.in_ok-v.was) (ap worth_answer c.in_ok-w.was))
