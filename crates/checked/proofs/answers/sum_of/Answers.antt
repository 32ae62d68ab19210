use mathlib.Core.Path.{◌∙◌, ap, sym}
use Rattle.integers.proofs.Passed.{handed_up}
use Rattle.checked.proofs.Combined.{amount_within_lem, both_got, first_refused, second_refused}
use Rattle.checked.specs.Answers.{amount_answer, valued_answer}
use Rattle.language.specs.Limits.{max_amount}
use Rattle.language.specs.Payoff.Evaluate.{in_range}
use lib.IntN.{◌+ℤ◌}
use Rattle.checked.proofs.answers.sum_of.Goals as goal

pub returns-in_err-p : goal.returns-in_err-p
returns-in_err-p c = ap valued_answer (handed_up _ c.from_residual.ensures.1) ∙ sym (first_refused (λ a b. in_range max_amount (a +ℤ b)) _ (ap valued_answer c.in_err-p.was))

pub returns-in_err-q : goal.returns-in_err-q
returns-in_err-q c = ap valued_answer (handed_up _ c.from_residual-in_err-q.ensures.1) ∙ sym (second_refused (λ a b. in_range max_amount (a +ℤ b)) (ap valued_answer c.in_ok-p.was) (ap valued_answer c.in_err-q.was))

pub returns : goal.returns
returns c = c.amount_of.ensures ∙ ap amount_answer c.sum.ensures ∙ amount_within_lem _ ∙ sym (both_got (λ a b. in_range max_amount (a +ℤ b)) (ap valued_answer c.in_ok-p.was) (ap valued_answer c.in_ok-q.was))
