use lib.IntN.{◌*ℤ◌}
use mathlib.Core.Path.{◌∙◌, ap, sym}
use Rattle.checked.proofs.Combined.{both_got, first_refused, second_refused}
use Rattle.std.proofs.lemmas.Result.{err_from_is_err_and}
use Rattle.language.specs.Answer.{refused}
use Rattle.checked.specs.Answers.{valued_answer}
use Rattle.integers.proofs.Passed.{handed_up}
use Rattle.language.specs.Limits.{max_value}
use Rattle.language.specs.Payoff.Evaluate.{in_range}
use Rattle.worths.proofs.Bounds.{value_within_lem}
use Rattle.worths.specs.Answers.{value_answer, worth_answer}
use Rattle.worths.proofs.answers.scaled.Goals as goal

pub returns-in_err-p : goal.returns-in_err-p
returns-in_err-p c =
    let k = err_from_is_err_and c.from_residual.result c.from_residual.ensures.1 in
    ap worth_answer k.1 ∙ ap refused k.2 ∙ sym (first_refused (λ y z. in_range max_value (y *ℤ z)) _ (ap valued_answer c.in_err-p.was))

pub returns-in_err-v : goal.returns-in_err-v
returns-in_err-v c = ap worth_answer (handed_up _ c.from_residual-in_err-v.ensures.1) ∙ sym (second_refused (λ y z. in_range max_value (y *ℤ z)) (ap valued_answer c.in_ok-p.was) (ap worth_answer c.in_err-v.was))

pub returns : goal.returns
returns c = c.value_of.ensures ∙ ap value_answer c.value_scaled.ensures ∙ value_within_lem _ ∙ sym (both_got (λ y z. in_range max_value (y *ℤ z)) (ap valued_answer c.in_ok-p.was) (ap worth_answer c.in_ok-v.was))
