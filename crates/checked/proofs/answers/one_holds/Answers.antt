use mathlib.Core.Path.{◌∙◌, ap, sym}
use Rattle.integers.proofs.Passed.{handed_up}
use Rattle.checked.proofs.Combined.{both_got, first_refused, second_refused}
use Rattle.checked.specs.Answers.{tested_answer}
use Rattle.language.specs.Answer.{got}
use mathlib.Core.Bool.{◌||◌}
use Rattle.checked.proofs.answers.one_holds.Goals as goal

pub returns-in_err-s : goal.returns-in_err-s
returns-in_err-s c = ap tested_answer (handed_up _ c.from_residual.ensures.1) ∙ sym (first_refused (λ a b. got (a || b)) _ (ap tested_answer c.in_err-s.was))

pub returns-in_err-t : goal.returns-in_err-t
returns-in_err-t c = ap tested_answer (handed_up _ c.from_residual-in_err-t.ensures.1) ∙ sym (second_refused (λ a b. got (a || b)) (ap tested_answer c.in_ok-s.was) (ap tested_answer c.in_err-t.was))

pub returns : goal.returns
returns c = sym (both_got (λ a b. got (a || b)) (ap tested_answer c.in_ok-s.was) (ap tested_answer c.in_ok-t.was))
