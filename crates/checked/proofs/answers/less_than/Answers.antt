use mathlib.Core.Path.{◌∙◌, ap, sym}
use Rattle.integers.proofs.Passed.{handed_up}
use Rattle.checked.proofs.Combined.{both_got, first_refused, second_refused}
use Rattle.checked.specs.Answers.{tested_answer, valued_answer}
use Rattle.language.specs.Answer.{got}
use Rattle.std.specs.Int.Signed.{lt_z}
use Rattle.checked.proofs.answers.less_than.Goals as goal

pub returns-in_err-p : goal.returns-in_err-p
returns-in_err-p c = ap tested_answer (handed_up _ c.from_residual.ensures.1) ∙ sym (first_refused (λ a b. got (lt_z a b)) _ (ap valued_answer c.in_err-p.was))

pub returns-in_err-q : goal.returns-in_err-q
returns-in_err-q c = ap tested_answer (handed_up _ c.from_residual-in_err-q.ensures.1) ∙ sym (second_refused (λ a b. got (lt_z a b)) (ap valued_answer c.in_ok-p.was) (ap valued_answer c.in_err-q.was))

pub returns : goal.returns
returns c = ap got c.less.ensures ∙ sym (both_got (λ a b. got (lt_z a b)) (ap valued_answer c.in_ok-p.was) (ap valued_answer c.in_ok-q.was))
