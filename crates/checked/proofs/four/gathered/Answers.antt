use borrow.Author.Rules.{rules}
use mathlib.Core.Path.{ap, sym}
use Rattle.amounts.proofs.FourMonths.{each}
use Rattle.amounts.specs.FourMonths.{pence_in}
use Rattle.checked.specs.Answers.{valued_answer}
use Rattle.checked.specs.FourMonths.{one_of}
use Rattle.checked.proofs.four.gathered.Goals as goal

pub returns-in_default : goal.returns-in_default
returns-in_default c = λ e. absurd (c.unsure.ensures e)

pub returns-in_default-y : goal.returns-in_default-y
returns-in_default-y c = λ e. absurd (c.unsure-in_default-y.ensures e)

pub returns-in_default-z : goal.returns-in_default-z
returns-in_default-z c = λ e. absurd (c.unsure-in_default-z.ensures e)

pub returns-in_default-u : goal.returns-in_default-u
returns-in_default-u c = λ e. absurd (c.unsure-in_default-u.ensures e)

pub returns : goal.returns
unfolding pence_in one_of
returns c = λ e. each _ (ap valued_answer (sym c.in-Ok.is)) (ap valued_answer (sym c.in-Ok-y.is)) (ap valued_answer (sym c.in-Ok-z.is)) (ap valued_answer (sym c.in-Ok-u.is))
