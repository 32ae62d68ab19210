use mathlib.Core.Path.{ap, subst}
use Rattle.checked.proofs.RowAnswers.{divided, undivided}
use Rattle.checked.specs.Answers.{SmallValued, valued_answer}
use borrow.Author.Rules.{rules}
use Rattle.checked.proofs.rows.over.Goals as goal

pub returns-in-Ok : goal.returns-in-Ok
returns-in-Ok c = divided _ (ap valued_answer c.in-Ok.is) (subst SmallValued c.in-Ok.is c.requires.2) c.over.ensures

pub returns-in-Err : goal.returns-in-Err
returns-in-Err c = undivided _ (ap valued_answer c.in-Err.is)
