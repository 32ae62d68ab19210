use borrow.Author.Rules.{rules}
use mathlib.Core.Path.{◌∙◌, ap, refl, subst, sym}
use mir.Facts.{to_z-of_z}
use native.Mathlib.Omega.{arith}
use Rattle.language.specs.Limits.{max_amount}
use Rattle.integers.proofs.Locals.{small_fits}
use Rattle.checked.proofs.Codes.{stands_beyond, stands_unread, stands_value}
use Rattle.checked.specs.Answers.{SmallValued, valued_answer}
use Rattle.checked.specs.Coded.{valued_in}
use Rattle.checked.proofs.coded.code.Goals as goal
use Rattle.std.specs.Prelude.{Err}

pub returns-in-Ok : goal.returns-in-Ok
returns-in-Ok c =
    let v = c.in-Ok.is in
    let s = subst SmallValued v c.requires in
    ap valued_in (to_z-of_z (small_fits s)) ∙ stands_value max_amount _ s.small ∙ sym (ap valued_answer v)

pub returns-in-Unread : goal.returns-in-Unread
returns-in-Unread c = stands_unread max_amount _ refl ∙ sym (ap valued_answer (c.in-Err.is ∙ ap Err c.in-Unread.is))

pub returns-in-Beyond : goal.returns-in-Beyond
returns-in-Beyond c = stands_beyond max_amount _ (omega arith) (λ e. omega (arith, e)) ∙ sym (ap valued_answer (c.in-Err.is ∙ ap Err c.in-Beyond.is))
