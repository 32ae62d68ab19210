use mathlib.Core.Logic.{⊎_elim}
use mathlib.Core.Path.{◌∙◌, ◌≡◌, ap, refl, sym}
use mir.Facts.{to_z-of_z}
use native.Mathlib.Omega.{arith}
use Rattle.integers.proofs.Locals.{value_fits}
use Rattle.language.specs.Answer.{refused}
use Rattle.language.specs.Limits.{max_value}
use Rattle.text.specs.Refusals.{number_of}
use Rattle.checked.proofs.Codes.{stands_beyond, stands_unread, stands_value}
use Rattle.worths.specs.Answers.{worth_answer}
use Rattle.worths.specs.Coded.{coded_worth}
use Rattle.worths.proofs.coded.code.Goals as goal

pub returns-in-Ok : goal.returns-in-Ok
returns-in-Ok c =
    let e = ap worth_answer c.in-Ok.is in
    let s = c.requires.value _ e in
    ap coded_worth (to_z-of_z (value_fits s)) ∙ stands_value max_value _ s.small ∙ sym e

pub returns-then-number_of-eq11 : goal.returns-then-number_of-eq11
returns-then-number_of-eq11 c =
    let e = ap worth_answer c.in-Err.is in
    stands_unread max_value _ refl ∙ ap refused (sym c.if-number_of-eq11.true ∙ c.number_of.ensures) ∙ sym e

pub returns-else-number_of-eq11 : goal.returns-else-number_of-eq11
returns-else-number_of-eq11 c =
    let e = ap worth_answer c.in-Err.is in
    let n : number_of c.in-Err.k ≡ 14 = ⊎_elim (λ z. absurd (c.if-number_of-eq11.false (c.number_of.ensures ∙ z))) (λ z. z) (c.requires.refusal _ e) in
    stands_beyond max_value _ (omega arith) (λ z. omega (arith, z)) ∙ ap refused (sym n) ∙ sym e
