use borrow.Author.Rules.{rules}
use mathlib.Core.Path.{subst, ◌∙◌, ap}
use mir.Facts.{to_z-of_z}
use mir.Syntax.{w64}
use mir.Val.{SFits}
use Rattle.language.specs.Text.Letters.{plan_form}
use Rattle.language.specs.Text.Reader.{text_as_read}
use Rattle.payments.proofs.Texts.{payment_is, payment_refused}
use Rattle.rules.proofs.Checks.{read_stands}
use Rattle.text.specs.ReadInto.{ReadInto}
use Rattle.tables.specs.Given.{given_in}
use Rattle.payments.specs.Answers.{paying_answer}
use Rattle.integers.proofs.Passed.{handed_up}
use Rattle.payments.proofs.payment_in.Goals as goal

pub paid-requires : goal.paid-requires
paid-requires c =
    let a = c.args in
    let ft : SFits w64 a.today.0 = search rules in
    let ff : SFits w64 a.given.now.span.f = search rules in
    let fm : SFits w64 a.month.0 = search rules in (
      read_stands a.text.now _ _ (subst (ReadInto plan_form (text_as_read plan_form a.text.now) c.read_plan.new.nodes) c.in_ok-count.was c.read_plan.ensures.is),
      rw (to_z-of_z ft, to_z-of_z ff, to_z-of_z fm) at c.asked_of-asked.ensures,
    )

pub returns : goal.returns
returns c =
    let a = c.args in
    let r = subst (ReadInto plan_form (text_as_read plan_form a.text.now) c.read_plan.new.nodes) c.in_ok-count.was c.read_plan.ensures.is in
    payment_is a.text.now (given_in a.given.now) a.today.0 a.pair.p a.pair.q a.month.0 c.read_plan.new.nodes _ r c.paid.result c.paid.ensures

pub returns-in_err-count : goal.returns-in_err-count
returns-in_err-count c =
    let a = c.args in
    ap paying_answer (handed_up _ c.from_residual.ensures.1) ∙ payment_refused a.text.now (given_in a.given.now) a.today.0 a.pair.p a.pair.q a.month.0 _
    (subst (ReadInto plan_form (text_as_read plan_form a.text.now) c.read_plan.new.nodes) c.in_err-count.was c.read_plan.ensures.is)
