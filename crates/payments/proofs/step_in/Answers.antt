use mathlib.Core.Path.{◌∙◌, ap, subst}
use Rattle.language.specs.Text.Letters.{plan_form}
use Rattle.language.specs.Text.Reader.{text_as_read}
use Rattle.payments.proofs.StepTexts.{plan_read, text_is, text_keeps, text_refusal}
use Rattle.rules.proofs.Checks.{read_stands}
use Rattle.text.specs.ReadInto.{ReadInto}
use Rattle.tables.specs.Given.{given_in}
use Rattle.payments.specs.Answers.{stepping_answer}
use Rattle.integers.proofs.Passed.{handed_up}
use Rattle.payments.proofs.step_in.Goals as goal

pub stepped-requires : goal.stepped-requires
stepped-requires c =
    let a = c.args in
    let r = c.read_plan in
    let s = subst (ReadInto plan_form (text_as_read plan_form a.text.now) r.new.nodes) c.in_ok-count.was r.ensures.is in
    (read_stands a.text.now _ _ s, c.parties_ok-asked.ensures, text_is a.text.now _ _ s)

pub returns : goal.returns
returns c =
    let a = c.args in
    let r = c.read_plan in
    let n = plan_read a.text.now (given_in a.given.now) a.today.0 a.pair.p a.pair.q a.out.now _ _ (subst (ReadInto plan_form (text_as_read plan_form a.text.now) r.new.nodes) c.in_ok-count.was r.ensures.is) in
    let k = c.stepped.ensures n.plan n.stands in
    (k.0 ∙ ap (λ o. o.buffer) n.is, k.1 ∙ ap (λ o. o.answer) n.is)

pub returns-in_err-count : goal.returns-in_err-count
returns-in_err-count c =
    let a = c.args in
    let g = given_in a.given.now in
    let r = c.read_plan in
    let e = subst (ReadInto plan_form (text_as_read plan_form a.text.now) r.new.nodes) c.in_err-count.was r.ensures.is in
    (text_keeps a.text.now g a.today.0 a.pair.p a.pair.q a.out.now _ e, ap stepping_answer (handed_up _ c.from_residual.ensures.1) ∙ text_refusal a.text.now g a.today.0 a.pair.p a.pair.q a.out.now _ e)
