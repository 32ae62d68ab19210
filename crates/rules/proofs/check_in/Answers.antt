use mathlib.Core.Path.{◌≡◌, subst, sym}
use Rattle.language.specs.Text.Letters.{plan_form}
use Rattle.language.specs.Text.Reader.{text_as_read}
use Rattle.rules.proofs.Checks.{check_accepts, check_refuses, read_stands}
use Rattle.text.specs.ReadInto.{ReadInto}
use Rattle.tables.specs.Given.{given_in}
use Rattle.integers.proofs.Passed.{handed_up}
use Rattle.language.specs.Calls.{check_call}
use Rattle.rules.specs.Answers.{Natural, checking_answer}
use Rattle.rules.proofs.check_in.Goals as goal

pub accept-requires : goal.accept-requires
accept-requires c =
    read_stands c.args.text.now _ _ (subst (ReadInto plan_form (text_as_read plan_form c.args.text.now) c.read_plan.new.nodes) c.in_ok-count.was c.read_plan.ensures.is)

pub returns : goal.returns
returns c =
    let a = c.args in
    let r = subst (ReadInto plan_form (text_as_read plan_form a.text.now) c.read_plan.new.nodes) c.in_ok-count.was c.read_plan.ensures.is in
    check_accepts a.text.now c.read_plan.new.nodes _ r (given_in a.given.now) a.today.0 c.accept.ensures

pub returns-in_err-count : goal.returns-in_err-count
returns-in_err-count c =
    let a = c.args in
    let r = handed_up _ c.from_residual.ensures.1 in
    let k = check_refuses a.text.now (given_in a.given.now) a.today.0 _
    (subst (ReadInto plan_form (text_as_read plan_form a.text.now) c.read_plan.new.nodes) c.in_err-count.was c.read_plan.ensures.is) in
    subst (λ x. (checking_answer x ≡ check_call a.text.now (given_in a.given.now) a.today.0) × Natural x) (sym r) k
