use mathlib.Core.Path.{subst, ◌∙◌, ap}
use Rattle.language.specs.Text.Letters.{payoff_form}
use Rattle.language.specs.Text.Reader.{text_as_read}
use Rattle.payoff.proofs.Evaluations.{evaluate_is, evaluate_refuses, read_settled, read_stands}
use Rattle.text.specs.ReadInto.{ReadInto}
use Rattle.tables.specs.Given.{given_in}
use Rattle.payoff.specs.Evaluating.{evaluating_answer}
use Rattle.integers.proofs.Passed.{handed_up}
use Rattle.payoff.proofs.evaluate_in.Goals as goal

pub evaluate_nodes-requires : goal.evaluate_nodes-requires
evaluate_nodes-requires c =
    let a = c.args in
    let r = c.read_payoff in
    let u = subst (ReadInto payoff_form (text_as_read payoff_form a.text.now) r.new.nodes) c.in_ok-count.was r.ensures.is in
    (read_stands a.text.now _ _ u, λ e. read_settled a.text.now _ _ u (c.may_use.ensures e))

pub returns : goal.returns
returns c =
    let a = c.args in
    let r = c.read_payoff in
    evaluate_is a.text.now r.new.nodes _ (subst (ReadInto payoff_form (text_as_read payoff_form a.text.now) r.new.nodes) c.in_ok-count.was r.ensures.is) (given_in a.given.now) a.pair.p a.pair.q a.month.0 c.evaluate_nodes.ensures

pub returns-in_err-count : goal.returns-in_err-count
returns-in_err-count c =
    let a = c.args in
    let r = c.read_payoff in
    ap evaluating_answer (handed_up _ c.from_residual.ensures.1) ∙ evaluate_refuses a.text.now (given_in a.given.now) a.pair.p a.pair.q a.month.0 _ (subst (ReadInto payoff_form (text_as_read payoff_form a.text.now) r.new.nodes) c.in_err-count.was r.ensures.is)
