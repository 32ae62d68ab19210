use mathlib.Core.Path.{subst, ◌∙◌, ap}
use native.Mathlib.Omega.{arith}
use Rattle.language.specs.Text.Letters.{payoff_form}
use Rattle.language.specs.Text.Reader.{text_as_read}
use Rattle.payoff.proofs.Texts.{cut_is, kept, no_room, refusal_is}
use Rattle.text.specs.ReadInto.{ReadInto}
use Rattle.payoff.specs.Answers.{writing_answer}
use Rattle.integers.proofs.Passed.{handed_up}
use Rattle.payoff.proofs.cut.Goals as goal

pub returns-then-out-text : goal.returns-then-out-text
returns-then-out-text c =
    let a = c.args in
    let p = c.read_payoff in
    let r = subst (ReadInto payoff_form (text_as_read payoff_form a.text.now) p.new.nodes) c.in_ok-read_payoff.was p.ensures.is in
    no_room a.text.now r a.out.now (omega (arith, c.if-out-text.true))

pub returns : goal.returns
returns c =
    let a = c.args in
    let p = c.read_payoff in
    let r = subst (ReadInto payoff_form (text_as_read payoff_form a.text.now) p.new.nodes) c.in_ok-read_payoff.was p.ensures.is in
    cut_is a.text.now r a.out.now (omega (arith, c.if-out-text.false)) _ c.put_cut.ensures

pub returns-in_err-read_payoff : goal.returns-in_err-read_payoff
returns-in_err-read_payoff c =
    let a = c.args in
    let p = c.read_payoff in
    let r = subst (ReadInto payoff_form (text_as_read payoff_form a.text.now) p.new.nodes) c.in_err-read_payoff.was p.ensures.is in
    (kept a.text.now a.out.now _ r, ap writing_answer (handed_up _ c.from_residual.ensures.1) ∙ refusal_is a.text.now a.out.now _ r)
