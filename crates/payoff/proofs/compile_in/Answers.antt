use mathlib.Core.Path.{subst, ◌∙◌, ap}
use Rattle.language.specs.Text.Letters.{plan_form}
use Rattle.language.specs.Text.Reader.{text_as_read}
use Rattle.payoff.proofs.CompileTexts.{kept, refusal_is}
use Rattle.payoff.specs.Compiling.{PlanRows}
use Rattle.text.specs.ReadInto.{ReadInto}
use Rattle.payoff.specs.Answers.{writing_answer}
use Rattle.integers.proofs.Passed.{handed_up}
use Rattle.payoff.proofs.compile_in.Goals as goal

pub compiled-requires : goal.compiled-requires
compiled-requires c =
    let text = c.args.text.now in
    record { text = text; read = subst (ReadInto plan_form (text_as_read plan_form text) c.read_plan.new.nodes) c.in_ok-count.was c.read_plan.ensures.is }

pub returns : goal.returns
returns c =
    let text = c.args.text.now in
    c.compiled.ensures (record { text = text; read = subst (ReadInto plan_form (text_as_read plan_form text) c.read_plan.new.nodes) c.in_ok-count.was c.read_plan.ensures.is })

pub returns-in_err-count : goal.returns-in_err-count
returns-in_err-count c =
    let a = c.args in
    let p = c.read_plan in
    let r = subst (ReadInto plan_form (text_as_read plan_form a.text.now) p.new.nodes) c.in_err-count.was p.ensures.is in
    (kept a.text.now a.out.now _ r, ap writing_answer (handed_up _ c.from_residual.ensures.1) ∙ refusal_is a.text.now a.out.now _ r)
