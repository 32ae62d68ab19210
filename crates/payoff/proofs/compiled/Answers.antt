use mathlib.Core.Path.{◌∙◌, ap, sym}
use native.Mathlib.Omega.{arith}
use Rattle.payoff.proofs.CompileTexts.{compile_is, few, in_table, is_short, ready}
use Rattle.writer.specs.Answers.{written_answer}
use Rattle.payoff.specs.Answers.{writing_answer}
use Rattle.integers.proofs.Passed.{handed_up}
use Rattle.payoff.proofs.compiled.Goals as goal

pub compile_plan-n-requires : goal.compile_plan-n-requires
compile_plan-n-requires c =
    let y = c.requires in
    (ready y.text _ _ y.read, omega arith)

pub write_text-requires : goal.write_text-requires
write_text-requires c =
    let y = c.requires in
    let k = c.compile_plan-n.ensures in
    let n = k.0 in
    (omega (arith, in_table y.text _ _ y.read, n, (k.1 (ready y.text _ _ y.read)).size), omega (arith, few y.text _ _ y.read, n), is_short y.text _ _ y.read k.1)

pub returns-in_err-write_text : goal.returns-in_err-write_text
unfolding writing_answer written_answer
returns-in_err-write_text c y =
    let o = c.write_text in
    let e = compile_is y.text _ _ y.read c.compile_plan-n.ensures.1 c.args.out.now in
    (o.ensures.0 ∙ ap (λ u. u.buffer) e, ap writing_answer (handed_up _ c.from_residual.ensures.1) ∙ ap written_answer (sym c.in_err-write_text.was) ∙ o.ensures.1 ∙ ap (λ u. u.answer) e)

pub returns : goal.returns
unfolding writing_answer written_answer
returns c y =
    let o = c.write_text in
    let e = compile_is y.text _ _ y.read c.compile_plan-n.ensures.1 c.args.out.now in
    (o.ensures.0 ∙ ap (λ u. u.buffer) e, ap written_answer (sym c.in_ok-write_text.was) ∙ o.ensures.1 ∙ ap (λ u. u.answer) e)
