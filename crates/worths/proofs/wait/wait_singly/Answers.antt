use borrow.Author.Rules.{rules}
use mathlib.Core.Path.{◌∙◌, ap, sym}
use mir.Syntax.{w64}
use mir.Val.{SFits}
use native.Mathlib.Omega.{arith}
use Rattle.worths.proofs.WaitLoop as waiting
use Rattle.checked.specs.Answers.{tested_answer}
use Rattle.worths.specs.Waits.{wait_answer}
use Rattle.language.specs.Answer.{got}
use Rattle.std.proofs.lemmas.Result.{err_from_is_err_and}
use Rattle.worths.proofs.wait.wait_singly.Goals as goal

pub returns-in_err-checked_holds-clause-is : goal.returns-in_err-checked_holds-clause-is
returns-in_err-checked_holds-clause-is c =
    let p = c.requires in
    let k = err_from_is_err_and c.from_residual.result c.from_residual.ensures.1 in
    ap wait_answer k.1 ∙ (waiting.stopped _ _ _ _ p.0 c.later-last.ensures _ c.loop-following.invariant k.0 k.2 (sym c.checked_holds.ensures ∙ ap tested_answer c.in_err-checked_holds.was)).0

pub loop-following-preserved : goal.loop-following-preserved
loop-following-preserved c =
    let p = c.requires in
    let i = c.loop-following.invariant in
    let fl : SFits w64 c.later-last.result.0 = search rules in
    let fn : SFits w64 c.later-following.result.0 = search rules in
    waiting.again _ _ _ _ p.0 c.later-last.ensures _ i (sym c.checked_holds.ensures ∙ ap tested_answer c.in_ok-checked_holds.was ∙ ap got c.if-branch.false) _ c.later-following.ensures fl fn c.if-last-following.false

pub returns-then-branch-clause-is : goal.returns-then-branch-clause-is
returns-then-branch-clause-is c =
    let p = c.requires in
    (waiting.held _ _ _ _ p.0 c.later-last.ensures _ c.loop-following.invariant (sym c.checked_holds.ensures ∙ ap tested_answer c.in_ok-checked_holds.was ∙ ap got c.if-branch.true)).0

pub returns-then-last-following-clause-is : goal.returns-then-last-following-clause-is
returns-then-last-following-clause-is c =
    let p = c.requires in
    let i = c.loop-following.invariant in
    let fl : SFits w64 c.later-last.result.0 = search rules in
    let fn : SFits w64 c.later-following.result.0 = search rules in
    (waiting.missed _ _ _ _ p.0 c.later-last.ensures _ i (sym c.checked_holds.ensures ∙ ap tested_answer c.in_ok-checked_holds.was ∙ ap got c.if-branch.false) _ c.later-following.ensures fl fn c.if-last-following.true).0
