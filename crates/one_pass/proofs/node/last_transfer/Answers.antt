use Rattle.fields.specs.Fields.{TriedIs}
use Rattle.language.proofs.Truth.{and_e}
use Rattle.one_pass.proofs.Nodes.{transfer_read, unsure}
use Rattle.text.proofs.QuickLaws.{sole}
use borrow.Author.Rules.{rules}
use borrow.Author.Tests.{eqb-true}
use mathlib.Core.Path.{subst}
use native.Mathlib.Omega.{arith}
use Rattle.one_pass.proofs.node.last_transfer.Goals as goal

pub returns-then-text-at : goal.returns-then-text-at
returns-then-text-at c = λ left low bounds days level. unsure

pub returns-then-need-gt0 : goal.returns-then-need-gt0
returns-then-need-gt0 c = λ left low bounds days level. unsure

pub ended-requires : goal.ended-requires
ended-requires c =
    let t = subst (TriedIs _ _ _) c.in-Some-last_digit.is c.last_digit.ensures in
    (omega (arith, t.1, c.if-text-at.false, c.requires.0.short), c.requires.2)

pub returns-in-Some-last_digit : goal.returns-in-Some-last_digit
returns-in-Some-last_digit c =
    let s = subst (TriedIs _ _ _) c.in-Some.is c.one_digit.ensures in
    let t = subst (TriedIs _ _ _) c.in-Some-last_digit.is c.last_digit.ensures in
    let b = and_e _ _ c.if-text-at-2.true in
    λ left low bounds days level k. transfer_read c.requires.0 level (omega (arith, c.if-text-at.false)) (sole c.args.text.now.now c.args.at 0 (omega (arith, c.if-text-at.false)) (eqb-true _ _ b.1) 84 (eqb-true _ _ b.0) (λ e. omega arith)) s t (omega (arith, c.if-need-gt0.false)) k (c.ended.ensures k)

pub returns-in-None-last_digit : goal.returns-in-None-last_digit
returns-in-None-last_digit c = λ left low bounds days level. unsure

pub returns-in-None : goal.returns-in-None
returns-in-None c = λ left low bounds days level. unsure

pub returns : goal.returns
returns c = λ left low bounds days level. unsure
