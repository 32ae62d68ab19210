use Rattle.fields.specs.Fields.{TriedIs}
use Rattle.one_pass.proofs.Nodes.{transfer_read, unsure}
use Rattle.text.proofs.QuickLaws.{sole}
use borrow.Author.Rules.{rules}
use mathlib.Core.Path.{subst}
use native.Mathlib.Omega.{arith}
use Rattle.one_pass.proofs.node.transfer_at.Goals as goal

pub returns-then-need-gt0 : goal.returns-then-need-gt0
returns-then-need-gt0 c = λ left low bounds days level. unsure

pub ended-requires : goal.ended-requires
ended-requires c =
    let t = subst (TriedIs _ _ _) c.in-Some-one_digit.is c.one_digit-in-Some.ensures in
    (omega (arith, t.1, c.requires.1.room, c.requires.0.short), c.requires.2)

pub returns-in-Some-one_digit : goal.returns-in-Some-one_digit
returns-in-Some-one_digit c =
    let s = subst (TriedIs _ _ _) c.in-Some.is c.one_digit.ensures in
    let t = subst (TriedIs _ _ _) c.in-Some-one_digit.is c.one_digit-in-Some.ensures in
    let h = c.requires.1 in
    λ left low bounds days level k. transfer_read c.requires.0 level (omega (arith, h.room)) (sole c.args.text.now.now c.args.at 0 (omega (arith, h.room)) h.comma 84 h.letter (λ e. omega arith)) s t (omega (arith, c.if-need-gt0.false)) k (c.ended.ensures k)

pub returns-in-None-one_digit : goal.returns-in-None-one_digit
returns-in-None-one_digit c = λ left low bounds days level. unsure

pub returns-in-None : goal.returns-in-None
returns-in-None c = λ left low bounds days level. unsure
