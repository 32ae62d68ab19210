use Rattle.fields.specs.Fields.{TriedIs}
use Rattle.one_pass.proofs.Nodes.{index_read, unsure}
use borrow.Author.Rules.{rules}
use mathlib.Core.Path.{subst}
use mir.Syntax.{w64}
use mir.ValLaws.{to_z-of_z}
use native.Mathlib.Omega.{arith}
use Rattle.one_pass.proofs.node.index_at.Goals as goal

pub index_of-requires : goal.index_of-requires
index_of-requires c =
    let t = subst (TriedIs _ _ _) c.in-Some-one_digit.is c.one_digit-in-Some.ensures in
    omega (arith, t.1, c.requires.1.room, c.requires.0.short)

pub returns-in-Some-one_digit : goal.returns-in-Some-one_digit
returns-in-Some-one_digit c =
    let s = subst (TriedIs _ _ _) c.in-Some.is c.one_digit.ensures in
    let t = subst (TriedIs _ _ _) c.in-Some-one_digit.is c.one_digit-in-Some.ensures in
    let a = to_z-of_z w64 c.in-Some.l.value (search rules) in
    let b = to_z-of_z w64 c.in-Some-one_digit.i.value (search rules) in
    λ left level k. index_read c.requires.0 level k c.requires.1 s t a b (c.index_of.ensures k)

pub returns-in-None-one_digit : goal.returns-in-None-one_digit
returns-in-None-one_digit c = λ left level. unsure

pub returns-in-None : goal.returns-in-None
returns-in-None c = λ left level. unsure
