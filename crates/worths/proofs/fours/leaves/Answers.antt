use borrow.Author.Rules.{rules}
use mathlib.Core.Path.{refl}
use mir.Syntax.{w64}
use mir.Val.{SFits}
use native.Mathlib.Omega.{arith}
use Rattle.amounts.proofs.Nodes.{amount_inside, index_key, number_key}
use Rattle.language.specs.Text.Form.{fields_of_amount}
use Rattle.checked.proofs.CheckedArms as arms
use Rattle.checked.proofs.CheckedNodes.{amount_node}
use Rattle.worths.proofs.fours.leaves.Goals as goal

pub slot-x-requires : goal.slot-x-requires
slot-x-requires c = (amount_inside _ _ _ c.requires.1, omega arith)

pub number-requires : goal.number-requires
unfolding fields_of_amount
number-requires c =
    let p = c.requires in
    let f : SFits w64 c.slot-x.result = search rules in
    let n = amount_node f c.slot-x.ensures p.1 p.2 (number_key _ f c.in-78.in-78-own.keys1) refl in
    (n.inside, n.fields)

pub reading-requires : goal.reading-requires
unfolding fields_of_amount
reading-requires c =
    let p = c.requires in
    let f : SFits w64 c.slot-x.result = search rules in
    let n = amount_node f c.slot-x.ensures p.1 p.2 (index_key _ f c.in-79.in-79-own.keys2) refl in
    (n.inside, p.0, n.fields.1)

pub returns-in-78 : goal.returns-in-78
returns-in-78 c =
    let p = c.requires in
    let f : SFits w64 c.slot-x.result = search rules in
    let n = amount_node f c.slot-x.ensures p.1 p.2 (number_key _ f c.in-78.in-78-own.keys1) refl in
    λ e k m. arms.number_arm _ _ _ _ _ _ _ _ n (c.number.ensures e k m)

pub returns-in-79 : goal.returns-in-79
returns-in-79 c =
    let p = c.requires in
    let f : SFits w64 c.slot-x.result = search rules in
    let n = amount_node f c.slot-x.ensures p.1 p.2 (index_key _ f c.in-79.in-79-own.keys2) refl in
    λ e k m. arms.index_arm _ _ _ _ _ _ _ _ n (c.reading.ensures e k m)

pub returns-in_default : goal.returns-in_default
returns-in_default c = λ e. absurd (c.unsure.ensures e)
