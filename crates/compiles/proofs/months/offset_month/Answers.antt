use borrow.Author.Rules.{rules}
use mir.Facts.{to_z-of_z}
use mir.Syntax.{w64}
use mir.Val.{SFits}
use mathlib.Core.Path.{◌∙◌, sym}
use native.Mathlib.Omega.{arith}
use Rattle.compiles.proofs.Delays.{both_fit, both_read, offset_added, offset_left, offset_small}
use Rattle.compiles.proofs.months.offset_month.Goals as goal

pub overflow_add-result : goal.overflow_add-result
overflow_add-result c =
    let a = c.args in
    let f : SFits w64 a.i.0 = search rules in
    let b = offset_small a.plain.0 a.i.0 (rw (to_z-of_z f) at (sym c.is_between-near.ensures ∙ c.if-near.true)) in
    both_fit a.plain.0 a.i.0 (omega (arith, c.requires)) (omega (arith, b))

pub returns-then-near : goal.returns-then-near
returns-then-near c =
    let a = c.args in
    let f : SFits w64 a.i.0 = search rules in
    let e = rw (to_z-of_z f) at (sym c.is_between-near.ensures ∙ c.if-near.true) in
    both_read a.plain.0 a.i.0 (omega (arith, c.requires)) (omega (arith, offset_small a.plain.0 a.i.0 e)) ∙ offset_added a.plain.0 a.i.0 e

pub returns : goal.returns
returns c =
    let a = c.args in
    let f : SFits w64 a.i.0 = search rules in
    offset_left a.plain.0 a.i.0 (rw (to_z-of_z f) at (sym c.is_between-near.ensures ∙ c.if-near.false))
