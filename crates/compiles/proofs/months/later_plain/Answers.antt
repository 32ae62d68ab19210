use mathlib.Core.Path.{◌∙◌, sym}
use native.Mathlib.Omega.{arith}
use Rattle.compiles.proofs.Delays.{both_fit, both_read, closed_in, closed_plain, open_plain}
use Rattle.compiles.proofs.months.later_plain.Goals as goal

pub returns-then-is_open : goal.returns-then-is_open
returns-then-is_open c =
    let a = c.args in
    open_plain a.d.0 (sym c.is_open.ensures ∙ c.if-is_open.true) a.plain.0

pub overflow_add-result : goal.overflow_add-result
overflow_add-result c =
    let a = c.args in
    let e = sym c.is_open.ensures ∙ c.if-is_open.false in
    both_fit a.plain.0 a.d.0 (omega (arith, c.requires.0)) (omega (arith, closed_in a.d.0 e c.requires.1))

pub returns : goal.returns
returns c =
    let a = c.args in
    let e = sym c.is_open.ensures ∙ c.if-is_open.false in
    both_read a.plain.0 a.d.0 (omega (arith, c.requires.0)) (omega (arith, closed_in a.d.0 e c.requires.1)) ∙ closed_plain a.d.0 e a.plain.0
