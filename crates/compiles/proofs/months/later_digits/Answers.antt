use Prim.Native.Nat.{◌<◌, ◌^◌}
use lib.IntN.{◌+ℤ◌, pos}
use mathlib.Core.Path.{◌∙◌, ap, subst, sym}
use Rattle.compiles.proofs.Delays.{both_fit, both_read, closed_digits, open_digits, open_in, weight_small}
use Rattle.compiles.proofs.months.later_digits.Goals as goal

pub setting_of-requires : goal.setting_of-requires
setting_of-requires c =
    sym c.is_open.ensures ∙ c.if-is_open.true

pub weight-w-requires : goal.weight-w-requires
weight-w-requires c =
    subst (λ k. k < 8) (sym c.setting_of.ensures) (open_in c.args.d.0 (sym c.is_open.ensures ∙ c.if-is_open.true) c.requires.1)

pub overflow_add-result : goal.overflow_add-result
overflow_add-result c =
    let a = c.args in
    let e = sym c.is_open.ensures ∙ c.if-is_open.true in
    let w = c.weight-w in
    both_fit a.digits.0 w.result.0 c.requires.0 (weight_small a.d.0 e c.requires.1 c.setting_of.ensures w.ensures)

pub returns-then-is_open : goal.returns-then-is_open
returns-then-is_open c =
    let a = c.args in
    let e = sym c.is_open.ensures ∙ c.if-is_open.true in
    let k = c.setting_of in
    let w = c.weight-w in
    both_read a.digits.0 w.result.0 c.requires.0 (weight_small a.d.0 e c.requires.1 k.ensures w.ensures)
    ∙ ap (λ w. a.digits.0 +ℤ w) (w.ensures ∙ ap (λ k. pos (32 ^ k)) k.ensures)
    ∙ open_digits a.d.0 e a.digits.0

pub returns : goal.returns
returns c =
    let a = c.args in
    closed_digits a.d.0 (sym c.is_open.ensures ∙ c.if-is_open.false) a.digits.0
