use borrow.Author.Rules.{rules}
use lib.IntN.{◌-ℤ◌, neg_ℤ, pos, ℤ}
use mathlib.Core.Path.{◌∙◌, ◌≡◌, ap, subst, sym}
use mir.ValLaws.{to_z-of_z}
use mir.Syntax.{w64}
use mir.Val.{SFits, of_z, to_z}
use native.Mathlib.Omega.{arith}
use Rattle.fields.proofs.NumberLaws.{neg_fits, read_pos, sub_pos}
use Rattle.lines.proofs.FigureLaws.{start_inside, start_minus, start_plus}
use Rattle.lines.specs.Figures.{ShortIs}
use Rattle.lines.proofs.figures.figure.Goals as goal

pub is_led-requires : goal.is_led-requires
is_led-requires c =
    let a = c.args in
    start_inside a.line.now a.at _ c.digits_start-from.ensures c.requires

pub short_digits-requires : goal.short_digits-requires
short_digits-requires c =
    (c.is_led.ensures c.if-is_led.true).0

pub overflow_cast-result : goal.overflow_cast-result
overflow_cast-result c =
    let r = subst (ShortIs _ _) c.in-Some.is c.short_digits.ensures in
    record { sfits = omega (arith, r.small) }

pub returns-then-from-at : goal.returns-then-from-at
returns-then-from-at c =
    let r = subst (ShortIs _ _) c.in-Some.is c.short_digits.ensures in
    let a = c.args in
    let l = c.is_led.ensures c.if-is_led.true in
    let v = c.in-Some.n.value in
    start_plus a.line.now a.at c.digits_start-from.result v _ (omega (arith, l.0)) l.1 l.2 r c.digits_start-from.ensures c.if-from-at.true _ (read_pos v r.small)

pub overflow_cast-result-then-n-gt0 : goal.overflow_cast-result-then-n-gt0
overflow_cast-result-then-n-gt0 c =
    let r = subst (ShortIs _ _) c.in-Some.is c.short_digits.ensures in
    record { sfits = omega (arith, r.small) }

pub overflow_sub-result : goal.overflow_sub-result
overflow_sub-result c =
    let r = subst (ShortIs _ _) c.in-Some.is c.short_digits.ensures in
    let v = c.in-Some.n.value in
    let e : pos 0 -ℤ to_z w64 v ≡ neg_ℤ (pos v) = ap (λ (z : ℤ). pos 0 -ℤ z) (read_pos v r.small) ∙ sub_pos v in
    subst (SFits w64) (sym e) (neg_fits v r.small)

pub returns-then-n-gt0 : goal.returns-then-n-gt0
returns-then-n-gt0 c =
    let r = subst (ShortIs _ _) c.in-Some.is c.short_digits.ensures in
    let a = c.args in
    let l = c.is_led.ensures c.if-is_led.true in
    let v = c.in-Some.n.value in
    let e : pos 0 -ℤ to_z w64 v ≡ neg_ℤ (pos v) = ap (λ (z : ℤ). pos 0 -ℤ z) (read_pos v r.small) ∙ sub_pos v in
    start_minus a.line.now a.at c.digits_start-from.result v _ (omega (arith, l.0)) l.1 l.2 r c.digits_start-from.ensures c.if-from-at.false (λ z. omega (arith, c.if-n-gt0.true, z)) _ (ap (λ (z : ℤ). to_z w64 (of_z w64 z)) e ∙ to_z-of_z w64 _ (neg_fits v r.small))

pub read_number-requires : goal.read_number-requires
read_number-requires c =
    (c.requires, omega arith)
