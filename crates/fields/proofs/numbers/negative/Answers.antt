use Prim.Native.Nat.{◌≤◌}
use lib.IntN.{◌-ℤ◌, neg_ℤ, pos, ℤ}
use mathlib.Core.Path.{◌∙◌, ◌≡◌, ap, subst, sym}
use mir.Syntax.{w64}
use mir.Val.{of_z, to_z}
use mir.ValLaws.{to_z-of_z}
use Rattle.fields.specs.Numbers.{SmallNatural, minus}
use Rattle.fields.proofs.NumberLaws.{minus_some, minus_zero, minus_bad, neg_fits, read_pos, sub_pos}
use Rattle.fields.proofs.numbers.negative.Goals as goal

pub returns-in_err-n : goal.returns-in_err-n
returns-in_err-n c = rw c.from_residual.ensures (minus_bad ∙ sym (ap minus c.in_err-n.was))

pub returns-then-n-eq0 : goal.returns-then-n-eq0
returns-then-n-eq0 c = minus_zero c.in_ok-n.n.value _ c.if-n-eq0.true ∙ sym (ap minus c.in_ok-n.was)

pub returns : goal.returns
returns c =
    let v = c.in_ok-n.n.value in
    let small : v ≤ 9000000000000 = subst SmallNatural c.in_ok-n.was c.requires in
    let e : pos 0 -ℤ to_z w64 v ≡ neg_ℤ (pos v) = ap (λ (z : ℤ). pos 0 -ℤ z) (read_pos v small) ∙ sub_pos v in
    minus_some v _ _ c.if-n-eq0.false (ap (λ (z : ℤ). to_z w64 (of_z w64 z)) e ∙ to_z-of_z w64 _ (neg_fits v small)) ∙ sym (ap minus
    c.in_ok-n.was)
