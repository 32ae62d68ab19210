use Prim.Native.Nat.{◌+◌, ℕ}
use lib.ListN.{drop, get_or}
use mathlib.Core.List.{◌∷◌}
use mathlib.Core.Path.{◌∙◌, ◌≡◌, ap, subst, sym}
use native.Mathlib.Omega.{arith}
use Rattle.fields.specs.Numbers.{NumberIs}
use Rattle.fields.specs.Positions.{up_to}
use Rattle.fields.proofs.NumberLaws.{number_minus, number_plus}
use Rattle.fields.proofs.Positions.{head_none, head_ne, up_more}
use Rattle.fields.proofs.numbers.read_number.Goals as goal
use Rattle.fields.proofs.numbers.read_number.Goals.{else-at-text-via-then-at-text+else-text-at-eq45, else-at-text-via-else-at-text}

pub returns-then-text-at-eq45 : goal.returns-then-text-at-eq45
returns-then-text-at-eq45 c =
    let a = c.args in
    subst (NumberIs _ _) (sym c.negative.ensures) (number_minus _ _ _ (up_more a.stop a.text.now a.at (omega arith) (λ e. omega (
      arith,
      c.if-text-at-eq45.true,
    )) (λ e. omega (arith, c.if-text-at-eq45.true, c.requires.1)) ∙
    ap (λ (b : ℕ). b ∷ up_to a.stop (drop (a.at + 1) a.text.now)) c.if-text-at-eq45.true) _ c.read_natural.ensures)

pub returns : goal.returns
returns c =
    let a = c.args in
    let q : get_or (up_to a.stop (drop a.at a.text.now)) 0 0 ≡ 45 → ⊥ = elim c.else-at-text.branch [
      | else-at-text-via-then-at-text+else-text-at-eq45 w ↦ head_ne a.stop a.text.now a.at 45 w.if-at-text.true w.if-text-at-eq45.false (omega arith)
      | else-at-text-via-else-at-text w ↦ head_none a.stop a.text.now a.at 45 w.if-at-text.false (omega arith)
    ] in
    subst (NumberIs _ _) (sym c.positive.ensures) (number_plus _ _ q _ c.read_natural-2.ensures)
