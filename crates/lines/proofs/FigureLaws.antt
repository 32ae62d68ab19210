-- Numbers of few digits, and their signs.
use Prim.Native.Nat.{◌+◌, ◌<◌, ◌≤◌, ℕ}
use lib.IntN.{neg_ℤ, pos, ℤ}
use lib.ListN.{drop, get_or, length}
use mathlib.Core.List.{List, ◌∷◌}
use mathlib.Core.Logic.{inl, inr}
use mathlib.Core.Path.{◌∙◌, ◌≡◌, ap, subst, sym}
use native.Mathlib.Omega.{arith}
use Rattle.fields.proofs.NumberLaws.{led_natural, minus_some, number_minus, number_plus, plus_some}
use Rattle.fields.proofs.Positions.{head_ne, head_none, up_more}
use Rattle.fields.specs.Numbers.{NaturalIs, NumberIs, Run}
use Rattle.fields.specs.Positions.{up_to}
use Rattle.lines.specs.Figures.{NoMinus, StartIs}
use Rattle.std.specs.Prelude.{Some}

-- ---- where the digits start

pub start_inside : (line : List ℕ) (at from : ℕ) → StartIs line at from → at ≤ length line → from ≤ length line
start_inside line at from (inl s) h = omega (arith, s.0.0, s.1)
start_inside line at from (inr s) h = omega (arith, s.1)

module _ (line : List ℕ) (at : ℕ) where
  no_minus : NoMinus line at → get_or (up_to 44 (drop at line)) 0 0 ≡ 45 → ⊥
  no_minus (inl h) = head_none 44 line at 45 h (omega arith)
  no_minus (inr h) = head_ne 44 line at 45 h.0 h.1 (omega arith)

  -- the digits from byte `from` on, the first of them above 0, have the value v
  module _ (from v end : ℕ) (l : from < length line) (low : 49 ≤ get_or line from 0) (high : get_or line from 0 ≤ 57) (r : Run (up_to 44 (drop from line)) from v end) where
    whole : NaturalIs (up_to 44 (drop from line)) from (Some (record { value = v; end = end }))
    whole = led_natural line from l low high (Some (record { value = v; end = end })) r

    pub start_plus : StartIs line at from → from ≡ at → (z : ℤ) → z ≡ pos v → NumberIs (up_to 44 (drop at line)) at (Some (record { value = z; end = end }))
    start_plus (inl s) e z ez = absurd (omega (arith, s.1, e))
    start_plus (inr s) e z ez =
        subst (NumberIs (up_to 44 (drop at line)) at) (sym (plus_some v end z ez))
        (number_plus _ _ (no_minus s.0) (Some (record { value = v; end = end })) (subst (λ k. NaturalIs (up_to 44 (drop k line)) k (Some (record { value = v; end = end }))) e whole))

    pub start_minus : StartIs line at from → (from ≡ at → ⊥) → (v ≡ 0 → ⊥) → (z : ℤ) → z ≡ neg_ℤ (pos v) → NumberIs (up_to 44 (drop at line)) at (Some (record { value = z; end = end }))
    start_minus (inl s) e n z ez =
        subst (NumberIs (up_to 44 (drop at line)) at) (sym (minus_some v end z n ez))
        (number_minus _ _ _ (up_more 44 line at s.0.0 (λ c. omega (arith, s.0.1, c)) (λ c. omega (arith, s.0.1, c)) ∙ ap (λ (b : ℕ). b ∷ up_to 44 (drop (at + 1) line)) s.0.1) (Some (record { value = v; end = end }))
        (subst (λ k. NaturalIs (up_to 44 (drop k line)) k (Some (record { value = v; end = end }))) s.1 whole))
    start_minus (inr s) e n z ez = absurd (e s.1)
