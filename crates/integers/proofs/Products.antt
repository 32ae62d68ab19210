-- A product's distance from zero, decided by a division before the product is formed.
use Prim.Native.Nat.{◌*◌, ◌/◌, ◌<◌, ◌^◌, ◌≤◌, ℕ}
use lib.Dec.{T, ltb}
use lib.IntN.{◌*ℤ◌, *ℤ-zero, nat_abs, pos, ℤ}
use mathlib.Core.Path.{◌∙◌, ◌≡◌, ap, ap₂, sym}
use mir.Facts.{to_z-of_z}
use mir.Syntax.{w64}
use mir.Val.{SFits}
use native.Mathlib.Nat.{div-lt_iff_lt-mul, le-div_iff_mul-le}
use native.Mathlib.Omega.{arith}
use Rattle.integers.proofs.Laws.{nat_abs_mul, nat_abs_zero, sfits64}
use Rattle.integers.proofs.Locals.{rd}

-- m and n are the two magnitudes, as the code has them
module _ {a b : ℤ} (f : SFits w64 a) (g : SFits w64 b) {m n : ℕ} (e : m ≡ nat_abs (rd a)) (e' : n ≡ nat_abs (rd b)) where
  times : m * n ≡ nat_abs (a *ℤ b)
  times = ap₂ (λ (x y : ℕ). x * y) (e ∙ ap nat_abs (to_z-of_z f)) (e' ∙ ap nat_abs (to_z-of_z g)) ∙ sym (nat_abs_mul a b)

  pub product_zero : n ≡ 0 → a *ℤ b ≡ pos 0
  product_zero z = ap (λ (y : ℤ). a *ℤ y) (nat_abs_zero b (sym (e' ∙ ap nat_abs (to_z-of_z g)) ∙ z)) ∙ *ℤ-zero a

  pub product_over : (limit : ℕ) → (n ≡ 0 → ⊥) → limit / n < m → limit < nat_abs (a *ℤ b)
  product_over limit z h =
      let l : limit < m * n = (div-lt_iff_lt-mul {k = n} {x = limit} {y = m} (omega arith)).0 h in
      omega (arith, times)

  pub product_le : (limit : ℕ) → (n ≡ 0 → ⊥) → m ≤ limit / n → nat_abs (a *ℤ b) ≤ limit
  product_le limit z h =
      let l : m * n ≤ limit = (le-div_iff_mul-le {k = n} {x = m} {y = limit} (omega arith)).0 h in
      omega (arith, times)

  pub product_fits : (limit : ℕ) → T (ltb limit (2 ^ 63)) → (n ≡ 0 → ⊥) → m ≤ limit / n → SFits w64 (a *ℤ b)
  product_fits limit t z h = sfits64 limit (product_le limit z h) t
