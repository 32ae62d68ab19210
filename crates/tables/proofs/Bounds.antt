-- A bound's range: no further from zero than the bound.
use Rattle.std.proofs.Common.{◌≡◌, ℕ, zero, suc, Bool, true, false, ◌&&◌, leb, ℤ, pos, negsuc, ◌-ℤ◌, neg_ℤ, nat_abs, refl, ap, ◌∙◌, arith, to_z-of_z, w64, SFits, le-leb, leb-false, leb-true}
use borrow.Author.Tests.{lt-leb}
use lib.IntN.{sub_ℕ}
use mathlib.Core.Bool.{false≢true}
use Rattle.integers.proofs.Locals.{rd}
use Rattle.integers.proofs.Solver.{eq_parts, sub_parts}
use Rattle.language.specs.Limits.{max_amount}
use Rattle.language.specs.Text.Number.{between}
use Rattle.tables.proofs.Spans.{both_true}

nearer_below : (n m : ℕ) (b : Bool) → leb n m ≡ b → leb (suc n) (suc m) ≡ b && true
nearer_below n m true e = le-leb (suc n) (suc m) (omega (arith, leb-true n m e))
nearer_below n m false e = lt-leb (suc n) (suc m) (omega (arith, leb-false n m e))

nearer_by : (m : ℕ) (v : ℤ) → leb (nat_abs v) m ≡ between (neg_ℤ (pos m)) (pos m) v
nearer_by zero (pos n) = rw (le-leb 0 n (omega arith)) refl
nearer_by zero (negsuc n) = lt-leb (suc n) 0 (omega arith)
nearer_by (suc m) (pos n) = refl
nearer_by (suc m) (negsuc n) = nearer_below n m (leb n m) refl

pub nearer : (b v : ℤ) → between (pos 0) (pos max_amount) b ≡ true → leb (nat_abs v) (nat_abs b) ≡ between (neg_ℤ b) b v
nearer (pos m) v e = nearer_by m v
nearer (negsuc m) v e = absurd (false≢true e)

-- ---- the least number of the range, as the code forms it
negated : (b : ℤ) → between (pos 0) (pos max_amount) b ≡ true → pos 0 -ℤ b ≡ neg_ℤ b
negated (pos zero) e = refl
negated (pos (suc m)) e = eq_parts (sub_ℕ 0 (suc m)) (negsuc m) (omega (arith, sub_parts 0 (suc m)))
negated (negsuc m) e = absurd (false≢true e)

negated_fits : (b : ℤ) → between (pos 0) (pos max_amount) b ≡ true → SFits w64 (neg_ℤ b)
negated_fits (pos zero) e = record { sfits = omega arith }
negated_fits (pos (suc m)) e = record { sfits = omega (arith, leb-true (suc m) max_amount (both_true (leb 0 (suc m)) (leb (suc m) max_amount) e).1) }
negated_fits (negsuc m) e = absurd (false≢true e)

module _ (b : ℤ) (f : SFits w64 b) (e : between (pos 0) (pos max_amount) b ≡ true) where
  opposite_is : pos 0 -ℤ rd b ≡ neg_ℤ b
  opposite_is = ap (λ z. pos 0 -ℤ z) (to_z-of_z f) ∙ negated b e

  opposite_fits : SFits w64 (pos 0 -ℤ rd b)
  opposite_fits = rw opposite_is (negated_fits b e)

  pub opposite_reads : rd (pos 0 -ℤ rd b) ≡ neg_ℤ b
  opposite_reads = to_z-of_z opposite_fits ∙ opposite_is
