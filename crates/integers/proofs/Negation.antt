-- The distance from zero of a number below it, formed by the code without negating the least number.
use Prim.Native.Nat.{◌+◌, ◌-◌, ◌<◌, ◌≤◌, suc, zero, ℕ}
use lib.IntN.{◌+ℤ◌, ◌-ℤ◌, nat_abs, negsuc, neg_ℤ, pos, ℤ}
use lib.Signed.{lt_z}
use mathlib.Core.Bool.{false, true}
use mathlib.Core.Path.{◌∙◌, ◌≡◌, ap}
use mir.Facts.{to_z-of_z}
use mir.Syntax.{w64}
use mir.Val.{Fits, SFits}
use native.Mathlib.Omega.{arith}
use Rattle.integers.proofs.Locals.{rd}
use Rattle.integers.proofs.Rounding.{minus_one_more}
use Rattle.integers.proofs.Solver.{◌⊕◌, ◌⊖◌, lit, ring, var}
use Rattle.integers.proofs.Tests.{lt_false, lt_true}

pub neg_fits : (r a : ℕ) → r ≤ suc a → SFits w64 (negsuc a) → SFits w64 (neg_ℤ (pos r))
neg_fits zero a h f = record { sfits = omega arith }
neg_fits (suc r) a h f = record { sfits = omega (arith, f.sfits) }

next_fits : (x : ℤ) → SFits w64 x → lt_z x (pos 0) ≡ true → SFits w64 (x +ℤ pos 1)
next_fits (pos a) f e = absurd (omega (arith, lt_true (pos a) (pos 0) e))
next_fits (negsuc a) f e = rw (minus_one_more a) (neg_fits a a (omega arith) f)

less_one : (x : ℤ) → lt_z x (pos 0) ≡ true → pos 0 -ℤ (x +ℤ pos 1) ≡ pos (nat_abs x - 1)
less_one (pos a) e = absurd (omega (arith, lt_true (pos a) (pos 0) e))
less_one (negsuc a) e = ring (lit 0 ⊖ (var (negsuc a) ⊕ lit 1)) (lit (suc a - 1)) (omega arith)

nat_abs_fits : (x : ℤ) → SFits w64 x → nat_abs x ≤ 9223372036854775808
nat_abs_fits (pos a) f = omega (arith, f.sfits)
nat_abs_fits (negsuc a) f = omega (arith, f.sfits)

nat_abs_below : (x : ℤ) → lt_z x (pos 0) ≡ true → 0 < nat_abs x
nat_abs_below (pos a) e = absurd (omega (arith, lt_true (pos a) (pos 0) e))
nat_abs_below (negsuc a) e = omega arith

module _ (x : ℤ) (f : SFits w64 x) (e : lt_z (rd x) (pos 0) ≡ true) where
  below : lt_z x (pos 0) ≡ true
  below = rw (to_z-of_z f) at e

  pub add_fits : SFits w64 (rd x +ℤ pos 1)
  add_fits = rw (to_z-of_z f) (next_fits x f below)

  pub add_reads : rd (rd x +ℤ pos 1) ≡ x +ℤ pos 1
  add_reads = to_z-of_z add_fits ∙ ap (λ z. z +ℤ pos 1) (to_z-of_z f)

  pub negated_fits : SFits w64 (pos 0 -ℤ rd (rd x +ℤ pos 1))
  negated_fits = rw (add_reads, less_one x below) (record { sfits = omega (arith, nat_abs_fits x f) })

  pub negated_reads : rd (pos 0 -ℤ rd (rd x +ℤ pos 1)) ≡ pos (nat_abs x - 1)
  negated_reads = to_z-of_z negated_fits ∙ ap (λ z. pos 0 -ℤ z) add_reads ∙ less_one x below

  pub one_less_fits : Fits w64 (nat_abs x - 1)
  one_less_fits = record { fits = omega (arith, nat_abs_fits x f) }

  pub one_more : nat_abs x - 1 + 1 ≡ nat_abs x
  one_more = omega (arith, nat_abs_below x below)

  pub one_more_fits : Fits w64 (nat_abs x - 1 + 1)
  one_more_fits = record { fits = omega (arith, nat_abs_fits x f) }

pub distance_fits : (x : ℤ) → SFits w64 x → Fits w64 (nat_abs x)
distance_fits x f = record { fits = omega (arith, nat_abs_fits x f) }

pub not_below : (x : ℤ) → SFits w64 x → lt_z (rd x) (pos 0) ≡ false → rd x ≡ pos (nat_abs x)
not_below (pos a) f e = to_z-of_z f
not_below (negsuc a) f e = absurd (omega (arith, lt_false (negsuc a) (pos 0) (rw (to_z-of_z f) at e)))
