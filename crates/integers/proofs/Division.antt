-- The code's quotient is the one rounded down, and fits.
use Prim.Native.Nat.{◌/◌, ◌<◌, suc, zero, ℕ}
use lib.IntN.{◌+ℤ◌, ◌-ℤ◌, nat_abs, negsuc, pos, ℤ}
use lib.Signed.{◌<ℤ◌, le_z, lt_z, quot_z}
use mathlib.Core.Bool.{false≢true, true}
use mathlib.Core.Path.{◌∙◌, ◌≡◌, ap, ap₂, refl, sym}
use mir.Facts.{to_z-of_z}
use mir.Syntax.{w64}
use mir.Val.{SFits, of_z}
use native.Mathlib.Nat.{div-le_self}
use native.Mathlib.Omega.{arith}
use Rattle.integers.proofs.Locals.{rd}
use Rattle.integers.proofs.Negation.{add_fits, add_reads, neg_fits}
use Rattle.integers.proofs.Rounding.{floor_code}
use Rattle.integers.proofs.Tests.{lt_true}
use Rattle.integers.specs.Rounding.{floor_z}

-- ---- of plain numbers, by a positive k
floor_fits : (x : ℤ) (k : ℕ) → SFits w64 x → SFits w64 (floor_z x k)
unfolding floor_z
floor_fits (pos a) k f = record { sfits = omega (arith, f.sfits, div-le_self a k) }
floor_fits (negsuc a) k f = record { sfits = omega (arith, f.sfits, div-le_self a k) }

quot_fits : (x : ℤ) (k : ℕ) → SFits w64 x → SFits w64 (quot_z x (pos k))
quot_fits (pos a) k f = record { sfits = omega (arith, f.sfits, div-le_self a k) }
quot_fits (negsuc a) k f = neg_fits (suc a / k) a (div-le_self (suc a) k) f

below_floor : (x : ℤ) (k : ℕ) → lt_z x (pos 0) ≡ true → quot_z (x +ℤ pos 1) (pos k) -ℤ pos 1 ≡ floor_z x k
below_floor (pos a) k e = absurd (omega (arith, lt_true (pos a) (pos 0) e))
below_floor (negsuc a) k e = sym (floor_code a k)

above_floor : (x : ℤ) (k : ℕ) → le_z (pos 0) x ≡ true → quot_z x (pos k) ≡ floor_z x k
unfolding floor_z
above_floor (pos a) k e = refl
above_floor (negsuc a) k e = absurd (false≢true e)

positive : (n : ℤ) → pos 0 <ℤ n → n ≡ pos (nat_abs n)
positive (pos n) h = refl
positive (negsuc n) h = absurd h.lt

-- ---- of locals
module _ {x n : ℤ} (f : SFits w64 x) (g : SFits w64 n) (h : pos 0 <ℤ n) where
  reads_n : rd n ≡ pos (nat_abs n)
  reads_n = to_z-of_z g ∙ positive n h

  pub divisor : 0 < of_z w64 n
  divisor = nonzero n h
    where
      nonzero : (n : ℤ) → pos 0 <ℤ n → 0 < of_z w64 n
      nonzero (pos zero) h = absurd h.lt
      nonzero (pos (suc n)) h = omega arith
      nonzero (negsuc n) h = absurd h.lt

  whole : quot_z (rd x) (rd n) ≡ quot_z x (pos (nat_abs n))
  whole = ap₂ quot_z (to_z-of_z f) reads_n

  pub whole_fits : SFits w64 (quot_z (rd x) (rd n))
  whole_fits = rw whole (quot_fits x (nat_abs n) f)

  pub whole_reads : le_z (pos 0) (rd x) ≡ true → rd (quot_z (rd x) (rd n)) ≡ floor_z x (nat_abs n)
  whole_reads e = to_z-of_z whole_fits ∙ whole ∙ above_floor x (nat_abs n) (rw (to_z-of_z f) at e)

  module _ (e : lt_z (rd x) (pos 0) ≡ true) where
    next : quot_z (rd (rd x +ℤ pos 1)) (rd n) ≡ quot_z (x +ℤ pos 1) (pos (nat_abs n))
    next = ap₂ quot_z (add_reads x f e) reads_n

    pub next_fits : SFits w64 (quot_z (rd (rd x +ℤ pos 1)) (rd n))
    next_fits = rw next (quot_fits (x +ℤ pos 1) (nat_abs n) (rw (to_z-of_z f) at (add_fits x f e)))

    down : rd (quot_z (rd (rd x +ℤ pos 1)) (rd n)) -ℤ pos 1 ≡ floor_z x (nat_abs n)
    down = ap (λ z. z -ℤ pos 1) (to_z-of_z next_fits ∙ next) ∙ below_floor x (nat_abs n) (rw (to_z-of_z f) at e)

    pub down_fits : SFits w64 (rd (quot_z (rd (rd x +ℤ pos 1)) (rd n)) -ℤ pos 1)
    down_fits = rw down (floor_fits x (nat_abs n) f)

    pub down_reads : rd (rd (quot_z (rd (rd x +ℤ pos 1)) (rd n)) -ℤ pos 1) ≡ floor_z x (nat_abs n)
    down_reads = to_z-of_z down_fits ∙ down
