-- Signed numbers: what the machine holds, their distance from zero, and the minus in front.
use Prim.Native.Nat.{◌%◌, ◌+◌, ◌-◌, ◌<◌, ◌^◌, ◌≤◌, suc, ℕ}
use borrow.Author.Tests.{leb-true, ltb-true}
use lib.Dec.{T, leb}
use lib.IntN.{◌-ℤ◌, nat_abs, negsuc, pos, ℤ}
use lib.Signed.{lt_z, mag, non_neg}
use mathlib.Core.Bool.{Bool, ◌&&◌, false, true, true≢false}
use mathlib.Core.List.{[], ◌∷◌}
use mathlib.Core.Path.{◌∙◌, ◌≡◌, ap, refl, sym}
use mir.Facts.{to_z-of_z}
use mir.Syntax.{w64, w8}
use mir.Val.{Fits, SFits, of_z, to_z}
use native.Mathlib.Omega.{arith}
use Rattle.integers.proofs.Solver.{◌⊖◌, lit, ring, ⊝}
use Rattle.language.specs.Text.Classes.{print_delay, print_setting}
use Rattle.language.specs.Text.Number.{between, print_nat, print_number}
use Rattle.writer.proofs.Decimal.{print_few}
use Rattle.writer.specs.Written.{delay_of}

-- what a local that holds z reads as
abbrev pub rd : ℤ → ℤ
rd z = to_z w64 (of_z w64 z)

not_below : (n : ℕ) → lt_z (pos n) (pos 0) ≡ true → ⊥
not_below n e = let h : n < 0 = ltb-true n 0 e in omega arith

mag_abs : (z : ℤ) → nat_abs z ≤ mag z + 1
mag_abs (pos n) = omega arith
mag_abs (negsuc n) = omega arith

pub abs_small : (z : ℤ) → SFits w64 z → nat_abs z ≤ 2 ^ 63
abs_small z f = omega (arith, f.sfits, mag_abs z)

test_is : (z : ℤ) → SFits w64 z → (t : Bool) → lt_z (rd z) (pos 0) ≡ t → lt_z z (pos 0) ≡ t
test_is z f t e = rw (to_z-of_z f) at e

-- ---- the texts of numbers and delays

number_below : (z : ℤ) → lt_z z (pos 0) ≡ true → print_number z ≡ 45 ∷ print_nat (nat_abs z)
unfolding print_number
number_below (pos n) e = absurd (not_below n e)
number_below (negsuc n) e = refl

number_above : (z : ℤ) → lt_z z (pos 0) ≡ false → print_number z ≡ print_nat (nat_abs z)
unfolding print_number
number_above (pos n) e = refl
number_above (negsuc n) e = absurd (true≢false e)

setting_below : (z : ℤ) → lt_z z (pos 0) ≡ true → print_delay (delay_of z) ≡ 80 ∷ (48 + (nat_abs z - 1) % 8) ∷ []
unfolding print_delay print_setting
setting_below (pos n) e = absurd (not_below n e)
setting_below (negsuc n) e = let s : suc n - 1 ≡ n = omega arith in rw s

months_above : (z : ℤ) → lt_z z (pos 0) ≡ false → print_delay (delay_of z) ≡ print_nat (nat_abs z)
unfolding print_delay
months_above (pos n) e = refl
months_above (negsuc n) e = absurd (true≢false e)

abs_some : (z : ℤ) → lt_z z (pos 0) ≡ true → 1 ≤ nat_abs z
abs_some (pos n) e = absurd (not_below n e)
abs_some (negsuc n) e = omega arith

-- the same of what a local reads as, with m its distance from zero
module _ (z : ℤ) (f : SFits w64 z) (m : ℕ) (q : m ≡ nat_abs z) where
  pub small : m ≤ 2 ^ 63
  small = omega (arith, abs_small z f)

  pub print_below : lt_z (rd z) (pos 0) ≡ true → print_number z ≡ 45 ∷ print_nat m
  print_below e = rw q (number_below z (test_is z f true e))

  pub print_above : lt_z (rd z) (pos 0) ≡ false → print_number z ≡ print_nat m
  print_above e = rw q (number_above z (test_is z f false e))

  pub delay_below : lt_z (rd z) (pos 0) ≡ true → print_delay (delay_of z) ≡ 80 ∷ (48 + (m - 1) % 8) ∷ []
  delay_below e = rw q (setting_below z (test_is z f true e))

  pub delay_above : lt_z (rd z) (pos 0) ≡ false → print_delay (delay_of z) ≡ print_nat m
  delay_above e = rw q (months_above z (test_is z f false e))

  pub some_below : lt_z (rd z) (pos 0) ≡ true → 1 ≤ m
  some_below e = omega (arith, abs_some z (test_is z f true e))

-- ---- short numbers

from_zero : (b : ℕ) (z : ℤ) → between (pos 0) (pos b) z ≡ true → (nat_abs z ≤ b) × T (non_neg z) × (print_number z ≡ print_nat (nat_abs z))
unfolding print_number
from_zero b (pos n) e = (leb-true n b (both (leb 0 n) (leb n b) e), tt, refl)
  where
    both : (a b : Bool) → a && b ≡ true → b ≡ true
    both true b e = e
    both false b e = absurd (true≢false (sym e))
from_zero b (negsuc n) e = absurd (true≢false (sym e))

pub short_text : (z : ℤ) (m : ℕ) → m ≡ nat_abs z → between (pos 0) (pos 9_999) z ≡ true → (m < 10_000) × (print_number z ≡ print_nat m)
short_text z m q e = (omega (arith, (from_zero 9_999 z e).0), (from_zero 9_999 z e).2 ∙ ap print_nat (sym q))

digit_parts : (z : ℤ) → between (pos 0) (pos 9) z ≡ true → (nat_abs z < 10) × T (non_neg z) × (print_number z ≡ (48 + nat_abs z) ∷ [])
digit_parts z e = let h = from_zero 9 z e in let l : nat_abs z < 10 = omega (arith, h.0) in (l, h.1, h.2 ∙ print_few (nat_abs z) l)

pub digit_text : (z : ℤ) → between (pos 0) (pos 9) z ≡ true → print_number z ≡ (48 + nat_abs z) ∷ []
digit_text z e = (digit_parts z e).2

module _ (z : ℤ) (f : SFits w64 z) (e : between (pos 0) (pos 9) z ≡ true) where
  pub digit_cast : T (non_neg (rd z)) × Fits w8 (nat_abs (rd z))
  digit_cast = rw (to_z-of_z f) ((digit_parts z e).1, record { fits = omega (arith, (digit_parts z e).0) })

  pub digit_byte : Fits w8 (48 + nat_abs (rd z))
  digit_byte = rw (to_z-of_z f) (record { fits = omega (arith, (digit_parts z e).0) })

  pub digit_is : print_number z ≡ (48 + nat_abs (rd z)) ∷ []
  digit_is = rw (to_z-of_z f) (digit_text z e)
