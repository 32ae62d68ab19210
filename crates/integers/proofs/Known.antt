-- What an answer tells a caller: an amount or value that came is the number itself and small, and out of range means beyond the limit.
use Prim.Native.Nat.{◌<◌}
use borrow.Author.Tests.{leb-false, leb-true}
use lib.Dec.{leb}
use lib.IntN.{nat_abs, pos, ℤ}
use mathlib.Core.Bool.{Bool, cond, false, false≢true, true, true≢false}
use mathlib.Core.Path.{◌≡◌, ap, refl}
use Rattle.integers.specs.Bounded.{Small, SmallValue, amount_limit, amount_within, value_limit, value_within}
use Rattle.integers.specs.declared.Millionths.{Millionths}
use Rattle.integers.specs.declared.Pence.{Pence}
use Rattle.std.specs.Prelude.{None, Option, Some}

-- ---- amounts
abbrev came : Option Pence → Bool
came (Some p) = true
came None = false

abbrev amount_of : Option Pence → ℤ
amount_of (Some p) = p.0
amount_of None = pos 0

pub amount_came : (z : ℤ) (p : Pence) → Some p ≡ amount_within z → (p.0 ≡ z) × Small z
unfolding amount_within
amount_came z p e = by (leb (nat_abs z) amount_limit) refl e
  where
    by : (b : Bool) → leb (nat_abs z) amount_limit ≡ b → Some p ≡ cond b (Some (record { 0 = z })) None → (p.0 ≡ z) × Small z
    by true h e = (ap amount_of e, record { small = leb-true (nat_abs z) amount_limit h })
    by false h e = absurd (true≢false (ap came e))

pub amount_beyond : (z : ℤ) → None ≡ amount_within z → amount_limit < nat_abs z
unfolding amount_within
amount_beyond z e = by (leb (nat_abs z) amount_limit) refl e
  where
    by : (b : Bool) → leb (nat_abs z) amount_limit ≡ b → ◌≡◌ {A = Option Pence} None (cond b (Some (record { 0 = z })) None) → amount_limit < nat_abs z
    by true h e = absurd (false≢true (ap came e))
    by false h e = leb-false (nat_abs z) amount_limit h

-- ---- values
abbrev value-came? : Option Millionths → Bool
value-came? (Some p) = true
value-came? None = false

abbrev value_of : Option Millionths → ℤ
value_of (Some p) = p.0
value_of None = pos 0

pub value_came : (z : ℤ) (p : Millionths) → Some p ≡ value_within z → (p.0 ≡ z) × SmallValue z
unfolding value_within
value_came z p e = by (leb (nat_abs z) value_limit) refl e
  where
    by : (b : Bool) → leb (nat_abs z) value_limit ≡ b → Some p ≡ cond b (Some (record { 0 = z })) None → (p.0 ≡ z) × SmallValue z
    by true h e = (ap value_of e, record { small = leb-true (nat_abs z) value_limit h })
    by false h e = absurd (true≢false (ap value-came? e))

pub value_beyond : (z : ℤ) → None ≡ value_within z → value_limit < nat_abs z
unfolding value_within
value_beyond z e = by (leb (nat_abs z) value_limit) refl e
  where
    by : (b : Bool) → leb (nat_abs z) value_limit ≡ b → ◌≡◌ {A = Option Millionths} None (cond b (Some (record { 0 = z })) None) → value_limit < nat_abs z
    by true h e = absurd (false≢true (ap value-came? e))
    by false h e = leb-false (nat_abs z) value_limit h
