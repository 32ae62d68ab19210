-- The two answers, in range and out of it.
use Prim.Native.Nat.{◌<◌, ◌≤◌}
use borrow.Author.Tests.{le-leb, lt-leb}
use lib.IntN.{nat_abs, ℤ}
use mathlib.Core.Path.{◌≡◌}
use Rattle.integers.specs.Bounded.{amount_limit, amount_within, value_limit, value_within}
use Rattle.std.specs.Prelude.{None, Some}

pub amount_in : (z : ℤ) → nat_abs z ≤ amount_limit → Some (record { 0 = z }) ≡ amount_within z
unfolding amount_within
amount_in z h = rw (le-leb (nat_abs z) amount_limit h)

pub amount_out : (z : ℤ) → amount_limit < nat_abs z → None ≡ amount_within z
unfolding amount_within
amount_out z h = rw (lt-leb (nat_abs z) amount_limit h)

pub value_in : (z : ℤ) → nat_abs z ≤ value_limit → Some (record { 0 = z }) ≡ value_within z
unfolding value_within
value_in z h = rw (le-leb (nat_abs z) value_limit h)

pub value_out : (z : ℤ) → value_limit < nat_abs z → None ≡ value_within z
unfolding value_within
value_out z h = rw (lt-leb (nat_abs z) value_limit h)
