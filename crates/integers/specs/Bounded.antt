-- How far from zero an amount and a value may be, and the answer where one is further.
use Rattle.std.specs.Prelude.{◌≤◌, ℕ, leb, nat_abs, ℤ, cond, None, Option, Some}
use Rattle.integers.specs.declared.Millionths.{Millionths}
use Rattle.integers.specs.declared.Pence.{Pence}

-- amounts in whole pence
abbrev pub amount_limit : ℕ
amount_limit = 9_000_000_000_000

-- values in millionths of a penny
abbrev pub value_limit : ℕ
value_limit = 9_000_000_000_000_000_000

-- no further from zero than the limit of amounts
pub record Small (z : ℤ) : Type 0 where
  pub small : nat_abs z ≤ amount_limit

-- no further from zero than the limit of values
pub record SmallValue (z : ℤ) : Type 0 where
  pub small : nat_abs z ≤ value_limit

-- the amount, or out of range where it is beyond the limit either side of zero
unfoldable pub amount_within : ℤ → Option Pence
amount_within z = cond (leb (nat_abs z) amount_limit) (Some (record { 0 = z })) None

-- the value, or out of range where it is beyond the limit either side of zero
unfoldable pub value_within : ℤ → Option Millionths
value_within z = cond (leb (nat_abs z) value_limit) (Some (record { 0 = z })) None
