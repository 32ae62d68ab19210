-- What amounts and tests may rely on: months that can be added, values within their limit.
use Rattle.std.specs.Prelude.{◌+◌, ◌≤◌, ℕ, T, nat_abs, ℤ, List}
use Rattle.std.specs.Int.Signed.{non_neg}
use Rattle.language.specs.Limits.{max_amount, max_month}
use Rattle.language.specs.Rules.Table.{value_at}
use Rattle.nodes.specs.Table.{nat_of}
use Rattle.tables.specs.Lookup.{Kept, read_table}

-- a month of a payoff with its settings filled: at most 19,200, and 31 settings of 600
pub record Near (month : ℤ) : Type 0 where
  pub near : nat_abs month ≤ 37_800

-- months waited: at most 600 at each of 32 levels
pub record Waited (month : ℤ) : Type 0 where
  pub known : T (non_neg month)
  pub within : nat_of month ≤ max_month

-- four months in a row of them
pub record FourWaited (month : ℤ) : Type 0 where
  pub known : T (non_neg month)
  pub within : nat_of month + 3 ≤ max_month

-- the values of a table that keeps the rules
pub record Readable (h f : ℤ) (bounds values : List ℤ) : Type 0 where
  pub kept : Kept h f bounds values
  pub small : (l : ℕ) (m : ℤ) → nat_abs (value_at (read_table h f bounds values) l m) ≤ max_amount
