-- When an amount or test can be worked out without checks: every read lies in the list, every result is in range, no divisor is 0.
use Rattle.std.specs.Prelude.{◌<◌, ◌≤◌, ℕ, T, ◌*ℤ◌, ◌+ℤ◌, ◌-ℤ◌, nat_abs, pos, ℤ, length, List}
use Rattle.std.specs.Int.Signed.{non_neg}
use Rattle.integers.specs.Bounded.{Small}
use Rattle.language.specs.Limits.{max_amount, max_months}
use Rattle.language.specs.Payments.Amounts.{value}
use Rattle.language.specs.Text.Trees.{Amount, Test, choose, conjunction, difference, disjunction, equal, index, less, negation, number, product, quotient, sum}
use Rattle.amounts.specs.Flat.{flat}

-- a month from 0 to 600
pub record MonthIn (month : ℤ) : Type 0 where
  pub known : T (non_neg month)
  pub within : nat_abs month ≤ max_months

-- the offset i leads from month r to a place of the list
pub record Reading (values : List ℤ) (r : ℕ) (i : ℤ) : Type 0 where
  pub near : Small i
  pub known : T (non_neg (pos r +ℤ i))
  pub inside : nat_abs (pos r +ℤ i) < length values

-- a divisor
pub record Divides (n : ℕ) : Type 0 where
  pub some : 0 < n
  pub small : n ≤ max_amount

-- for month r
unfoldable mutual
  pub Fine : List ℤ → ℕ → Amount ℤ → Type 0
  Fine values r (number n) = Small n
  Fine values r (index l i) = Reading values r i
  Fine values r (sum a b) = Fine values r a × Fine values r b × Small (value (flat values) a r +ℤ value (flat values) b r)
  Fine values r (difference a b) = Fine values r a × Fine values r b × Small (value (flat values) a r -ℤ value (flat values) b r)
  Fine values r (product a b) = Fine values r a × Fine values r b × Small (value (flat values) a r *ℤ value (flat values) b r)
  Fine values r (quotient n a) = Fine values r a × Divides n
  Fine values r (choose t a b) = FineTest values r t × Fine values r a × Fine values r b

  pub FineTest : List ℤ → ℕ → Test ℤ → Type 0
  FineTest values r (less a b) = Fine values r a × Fine values r b
  FineTest values r (equal a b) = Fine values r a × Fine values r b
  FineTest values r (conjunction s t) = FineTest values r s × FineTest values r t
  FineTest values r (disjunction s t) = FineTest values r s × FineTest values r t
  FineTest values r (negation t) = FineTest values r t
