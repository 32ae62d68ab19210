-- The wait of a `W` as the code answers it, and when it can be run without checks.
use Rattle.std.specs.Prelude.{◌+◌, ◌≤◌, ℕ, T, pos, ℤ, List}
use Rattle.std.specs.Int.Signed.{non_neg}
use Rattle.language.specs.Limits.{max_months}
use Rattle.language.specs.Payments.Pays.{Tried, hit, miss}
use Rattle.language.specs.Text.Trees.{Test}
use Rattle.nodes.specs.Table.{nat_of}
use Rattle.amounts.specs.Fine.{FineTest}
use Rattle.amounts.specs.declared.wait.Wait.{Wait}
use Rattle.amounts.specs.declared.wait.Wait.TheVariants.{Held, Missed}

-- the answer for the months that a wait tried
abbrev pub wait_of : Tried → Wait
wait_of (hit k) = Held (record { 0 = pos k })
wait_of (miss k) = Missed (record { 0 = pos k })

-- all months tried lie from 0 to 600
pub record MonthsIn (first d : ℤ) : Type 0 where
  pub first_known : T (non_neg first)
  pub delay_known : T (non_neg d)
  pub within : nat_of first + nat_of d ≤ max_months

-- the test can be worked out in each month tried
pub record FineMonths (values : List ℤ) (first d : ℕ) (t : Test ℤ) : Type 0 where
  pub fine : (r : ℕ) → first ≤ r → r ≤ first + d → FineTest values r t
