-- When what a plan pays can be worked out without checks: its months lie from 0 to 600, and every amount on the way is in range.
use Rattle.std.specs.Prelude.{◌+◌, ◌≤◌, ℕ, ◌*ℤ◌, ◌+ℤ◌, ℤ, List}
use Rattle.amounts.specs.Fine.{Fine}
use Rattle.amounts.specs.Flat.{flat}
use Rattle.amounts.specs.Waits.{FineMonths}
use Rattle.integers.specs.Bounded.{Small}
use Rattle.language.specs.Limits.{max_months}
use Rattle.language.specs.Payments.Amounts.{holds, value}
use Rattle.language.specs.Payments.Pays.{Sign, pays, started, tried}
use Rattle.language.specs.Text.Trees.{Plan, both, later, nothing, scale, transfer, within}

module _ (values : List ℤ) (sg : Sign) where
  -- for month m, the plan's root in month r; of a `W` only the plan that is started counts
  unfoldable pub FinePlan : Plan ℕ → ℕ → ℕ → Type 0
  FinePlan nothing r m = Unit {0}
  FinePlan (transfer p q) r m = Unit {0}
  FinePlan (scale a x) r m = Fine values r a × FinePlan x r m × Small (value (flat values) a r *ℤ pays (flat values) sg x r m)
  FinePlan (later d x) r m = (r + d ≤ max_months) × FinePlan x (r + d) m
  FinePlan (both x y) r m = FinePlan x r m × FinePlan y r m × Small (pays (flat values) sg x r m +ℤ pays (flat values) sg y r m)
  FinePlan (within d t x y) r m =
      (r + d ≤ max_months) × FineMonths values r d t × started (λ k. FinePlan x k m) (λ k. FinePlan y k m) (tried (holds (flat values) t) d r)
