-- A column of months: what is added to it, and when that can be done without checks.
use Rattle.std.specs.Prelude.{◌*◌, ◌+◌, ◌<◌, ◌≤◌, ℕ, eqb, ◌*ℤ◌, ◌+ℤ◌, nat_abs, pos, ℤ, get_or, length, cond, List, ◌≡◌}
use Rattle.amounts.specs.Fine.{Fine}
use Rattle.amounts.specs.Flat.{flat}
use Rattle.amounts.specs.Waits.{FineMonths}
use Rattle.integers.specs.Bounded.{Small}
use Rattle.language.specs.Limits.{max_amount, max_months}
use Rattle.language.specs.Payments.Amounts.{holds, value}
use Rattle.language.specs.Payments.Pays.{started, tried}
use Rattle.language.specs.Rules.Measures.{length_of, magnitude_of, magnitude_of_amount}
use Rattle.language.specs.Text.Trees.{Plan, both, later, nothing, scale, transfer, within}

-- each month of the column has w times what that month pays added
pub record Added (before after : List ℤ) (w : ℤ) (pay : ℕ → ℤ) : Type 0 where
  pub each : (m : ℕ) → m < length before → get_or after m (pos 0) ≡ get_or before m (pos 0) +ℤ w *ℤ pay m

-- what a penny that counts s pays, its root in month r
abbrev pub penny_in : ℤ → ℕ → ℕ → ℤ
penny_in s r m = cond (eqb r m) s (pos 0)

-- a penny of weight w fits into month r
pub record PennyFits (column : List ℤ) (r : ℕ) (w : ℤ) : Type 0 where
  pub inside : r < length column
  pub room : nat_abs (get_or column r (pos 0)) + nat_abs w ≤ max_amount

module _ (values : List ℤ) (bound : ℕ → ℕ) where
  -- the plan's root in month r: every amount on the way can be worked out, and is no further from zero than its magnitude
  unfoldable pub Sized : Plan ℕ → ℕ → Type 0
  Sized nothing r = Unit {0}
  Sized (transfer p q) r = Unit {0}
  Sized (scale a x) r = Fine values r a × Small (value (flat values) a r) × (nat_abs (value (flat values) a r) ≤ magnitude_of_amount bound a) × Sized x r
  Sized (later d x) r = (r + d ≤ max_months) × Sized x (r + d)
  Sized (both x y) r = Sized x r × Sized y r
  Sized (within d t x y) r = (r + d ≤ max_months) × FineMonths values r d t × started (λ k. Sized x k) (λ k. Sized y k) (tried (holds (flat values) t) d r)

-- the plan's payments, times w, fit into the column
pub record Weighed (values : List ℤ) (x : Plan ℕ) (r : ℕ) (w : ℤ) (column : List ℤ) : Type 0 where
  pub bound : ℕ → ℕ
  pub sized : Sized values bound x r
  pub light : Small w
  -- it pays in no month after its length
  pub months : r + length_of x < length column
  pub room : (m : ℕ) → m < length column → nat_abs (get_or column m (pos 0)) + nat_abs w * magnitude_of bound x ≤ max_amount
