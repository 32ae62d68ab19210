-- What is left of a column from a month on.
use Rattle.std.specs.Prelude.{◌+◌, ◌-◌, ◌≤◌, ℕ, ◌*ℤ◌, pos, ℤ, get_or, List}
use Rattle.integers.specs.Bounded.{SmallValue}
use Rattle.language.specs.Payments.Pays.{sum_over}

module _ (factors column : List ℤ) where
  -- a month's payment times its factor
  abbrev pub due_of : ℕ → ℤ
  due_of m = get_or factors m (pos 0) *ℤ get_or column m (pos 0)

  -- that, added up in the months from m on and before `months`
  abbrev pub rest_from : ℕ → ℕ → ℤ
  rest_from months m = sum_over (months - m) (λ j. due_of (m + j))

  -- every such sum in the first months is in range
  pub record SumsFit (months : ℕ) : Type 0 where
    pub fit : (b a : ℕ) → b ≤ months → SmallValue (rest_from b a)
