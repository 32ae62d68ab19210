-- Amounts, tests and plans whose offsets have become places of a table's values.
use Rattle.std.specs.Prelude.{◌*◌, ℕ, ◌+ℤ◌, pos, ℤ}
use Rattle.language.specs.Rules.Table.{Table, span}
use Rattle.language.specs.Text.Trees.{Amount, Plan, Test, both, choose, conjunction, difference, disjunction, equal, index, later, less, negation, nothing, number, product, quotient, scale, sum, transfer, within}

-- where the value for month 0 stands, of label l at offset i
abbrev pub place_in : Table → ℕ → ℤ → ℤ
place_in t l i = (pos (l * span t) +ℤ t.h) +ℤ i

-- each `O` of label l with offset i becomes one with offset `place l i`
module _ (place : ℕ → ℤ → ℤ) where
  unfoldable mutual
    pub placed_amount : Amount ℤ → Amount ℤ
    placed_amount (number n) = number n
    placed_amount (index l i) = index l (place l i)
    placed_amount (sum a b) = sum (placed_amount a) (placed_amount b)
    placed_amount (difference a b) = difference (placed_amount a) (placed_amount b)
    placed_amount (product a b) = product (placed_amount a) (placed_amount b)
    placed_amount (quotient n a) = quotient n (placed_amount a)
    placed_amount (choose t a b) = choose (placed_test t) (placed_amount a) (placed_amount b)

    pub placed_test : Test ℤ → Test ℤ
    placed_test (less a b) = less (placed_amount a) (placed_amount b)
    placed_test (equal a b) = equal (placed_amount a) (placed_amount b)
    placed_test (conjunction s t) = conjunction (placed_test s) (placed_test t)
    placed_test (disjunction s t) = disjunction (placed_test s) (placed_test t)
    placed_test (negation t) = negation (placed_test t)

  -- the same in a plan, whatever its delays are
  unfoldable pub placed_plan : {D : Type 0} → Plan D → Plan D
  placed_plan nothing = nothing
  placed_plan (transfer p q) = transfer p q
  placed_plan (scale a x) = scale (placed_amount a) (placed_plan x)
  placed_plan (later d x) = later d (placed_plan x)
  placed_plan (both x y) = both (placed_plan x) (placed_plan y)
  placed_plan (within d t x y) = within d (placed_test t) (placed_plan x) (placed_plan y)
