-- A pass over the delays need not stop at the rows of amounts and tests: they have none.
use Rattle.std.specs.Prelude.{◌≡◌, ℕ, zero, suc, ◌-◌, ◌<◌, ◌≤◌, Bool, true, cond, not, ◌||◌, List, take, drop, ℤ, pos, slice_index_or}
use Rattle.integers.specs.Equal.{eq_z}
use Rattle.language.specs.Text.Number.{byte}
use Rattle.nodes.specs.Pass.{all_rows}
use Rattle.nodes.specs.Table.{nat_of}
use Rattle.tables.specs.Fill.{has_delay}

-- an `S` has an amount and a `W` a test in front of its first plan
abbrev pub starts_apart : List ℤ → Bool
starts_apart row = eq_z (slice_index_or row 0 (pos 0)) (pos (byte "S")) || eq_z (slice_index_or row 0 (pos 0)) (pos (byte "W"))

-- how far behind a row the pass goes on: at the first plan of such a row, which is its second child, else at the next row
unfoldable pub plan_step : List ℤ → ℕ
plan_step row = cond (starts_apart row) (nat_of (slice_index_or row 3 (pos 0))) 1

abbrev pub without_delay : List ℤ → Bool
without_delay row = not (has_delay row)

-- of n rows, the first leads forward and not beyond their end, and no delay stands in between
pub record Leads (n : ℕ) (nodes : List ℤ) : Type 0 where
  pub forward : 0 < plan_step (take 5 nodes)
  pub inside : plan_step (take 5 nodes) ≤ n
  pub plain : all_rows without_delay (plan_step (take 5 nodes) - 1) (drop 5 nodes) ≡ true

-- each of the first n rows does
unfoldable pub Skips : ℕ → List ℤ → Type 0
Skips zero nodes = Unit {0}
Skips (suc n) nodes = Leads (suc n) nodes × Skips n (drop 5 nodes)
