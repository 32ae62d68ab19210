-- A pass over the first rows of the table.
use Rattle.std.specs.Prelude.{◌+◌, suc, zero, ℕ, ℤ, drop, take, Bool, ◌&&◌, true, List, ◌++◌}

-- each of the first n rows changed by f
unfoldable pub map_rows : (List ℤ → List ℤ) → ℕ → List ℤ → List ℤ
map_rows f zero nodes = nodes
map_rows f (suc n) nodes = f (take 5 nodes) ++ map_rows f n (drop 5 nodes)

-- each of the first n rows passes the test
unfoldable pub all_rows : (List ℤ → Bool) → ℕ → List ℤ → Bool
all_rows p zero nodes = true
all_rows p (suc n) nodes = p (take 5 nodes) && all_rows p n (drop 5 nodes)

-- the row from number `at` on
abbrev pub row_from : ℕ → List ℤ → List ℤ
row_from at nodes = take 5 (drop at nodes)

-- the table with another row there
abbrev pub with_row : ℕ → List ℤ → List ℤ → List ℤ
with_row at row nodes = take at nodes ++ (row ++ drop (at + 5) nodes)
