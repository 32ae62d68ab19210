-- Index readings resolved: each `O` gets, in the place of its offset, the place of its value for month 0.
use Rattle.std.specs.Prelude.{ℕ, neg_ℤ, pos, ℤ, get_or, set, Bool, ◌&&◌, cond, true, List, [], ◌≡◌}
use Rattle.std.specs.Int.Signed.{le_z, lt_z}
use Rattle.amounts.specs.Placed.{place_in}
use Rattle.integers.specs.Equal.{eq_z}
use Rattle.language.specs.Limits.{max_back, max_labels, max_months}
use Rattle.language.specs.Text.Number.{between, byte}
use Rattle.nodes.specs.Table.{nat_of}
use Rattle.tables.specs.Given.{table_of}

-- ---- rows

-- the places of a table that covers months -h to f; nothing else of the table decides them
abbrev pub place_found : ℤ → ℤ → ℕ → ℤ → ℤ
place_found h f = place_in (table_of h f [] [] [])

abbrev pub holds_index : List ℤ → Bool
holds_index row = eq_z (get_or row 0 (pos 0)) (pos (byte "O"))

-- the row of an `O` with its place, any other row as it is
unfoldable pub placed_row : ℤ → ℤ → List ℤ → List ℤ
placed_row h f row = cond (holds_index row) (set row 2 (place_found h f (nat_of (get_or row 1 (pos 0))) (get_or row 2 (pos 0)))) row

-- ---- ranges

-- months that a table may cover
pub record SpanIn (h f : ℤ) : Type 0 where
  pub back : between (pos 0) (pos max_back) h ≡ true
  pub ahead : between (pos 0) (pos max_months) f ≡ true

-- a label and an offset that a plan in form may have
abbrev pub index_placed : ℤ → ℤ → Bool
index_placed label offset = le_z (pos 0) label && lt_z label (pos max_labels) && between (neg_ℤ (pos max_back)) (pos max_months) offset

unfoldable pub row_in : List ℤ → Bool
row_in row = cond (holds_index row) (index_placed (get_or row 1 (pos 0)) (get_or row 2 (pos 0))) true
