-- Filling the open settings of a node table, row by row.
use Rattle.std.specs.Prelude.{◌≡◌, ℕ, Bool, true, false, cond, ◌||◌, List, set, ℤ, pos, slice_index_or, slice_set, Err, Ok, Result}
use Rattle.integers.specs.Equal.{eq_z}
use Rattle.language.specs.Rules.Settings.{delay_of, delay_set}
use Rattle.language.specs.Rules.Table.{setting_at}
use Rattle.language.specs.Text.Number.{byte}
use Rattle.nodes.specs.Pass.{all_rows, map_rows, row_from, with_row}
use Rattle.nodes.specs.Rows.{delay_from}
use Rattle.tables.specs.declared.fill.Unset.{Unset}

-- the rows of `L` and `W` begin with a delay
abbrev pub has_delay : List ℤ → Bool
has_delay row = eq_z (slice_index_or row 0 (pos 0)) (pos (byte "L")) || eq_z (slice_index_or row 0 (pos 0)) (pos (byte "W"))

-- a delay's number, filled
unfoldable pub fill_delay : List ℤ → ℤ → ℤ
fill_delay days z = pos (delay_of (setting_at days) (delay_from z))

unfoldable pub fill_row : List ℤ → List ℤ → List ℤ
fill_row days row = cond (has_delay row) (slice_set row 1 (fill_delay days (slice_index_or row 1 (pos 0)))) row

-- an open delay's setting is set
unfoldable pub row_set : List ℤ → List ℤ → Bool
row_set days row = cond (has_delay row) (delay_set days (delay_from (slice_index_or row 1 (pos 0)))) true

-- what the pass answers, and what the table then holds; a table with an unset setting is of no use any more
abbrev pub FillIs : List ℤ → ℕ → List ℤ → List ℤ → Result Unit Unset → Type 0
FillIs days count before after (Ok _) = (all_rows (row_set days) count before ≡ true) × (after ≡ map_rows (fill_row days) count before)
FillIs days count before after (Err _) = all_rows (row_set days) count before ≡ false

-- the same for the row from number `at` on
abbrev pub RowIs : List ℤ → ℕ → List ℤ → List ℤ → Result Unit Unset → Type 0
RowIs days at before after (Ok _) = (row_set days (row_from at before) ≡ true) × (after ≡ with_row at (fill_row days (row_from at before)) before)
RowIs days at before after (Err _) = row_set days (row_from at before) ≡ false

-- and for one number of the table
abbrev pub SlotIs : List ℤ → ℕ → List ℤ → List ℤ → Result Unit Unset → Type 0
SlotIs days at before after (Ok _) = (delay_set days (delay_from (slice_index_or before at (pos 0))) ≡ true) × (after ≡ slice_set before at (fill_delay days (slice_index_or before at (pos 0))))
SlotIs days at before after (Err _) = delay_set days (delay_from (slice_index_or before at (pos 0))) ≡ false
