-- What rows that stand together give: their latest read, whether each `O` can be read, and their magnitudes summed.
use Rattle.std.specs.Prelude.{◌+◌, min, suc, zero, ℕ, ltb, nat_abs, pos, ℤ, Bool, ◌&&◌, cond, true, List}
use Rattle.integers.specs.Equal.{eq_z}
use Rattle.language.specs.Rules.Measures.{Latest, at_most, later_of, no_month}
use Rattle.language.specs.Text.Number.{byte}
use Rattle.measures.specs.Magnitudes.{beyond}
use Rattle.measures.specs.declared.reads.Window.{Window}
use Rattle.nodes.specs.Letters.{letter_of_amount}
use Rattle.nodes.specs.Table.{nat_of, slot_at}
use Rattle.nodes.specs.declared.AmountLetter.TheVariants.{Choose, Difference, Index, NoAmount, Number, Product, Quotient, Sum}
use Rattle.nodes.specs.declared.AmountLetter.{AmountLetter}
use Rattle.std.specs.Int.Signed.{le_z}

-- n rows from one on, each by `row`, joined by `op`
unfoldable pub rows_of : {A : Type 0} → A → (A → A → A) → (ℕ → A) → ℕ → ℕ → A
rows_of none op row zero from = none
rows_of none op row (suc n) from = op (row from) (rows_of none op row n (from + 1))

abbrev pub holds_index : ℤ → Bool
holds_index x = eq_z x (pos (byte "O"))

-- what a row gives: an `O` by its label and offset, another nothing
abbrev pub row_by : {A : Type 0} → A → (ℕ → ℤ → A) → List ℤ → ℕ → A
row_by none read nodes at = cond (holds_index (slot_at nodes at 0)) (read (nat_of (slot_at nodes at 1)) (slot_at nodes at 2)) none

abbrev pub row_latest : List ℤ → ℕ → Latest
row_latest nodes at = row_by no_month (λ l i. at_most i) nodes at

abbrev pub rows_latest : List ℤ → ℕ → ℕ → Latest
rows_latest nodes n from = rows_of no_month later_of (λ at. row_latest nodes at) n from

-- a label and an offset that can be read
abbrev pub in_window : Window → ℕ → ℤ → Bool
in_window w l i = ltb l w.labels && (le_z w.low i && le_z i w.high)

abbrev pub row_reads : Window → List ℤ → ℕ → Bool
row_reads w nodes at = row_by true (λ l i. in_window w l i) nodes at

abbrev pub rows_read : Window → List ℤ → ℕ → ℕ → Bool
rows_read w nodes n from = rows_of true ◌&&◌ (λ at. row_reads w nodes at) n from

-- what a row adds to the magnitudes of rows: an `N` its distance from zero, an `O` its bound; a `K` or an `I`, which is no sum, counts as beyond
abbrev pub magnitude_by : (ℕ → ℕ) → AmountLetter → ℤ → ℕ
magnitude_by bound Number n = min (nat_abs n) beyond
magnitude_by bound Index n = bound (nat_of n)
magnitude_by bound Sum n = 0
magnitude_by bound Difference n = 0
magnitude_by bound Product n = beyond
magnitude_by bound Quotient n = 0
magnitude_by bound Choose n = beyond
magnitude_by bound NoAmount n = 0

abbrev pub row_magnitude : (ℕ → ℕ) → List ℤ → ℕ → ℕ
row_magnitude bound nodes at = magnitude_by bound (letter_of_amount (slot_at nodes at 0)) (slot_at nodes at 1)

abbrev pub rows_magnitude : (ℕ → ℕ) → List ℤ → ℕ → ℕ → ℕ
rows_magnitude bound nodes n from = rows_of 0 ◌+◌ (λ at. row_magnitude bound nodes at) n from
