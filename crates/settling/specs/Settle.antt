-- Filling the open settings of a payoff's node table, row by row: months are summed once, before any month is tried.
use Rattle.std.specs.Prelude.{◌+◌, ℕ, leb, nat_abs, pos, ℤ, get_or, set, Bool, ◌&&◌, ◌||◌, cond, false, true, List, ◌≡◌, Err, Ok, Result}
use Rattle.std.specs.Int.Signed.{non_neg}
use Rattle.integers.specs.Equal.{eq_z}
use Rattle.language.specs.Limits.{max_month}
use Rattle.language.specs.Payoff.Evaluate.{month_of}
use Rattle.language.specs.Payoff.Settings.{month_set}
use Rattle.language.specs.Rules.Settings.{delay_set}
use Rattle.language.specs.Rules.Table.{setting_at}
use Rattle.language.specs.Text.Number.{byte}
use Rattle.nodes.specs.Pass.{all_rows, map_rows, row_from, with_row}
use Rattle.nodes.specs.Rows.{delay_from, month_from}
use Rattle.tables.specs.Fill.{fill_delay}
use Rattle.tables.specs.declared.fill.Unset.{Unset}

-- ---- which rows have a month or a delay

abbrev pub holds_index : List ℤ → Bool
holds_index row = eq_z (get_or row 0 (pos 0)) (pos (byte "O"))

abbrev pub is_leaf : List ℤ → Bool
is_leaf row = eq_z (get_or row 0 (pos 0)) (pos (byte "F")) || eq_z (get_or row 0 (pos 0)) (pos (byte "H"))

abbrev pub is_await : List ℤ → Bool
is_await row = eq_z (get_or row 0 (pos 0)) (pos (byte "W"))

-- ---- a month: the number at k, and its digits behind it

-- the sum, and no digits
unfoldable pub settle_month : List ℤ → ℕ → List ℤ → List ℤ
settle_month days k xs = set (set xs k (month_of (setting_at days) (month_from (get_or xs k (pos 0)) (get_or xs (k + 1) (pos 0))))) (k + 1) (pos 0)

unfoldable pub month_settled : List ℤ → ℕ → List ℤ → Bool
month_settled days k xs = month_set days (month_from (get_or xs k (pos 0)) (get_or xs (k + 1) (pos 0)))

-- a number and digits that a payoff in form may have
abbrev pub month_in : ℤ → ℤ → Bool
month_in plain digits = leb (nat_abs plain) max_month && non_neg digits

-- ---- rows

unfoldable pub settle_row : List ℤ → List ℤ → List ℤ
settle_row days row =
    cond (holds_index row) (settle_month days 2 row)
    (cond (is_leaf row) (settle_month days 1 row)
    (cond (is_await row) (set row 1 (fill_delay days (get_or row 1 (pos 0)))) row))

-- every setting that the row uses is set
unfoldable pub row_settled : List ℤ → List ℤ → Bool
row_settled days row =
    cond (holds_index row) (month_settled days 2 row)
    (cond (is_leaf row) (month_settled days 1 row)
    (cond (is_await row) (delay_set days (delay_from (get_or row 1 (pos 0)))) true))

unfoldable pub row_in : List ℤ → Bool
row_in row =
    cond (holds_index row) (month_in (get_or row 2 (pos 0)) (get_or row 3 (pos 0)))
    (cond (is_leaf row) (month_in (get_or row 1 (pos 0)) (get_or row 2 (pos 0))) true)

-- ---- what the pass answers, and what the table then holds; a table with an unset setting is of no use any more

abbrev pub SettleIs : List ℤ → ℕ → List ℤ → List ℤ → Result Unit Unset → Type 0
SettleIs days count before after (Ok _) = (all_rows (row_settled days) count before ≡ true) × (after ≡ map_rows (settle_row days) count before)
SettleIs days count before after (Err _) = all_rows (row_settled days) count before ≡ false

-- the same for the row from number `at` on
abbrev pub RowIs : List ℤ → ℕ → List ℤ → List ℤ → Result Unit Unset → Type 0
RowIs days at before after (Ok _) = (row_settled days (row_from at before) ≡ true) × (after ≡ with_row at (settle_row days (row_from at before)) before)
RowIs days at before after (Err _) = row_settled days (row_from at before) ≡ false

-- and for the month at number `at`
abbrev pub MonthIs : List ℤ → ℕ → List ℤ → List ℤ → Result Unit Unset → Type 0
MonthIs days at before after (Ok _) = (month_settled days at before ≡ true) × (after ≡ settle_month days at before)
MonthIs days at before after (Err _) = month_settled days at before ≡ false

-- rows that settings change nothing of, and that use none
abbrev pub Settled : ℕ → List ℤ → Type 0
Settled count nodes = (days : List ℤ) → SettleIs days count nodes nodes (Ok _)
