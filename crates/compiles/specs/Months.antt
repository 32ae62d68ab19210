-- A payoff's month as two numbers: the number it begins with, and its settings as digits in base 32.
use Rattle.std.specs.Prelude.{◌*◌, ◌+◌, ◌^◌, ◌≤◌, ℕ, ◌+ℤ◌, nat_abs, negsuc, neg_ℤ, pos, ℤ, cond, List, [], ◌∷◌}
use Rattle.copies.specs.Copied.{copy_row}
use Rattle.language.specs.Limits.{max_months}
use Rattle.language.specs.Text.Number.{between, byte}
use Rattle.language.specs.Text.Trees.{Delay, months, setting}

-- ---- one more delay

unfoldable pub plain_later : ℤ → Delay → ℤ
plain_later plain (months n) = plain +ℤ pos n
plain_later plain (setting k) = plain

unfoldable pub digits_later : ℤ → Delay → ℤ
digits_later digits (months n) = digits
digits_later digits (setting k) = digits +ℤ pos (32 ^ k)

-- the setting that a delay below zero stands for
abbrev pub setting_in : ℤ → ℕ
setting_in (pos n) = 0
setting_in (negsuc k) = k

-- ---- an `O`

-- a month and an offset; an offset that no plan has counts as 0
unfoldable pub offset_plain : ℤ → ℤ → ℤ
offset_plain plain i = cond (between (neg_ℤ (pos max_months)) (pos max_months) i) (plain +ℤ i) plain

unfoldable pub compiled_index : ℤ → ℤ → ℤ → ℤ → List ℤ
compiled_index plain digits label i = pos (byte "O") ∷ label ∷ offset_plain plain i ∷ digits ∷ pos 0 ∷ []

-- any row of an amount or test
abbrev pub compiled_row : ℤ → ℤ → List ℤ → List ℤ
compiled_row plain digits = copy_row (compiled_index plain digits)

-- ---- ranges

-- with `left` levels left, at most 600 months a level and one setting, P7 at most
pub record Near (plain digits : ℤ) (left : ℕ) : Type 0 where
  pub months : nat_abs plain + 600 * left ≤ 19_200
  pub settings : nat_abs digits + 34_359_738_368 * left ≤ 1_099_511_627_776
