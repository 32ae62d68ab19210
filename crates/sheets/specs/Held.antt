-- A sheet that was read into lists that hold its table, or all of a table that keeps the rules.
use Rattle.std.specs.Prelude.{◌-◌, ◌≤◌, ℕ, pos, ℤ, drop, length, replicate, take, List, ◌≡◌, None, Option, Result, Some}
use Rattle.language.specs.Limits.{sheet_bytes}
use Rattle.lines.specs.Sheets.{SheetRead}
use Rattle.language.specs.Sheet.{sheet_call}
use Rattle.lines.specs.declared.Sheet.{Sheet}
use Rattle.writer.specs.Answers.{written_answer}
use Rattle.writer.specs.declared.NoRoom.{NoRoom}

pub record SheetHeld (input : List ℕ) (days factors bounds values : List ℤ) (sheet : Sheet) : Type 0 where
  pub read : SheetRead input days factors bounds values sheet
  pub short : length input ≤ sheet_bytes
  pub settings : length days ≡ 9
  pub months : sheet.factors ≤ 601 → sheet.factors ≤ length factors
  pub labels : length bounds ≡ 8
  pub places : sheet.values ≤ 5288 → sheet.values ≤ length values

-- the bytes of the sheet's plan
abbrev pub plan_text : List ℕ → Sheet → List ℕ
plan_text input sheet = take (sheet.to - sheet.from) (drop sheet.from input)

-- a lent list holds a number for each month of a table that keeps the rules
abbrev pub MonthRoom : Sheet → List ℤ → Type 0
MonthRoom sheet months = sheet.factors ≤ 601 → sheet.factors ≤ length months

-- a lent list is cleared: payments are added to what stands in it
abbrev pub Cleared : List ℤ → Type 0
Cleared column = column ≡ replicate (length column) (pos 0)

-- what is answered with lists of so many months and places: the call's answer, or nothing yet, unless they hold every table that keeps the rules
abbrev pub TriedIs : List ℕ → ℕ → ℕ → List ℕ → List ℕ → Option (Result ℕ NoRoom) → Type 0
TriedIs input months places before after (Some written) = (after ≡ (sheet_call input before).buffer) × (written_answer written ≡ (sheet_call input before).answer)
TriedIs input months places before after None = (after ≡ before) × ((601 ≤ months) × (5288 ≤ places) → ⊥)
