-- What an answer of the code about a whole sheet means.
use Rattle.std.specs.Prelude.{◌-◌, ◌≤◌, ℕ, ℤ, drop, length, take, List, ◌≡◌, None, Option, Some}
use Rattle.language.specs.Answer.{◌>>=◌, got, refused}
use Rattle.language.specs.Sheet.{lines_of, sheet_of}
use Rattle.language.specs.Text.Fields.{split_at}
use Rattle.language.specs.Text.Number.{byte}
use Rattle.lines.specs.declared.Sheet.{Sheet}
use Rattle.language.specs.Sheet as paper

-- n numbers were read; the list holds them where it has room for all
pub record Kept (numbers list : List ℤ) (n : ℕ) : Type 0 where
  pub count : length numbers ≡ n
  pub holds : n ≤ length list → take n list ≡ numbers

-- the paper's sheet, held by the code's
pub record Holds (input : List ℕ) (days factors bounds values : List ℤ) (code : Sheet) (sheet : paper.Sheet) : Type 0 where
  pub plan_is : sheet.plan ≡ take (code.to - code.from) (drop code.from input)
  pub order : code.from ≤ code.to
  pub inside : code.to ≤ length input
  pub days_kept : Kept sheet.given.settings days code.days
  pub h_is : sheet.given.table.h ≡ code.h
  pub f_is : sheet.given.table.f ≡ code.f
  pub factors_kept : Kept sheet.given.table.factors factors code.factors
  pub bounds_kept : Kept sheet.given.table.bounds bounds code.labels
  pub values_kept : Kept sheet.given.table.values values code.values
  pub from_is : sheet.from ≡ code.p
  pub to_is : sheet.to ≡ code.q

pub record SheetRead (input : List ℕ) (days factors bounds values : List ℤ) (code : Sheet) : Type 0 where
  pub sheet : paper.Sheet
  pub is : (lines_of (split_at (byte "\n") input) >>= λ ls. sheet_of ls) ≡ got sheet
  pub held : Holds input days factors bounds values code sheet

abbrev pub SheetIs : List ℕ → List ℤ → List ℤ → List ℤ → List ℤ → Option Sheet → Type 0
SheetIs input days factors bounds values (Some code) = SheetRead input days factors bounds values code
SheetIs input days factors bounds values None = (lines_of (split_at (byte "\n") input) >>= λ ls. sheet_of ls) ≡ refused 2
