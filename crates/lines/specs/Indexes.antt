-- What an answer of the code about index lines means.
use Rattle.std.specs.Prelude.{◌+◌, ◌<◌, ◌≤◌, ℕ, pos, ℤ, drop, length, take, List, ◌++◌, ◌∷◌, ◌≡◌, None, Option, Some}
use Rattle.language.specs.Answer.{Answer, ◌>>=◌, got, refused}
use Rattle.language.specs.Sheet.{Indexes, index_line, index_lines, numbers, worded}
use Rattle.language.specs.Text.Fields.{split}
use Rattle.lines.specs.Lines.{lines_in}
use Rattle.lines.specs.declared.indexes.Index.{Index}
use Rattle.lines.specs.declared.indexes.Labels.{Labels}

-- the numbers of an index line
abbrev pub index_numbers : List ℕ → Answer (List ℤ)
index_numbers line = worded "index" (split line) >>= λ fs. numbers fs

pub record IndexAt (line : List ℕ) (label : ℕ) (months : ℤ) (before after : List ℤ) (from : ℕ) (bound : ℤ) (count : ℕ) : Type 0 where
  pub values : List ℤ
  pub is : index_numbers line ≡ got (pos label ∷ bound ∷ values)
  pub counted : length values ≡ count
  pub some : 0 < count
  pub fits : months ≡ pos count
  pub holds : from + count ≤ length before → take (from + count) after ≡ take from before ++ values
  pub bounded : count ≤ length line + 1

abbrev pub IndexIs : List ℕ → ℕ → ℤ → List ℤ → List ℤ → ℕ → Option Index → Type 0
IndexIs line label months before after from (Some it) = IndexAt line label months before after from it.bound it.count
IndexIs line label months before after from None = (rest : Indexes) → (index_numbers line >>= λ zs. index_line label months zs rest) ≡ refused 2

pub record LabelsAt (input : List ℕ) (at : ℕ) (months : ℤ) (bounds values : List ℤ) (count total : ℕ) : Type 0 where
  pub all : Indexes
  pub is : index_lines 0 months (lines_in (drop at input)) ≡ got all
  pub counted : length all.bounds ≡ count
  pub summed : length all.values ≡ total
  pub holds_bounds : count ≤ length bounds → take count bounds ≡ all.bounds
  pub holds_values : total ≤ length values → take total values ≡ all.values

abbrev pub LabelsAre : List ℕ → ℕ → ℤ → List ℤ → List ℤ → Option Labels → Type 0
LabelsAre input at months bounds values (Some it) = LabelsAt input at months bounds values it.labels it.values
LabelsAre input at months bounds values None = index_lines 0 months (lines_in (drop at input)) ≡ refused 2
