-- A label's value in a month, or refusal 11.
use Rattle.std.specs.Prelude.{◌≡◌, ℕ, ◌+◌, ◌*◌, ◌<◌, ◌≤◌, cond, T, List, [], length, ℤ, pos, ◌+ℤ◌, slice_index_or, unsigned_abs, None, Option, Some}
use Rattle.std.specs.Int.Signed.{non_neg}
use Rattle.language.specs.Answer.{Answer, got, refused}
use Rattle.language.specs.Limits.{max_back, max_labels, max_months}
use Rattle.language.specs.Rules.Table.{Table, readable, span, value_at}
use Rattle.tables.specs.Given.{table_of}
use Rattle.integers.specs.declared.Pence.{Pence}

-- "a read month outside -h to f .. or an absent label" is 11
unfoldable pub looked_up : Table → ℕ → ℤ → Answer ℤ
looked_up t l m = cond (readable t l m) (got (value_at t l m)) (refused 11)

unfoldable pub found_answer : Option Pence → Answer ℤ
found_answer (Some p) = got p.0
found_answer None = refused 11

-- a lookup takes h, f, bounds and values
abbrev pub read_table : ℤ → ℤ → List ℤ → List ℤ → Table
read_table h f bounds values = table_of h f [] bounds values

-- ---- places

-- where the value of label l in month m stands among the values of a table that covers months -h to f
unfoldable pub place_for : ℤ → ℤ → List ℤ → ℕ → ℤ → Option ℕ
place_for h f bounds l m = let t = read_table h f bounds [] in cond (readable t l m) (Some (l * span t + unsigned_abs (m +ℤ h))) None

-- a place among n values
unfoldable pub Inside : ℕ → Option ℕ → Type 0
Inside n (Some i) = i < n
Inside n None = Unit {0}

-- what stands there; no place is 11
unfoldable pub standing : List ℤ → Option ℕ → Answer ℤ
standing values (Some i) = got (slice_index_or values i (pos 0))
standing values None = refused 11

-- ---- ranges

-- the table's months keep the rules
pub record KeptSpan (h f : ℤ) : Type 0 where
  pub h_from : T (non_neg h)
  pub h_to : unsigned_abs h ≤ max_back
  pub f_from : T (non_neg f)
  pub f_to : unsigned_abs f ≤ max_months

-- and so do its counts
pub record Kept (h f : ℤ) (bounds values : List ℤ) : Type 0 where
  pub span : KeptSpan h f
  pub labels : length bounds ≤ max_labels
  pub count : length values ≡ length bounds * (unsigned_abs h + unsigned_abs f + 1)
