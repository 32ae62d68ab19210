-- The rules of a filled plan, and what is then answered.
use Rattle.std.specs.Prelude.{◌≤◌, ℕ, T, nat_abs, pos, ℤ, Bool, ◌&&◌, List, []}
use Rattle.std.specs.Int.Signed.{non_neg}
use Rattle.language.specs.Answer.{Answer, ◌>>◌, got}
use Rattle.language.specs.Calls.{Checked, meets_rules}
use Rattle.language.specs.Limits.{max_back, max_months}
use Rattle.language.specs.Rules.Measures.{length_of, magnitude_of}
use Rattle.language.specs.Rules.Table.{Table, bound_at}
use Rattle.language.specs.Text.Number.{between}
use Rattle.language.specs.Text.Trees.{Plan}
use Rattle.measures.specs.Magnitudes.{InBounds}
use Rattle.tables.specs.Given.{table_of}

-- the length and the magnitude of a filled plan
abbrev pub checked_of : Table → Plan ℕ → Checked
checked_of t x = record { length = length_of x; magnitude = magnitude_of (bound_at t) x }

-- the rules look at h, f and the bounds alone
abbrev pub measured_by : ℤ → ℤ → List ℤ → ℕ → Plan ℕ → Answer Checked
measured_by h f bounds today x = meets_rules (table_of h f [] bounds []) today x >> got (checked_of (table_of h f [] bounds []) x)

-- the months and bounds of a table that keeps the rules, and a month of it
pub record InTable (today h f : ℤ) (bounds : List ℤ) : Type 0 where
  pub today_from : T (non_neg today)
  pub today_to : nat_abs today ≤ max_months
  pub h_from : T (non_neg h)
  pub h_to : nat_abs h ≤ max_back
  pub f_from : T (non_neg f)
  pub f_to : nat_abs f ≤ max_months
  pub bounded : InBounds bounds

-- the rule for the months that a table covers
abbrev pub span_ok : ℤ → ℤ → Bool
span_ok h f = between (pos 0) (pos max_back) h && between (pos 0) (pos max_months) f
