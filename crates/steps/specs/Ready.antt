-- A plan that can be stepped where it stands.
use Rattle.std.specs.Prelude.{◌≤◌, ℕ, T, ℤ, true, List, ◌≡◌}
use Rattle.amounts.specs.Placed.{place_in, placed_plan}
use Rattle.copies.specs.Lies.{Lies}
use Rattle.language.specs.Limits.{max_amount, max_depth}
use Rattle.language.specs.Rules.Accepted.{reads_of, small_plan}
use Rattle.language.specs.Rules.Settings.{closed}
use Rattle.language.specs.Rules.Table.{Table, bound_at, readable, is_table}
use Rattle.language.specs.Text.Form.{depth_of, fields_of, filled_in_form}
use Rattle.language.specs.Text.Plans.{plan_trees}
use Rattle.language.specs.Text.Reader.{end}
use Rattle.language.specs.Text.Trees.{Plan}
use Rattle.tables.specs.Given.{table_of}

-- the plan y stands, its index readings resolved, in the rows from node `at` up to node `to`, and keeps the rules with its root in month r
pub record Steps (t : Table) (r : ℕ) (nodes : List ℤ) (at to left : ℕ) (y : Plan ℕ) : Type 0 where
  pub lies : Lies nodes at to (plan_trees (closed (placed_plan (place_in t) y)) end)
  pub fields : fields_of filled_in_form y
  pub reads : reads_of (λ l m. T (readable t l m)) y r
  pub small : small_plan (bound_at t) max_amount y
  pub depth : depth_of y ≤ left
  pub deep : left ≤ max_depth

-- some plan does, and the table keeps the rules
pub record Ready (h f : ℤ) (bounds values : List ℤ) (r : ℕ) (nodes : List ℤ) (at to left : ℕ) : Type 0 where
  pub factors : List ℤ
  pub ok : is_table (table_of h f factors bounds values) ≡ true
  pub plan : Plan ℕ
  pub steps : Steps (table_of h f factors bounds values) r nodes at to left plan
