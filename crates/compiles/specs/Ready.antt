-- A plan that can be compiled where it stands.
use Rattle.std.specs.Prelude.{◌≤◌, ℕ, pos, ℤ, List, ◌≡◌}
use Rattle.compiles.specs.Months.{Near}
use Rattle.copies.specs.Lies.{Lies}
use Rattle.language.specs.Text.Form.{delay_in_form, depth_of, fields_of}
use Rattle.language.specs.Text.Plans.{plan_trees}
use Rattle.language.specs.Text.Reader.{end}
use Rattle.language.specs.Text.Trees.{Delay, Month, Plan}
use Rattle.nodes.specs.Rows.{settings_slot}

-- the plan stands in the rows from node `at` up to node `to`; the two numbers are the sum of all delays above
pub record Ready (plain digits : ℤ) (nodes : List ℤ) (at to left : ℕ) : Type 0 where
  pub month : Month
  pub plain_is : plain ≡ month.plain
  pub digits_are : digits ≡ pos (settings_slot month.settings)
  pub near : Near plain digits left
  pub plan : Plan Delay
  pub lies : Lies nodes at to (plan_trees plan end)
  pub fields : fields_of delay_in_form plan
  pub depth : depth_of plan ≤ left
