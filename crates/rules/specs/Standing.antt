-- A plan that stands in the node table, from its first row on.
use Rattle.std.specs.Prelude.{◌*◌, ℕ, ℤ, take, List, ◌≡◌}
use Rattle.language.specs.Text.Form.{Formed, delay_in_form}
use Rattle.language.specs.Text.Letters.{plan_form}
use Rattle.language.specs.Text.Plans.{plan_trees}
use Rattle.language.specs.Text.Reader.{end}
use Rattle.language.specs.Text.Trees.{Delay, Plan}
use Rattle.nodes.specs.Rows.{count_of, rows}

-- the first `count` rows are those of the plan, which keeps the form
pub record Standing (nodes : List ℤ) (count : ℕ) (x : Plan Delay) : Type 0 where
  pub formed : Formed delay_in_form x
  pub counted : count ≡ count_of (plan_trees x end)
  pub lies : take (5 * count) nodes ≡ rows plan_form (plan_trees x end)

-- some plan does
pub record Stands (nodes : List ℤ) (count : ℕ) : Type 0 where
  pub plan : Plan Delay
  pub standing : Standing nodes count plan
