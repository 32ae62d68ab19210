-- Trees of a plan that lie in the node table from one node up to another.
use Rattle.std.specs.Prelude.{◌*◌, ◌+◌, ◌≤◌, ℕ, ℤ, drop, List, ◌++◌, ◌≡◌}
use Rattle.language.specs.Limits.{max_nodes}
use Rattle.language.specs.Text.Letters.{PlanLetter, plan_form}
use Rattle.language.specs.Text.Reader.{Trees}
use Rattle.nodes.specs.Rows.{count_of, rows}

pub record Lies (nodes : List ℤ) (from to : ℕ) (t : Trees PlanLetter) : Type 0 where
  pub rest : List ℤ
  pub is : drop (from * 5) nodes ≡ rows plan_form t ++ rest
  pub ends : to ≡ from + count_of t
  pub room : to ≤ max_nodes
