-- A plan without open settings.
use Rattle.std.specs.Prelude.{ℕ, ℤ, List, ◌≡◌}
use Rattle.language.specs.Rules.Settings.{closed}
use Rattle.nodes.specs.Found.{plan_at}
use Rattle.nodes.specs.Rows.{delay_from}
use Rattle.nodes.specs.Table.{nat_of}

-- each delay of the plan at a node is a number of months: the plan found with its delays as numbers is the one that stands there
pub record ClosedAt (left : ℕ) (nodes : List ℤ) (at : ℕ) : Type 0 where
  pub is : closed (plan_at nat_of left nodes at) ≡ plan_at delay_from left nodes at
