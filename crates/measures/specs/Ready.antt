-- A plan, amount or test that can be walked from a node on: the walk stays in the table, every field is in form, and in a plan the rows
-- of each amount and test stand together.
use Rattle.std.specs.Prelude.{◌+◌, ◌≤◌, ℕ, ℤ, List}
use Rattle.language.specs.Limits.{max_depth}
use Rattle.language.specs.Text.Form.{fields_of, fields_of_amount, fields_of_test, filled_in_form, offset_in_form}
use Rattle.nodes.specs.Blocks.{PlanBlocks}
use Rattle.nodes.specs.Found.{amount_at, offset_of, plan_at, test_at}
use Rattle.nodes.specs.Stands.{AmountStands, Forward, PlanStands, TestStands}
use Rattle.nodes.specs.Table.{RowIn, link_at, nat_of}

pub record AmountReady (left : ℕ) (nodes : List ℤ) (at : ℕ) : Type 0 where
  pub stands : AmountStands left nodes at
  pub fields : fields_of_amount offset_in_form (amount_at offset_of left nodes at)

pub record TestReady (left : ℕ) (nodes : List ℤ) (at : ℕ) : Type 0 where
  pub stands : TestStands left nodes at
  pub fields : fields_of_test offset_in_form (test_at offset_of left nodes at)

-- a plan, in which an open setting counts as no delay; `left` is the depth left
pub record PlanReady (left : ℕ) (nodes : List ℤ) (at : ℕ) : Type 0 where
  pub depth : left ≤ max_depth
  pub stands : PlanStands left nodes at
  pub fields : fields_of filled_in_form (plan_at nat_of left nodes at)
  pub blocks : PlanBlocks left nodes at

-- the two amounts, or the two tests, below a node
pub record AmountsReady (left : ℕ) (nodes : List ℤ) (at : ℕ) : Type 0 where
  pub room : RowIn nodes at
  pub first : AmountReady left nodes (at + 1)
  pub forward : Forward nodes at 3
  pub second : AmountReady left nodes (link_at nodes at 3)

pub record TestsReady (left : ℕ) (nodes : List ℤ) (at : ℕ) : Type 0 where
  pub room : RowIn nodes at
  pub first : TestReady left nodes (at + 1)
  pub forward : Forward nodes at 3
  pub second : TestReady left nodes (link_at nodes at 3)
