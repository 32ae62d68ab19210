-- What is known at a plan's node once its letter is: the plan that stands there, that its parts stand, and that it can be worked out.
use Prim.Native.Nat.{◌+◌, ◌-◌, ◌<◌, suc, zero, ℕ}
use lib.IntN.{ℤ}
use mathlib.Core.List.{List}
use mathlib.Core.Path.{◌∙◌, ◌≡◌, subst, sym}
use native.Mathlib.Omega.{arith}
use Rattle.language.specs.Limits.{max_nodes}
use Rattle.language.specs.Payments.Pays.{Sign}
use Rattle.language.specs.Text.Trees.{Plan}
use Rattle.nodes.specs.Found.{amount_at, offset_of, plan_at, plan_by, test_at}
use Rattle.nodes.specs.Letters.{letter_of_plan}
use Rattle.nodes.specs.Stands.{AmountStands, Forward, PlanStands, TestStands, plan_asks}
use Rattle.nodes.specs.Table.{RowIn, link_at, nat_of, slot_at}
use Rattle.nodes.specs.declared.PlanLetter.{PlanLetter}
use Rattle.pays.specs.FinePlan.{FinePlan}

-- the plan that a letter makes of a node's row and parts, with `left` levels left at the node
abbrev pub plan_of : List ℤ → ℕ → ℕ → PlanLetter → Plan ℕ
plan_of nodes left at l =
    plan_by l (nat_of (slot_at nodes at 1)) (slot_at nodes at 1) (slot_at nodes at 2)
    (amount_at offset_of max_nodes nodes (at + 1))
    (test_at offset_of max_nodes nodes (at + 1))
    (plan_at nat_of (left - 1) nodes (at + 1))
    (plan_at nat_of (left - 1) nodes (link_at nodes at 3))
    (plan_at nat_of (left - 1) nodes (link_at nodes at 4))

-- what the letter asks of the parts
abbrev pub plan_stands_by : List ℤ → ℕ → ℕ → PlanLetter → Type 0
plan_stands_by nodes left at l =
    plan_asks l
    (AmountStands max_nodes nodes (at + 1))
    (TestStands max_nodes nodes (at + 1))
    (PlanStands (left - 1) nodes (at + 1))
    (Forward nodes at 3 × PlanStands (left - 1) nodes (link_at nodes at 3))
    (Forward nodes at 4 × PlanStands (left - 1) nodes (link_at nodes at 4))

pub record PlanNode (values nodes : List ℤ) (sg : Sign) (r m left at : ℕ) (l : PlanLetter) : Type 0 where
  pub some : 0 < left
  pub inside : RowIn nodes at
  pub stands : plan_stands_by nodes left at l
  pub tree : plan_at nat_of left nodes at ≡ plan_of nodes left at l
  pub fine : FinePlan values sg (plan_of nodes left at l) r m

less_one : (n : ℕ) → suc n - 1 ≡ n
less_one n = omega arith

pub plan_tree : (nodes : List ℤ) (left at : ℕ) → PlanStands left nodes at → plan_at nat_of left nodes at ≡ plan_of nodes left at (letter_of_plan (slot_at nodes at 0))
unfolding plan_at PlanStands
plan_tree nodes zero at s = absurd s
plan_tree nodes (suc left) at s = rw (less_one left)

pub plan_asks_lem : (nodes : List ℤ) (left at : ℕ) → PlanStands left nodes at → (0 < left) × RowIn nodes at × plan_stands_by nodes left at (letter_of_plan (slot_at nodes at 0))
unfolding PlanStands
plan_asks_lem nodes zero at s = absurd s
plan_asks_lem nodes (suc left) at s = rw (less_one left) (omega arith, s.0, s.1)

pub plan_inside : (nodes : List ℤ) (left at : ℕ) → PlanStands left nodes at → RowIn nodes at
plan_inside nodes left at h = (plan_asks_lem nodes left at h).1

-- l is the letter that the code finds, k that of the arm
pub plan_node : (values nodes : List ℤ) (sg : Sign) (r m left at : ℕ) → PlanStands left nodes at → FinePlan values sg (plan_at nat_of left nodes at) r m
    → {l k : PlanLetter} → l ≡ letter_of_plan (slot_at nodes at 0) → l ≡ k → PlanNode values nodes sg r m left at k
plan_node values nodes sg r m left at h f el e =
    let a = plan_asks_lem nodes left at h in
    let t = plan_tree nodes left at h in
    subst (PlanNode values nodes sg r m left at) (sym el ∙ e)
    (record { some = a.0; inside = a.1; stands = a.2; tree = t; fine = subst (λ x. FinePlan values sg x r m) t f })
