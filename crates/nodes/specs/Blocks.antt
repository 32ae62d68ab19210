-- The rows of an amount or test stand together: from its node up to the node where the next part stands.
use Rattle.std.specs.Prelude.{◌+◌, suc, zero, ℕ, ℤ, List, ◌≡◌}
use Rattle.language.specs.Limits.{max_nodes}
use Rattle.nodes.specs.Letters.{letter_of_amount, letter_of_payoff, letter_of_plan, letter_of_test}
use Rattle.nodes.specs.Stands.{payoff_asks, plan_asks}
use Rattle.nodes.specs.Table.{link_at, slot_at}
use Rattle.nodes.specs.declared.AmountLetter.TheVariants.{Choose, Difference, Index, NoAmount, Number, Product, Quotient, Sum}
use Rattle.nodes.specs.declared.AmountLetter.{AmountLetter}
use Rattle.nodes.specs.declared.TestLetter.TheVariants.{Conjunction, Disjunction, Equal, Less, Negation, NoTest}
use Rattle.nodes.specs.declared.TestLetter.{TestLetter}

-- a and t say where an amount's or a test's rows stand; m and n are where the second and the third part start
abbrev pub amount_block : AmountLetter → (ℕ → ℕ → Type 0) → (ℕ → ℕ → Type 0) → ℕ → ℕ → ℕ → ℕ → Type 0
amount_block Number a t from m n to = to ≡ from + 1
amount_block Index a t from m n to = to ≡ from + 1
amount_block Sum a t from m n to = a (from + 1) m × a m to
amount_block Difference a t from m n to = a (from + 1) m × a m to
amount_block Product a t from m n to = a (from + 1) m × a m to
amount_block Quotient a t from m n to = a (from + 1) to
amount_block Choose a t from m n to = t (from + 1) m × a m n × a n to
amount_block NoAmount a t from m n to = ⊥

abbrev pub test_block : TestLetter → (ℕ → ℕ → Type 0) → (ℕ → ℕ → Type 0) → ℕ → ℕ → ℕ → Type 0
test_block Less a t from m to = a (from + 1) m × a m to
test_block Equal a t from m to = a (from + 1) m × a m to
test_block Conjunction a t from m to = t (from + 1) m × t m to
test_block Disjunction a t from m to = t (from + 1) m × t m to
test_block Negation a t from m to = t (from + 1) to
test_block NoTest a t from m to = ⊥

unfoldable mutual
  pub AmountBlock : ℕ → List ℤ → ℕ → ℕ → Type 0
  AmountBlock zero nodes from to = ⊥
  AmountBlock (suc left) nodes from to =
      amount_block (letter_of_amount (slot_at nodes from 0)) (λ i j. AmountBlock left nodes i j) (λ i j. TestBlock left nodes i j) from (link_at nodes from 3) (link_at nodes from 4) to

  pub TestBlock : ℕ → List ℤ → ℕ → ℕ → Type 0
  TestBlock zero nodes from to = ⊥
  TestBlock (suc left) nodes from to =
      test_block (letter_of_test (slot_at nodes from 0)) (λ i j. AmountBlock left nodes i j) (λ i j. TestBlock left nodes i j) from (link_at nodes from 3) to

-- in a plan, up to where the second child stands
unfoldable pub PlanBlocks : ℕ → List ℤ → ℕ → Type 0
PlanBlocks zero nodes at = ⊥
PlanBlocks (suc left) nodes at = plan_asks (letter_of_plan (slot_at nodes at 0))
    (AmountBlock max_nodes nodes (at + 1) (link_at nodes at 3))
    (TestBlock max_nodes nodes (at + 1) (link_at nodes at 3))
    (PlanBlocks left nodes (at + 1))
    (PlanBlocks left nodes (link_at nodes at 3))
    (PlanBlocks left nodes (link_at nodes at 4))

-- in a payoff likewise
unfoldable pub PayoffBlocks : ℕ → List ℤ → ℕ → Type 0
PayoffBlocks zero nodes at = ⊥
PayoffBlocks (suc left) nodes at = payoff_asks (letter_of_payoff (slot_at nodes at 0))
    (AmountBlock max_nodes nodes (at + 1) (link_at nodes at 3))
    (TestBlock max_nodes nodes (at + 1) (link_at nodes at 3))
    (PayoffBlocks left nodes (at + 1))
    (PayoffBlocks left nodes (link_at nodes at 3))
    (PayoffBlocks left nodes (link_at nodes at 4))
