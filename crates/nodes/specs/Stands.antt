-- Every node that a walk from here comes to stands in the table.
use Rattle.std.specs.Prelude.{◌+◌, suc, zero, ℕ, T, ℤ, List}
use Rattle.std.specs.Int.Signed.{non_neg}
use Rattle.language.specs.Limits.{max_nodes}
use Rattle.nodes.specs.declared.AmountLetter.{AmountLetter}
use Rattle.nodes.specs.declared.AmountLetter.TheVariants.{Choose, Difference, Index, NoAmount, Number, Product, Quotient, Sum}
use Rattle.nodes.specs.declared.PayoffLetter.{PayoffLetter}
use Rattle.nodes.specs.declared.PayoffLetter.TheVariants.{Await, Cut, Nil, NoPayoff, Plus, Times, Uncut}
use Rattle.nodes.specs.declared.PlanLetter.{PlanLetter}
use Rattle.nodes.specs.declared.PlanLetter.TheVariants.{Both, Later, NoPlan, Nothing, Scale, Transfer, Within}
use Rattle.nodes.specs.declared.TestLetter.{TestLetter}
use Rattle.nodes.specs.declared.TestLetter.TheVariants.{Conjunction, Disjunction, Equal, Less, Negation, NoTest}
use Rattle.nodes.specs.Letters.{letter_of_amount, letter_of_payoff, letter_of_plan, letter_of_test}
use Rattle.nodes.specs.Table.{RowIn, link_at, slot_at}

-- of what holds at a node's children, what its letter asks: t, x of the first, y of the second, z of the third
abbrev pub amount_asks : AmountLetter → Type 0 → Type 0 → Type 0 → Type 0 → Type 0
amount_asks Number t x y z = Unit {0}
amount_asks Index t x y z = Unit {0}
amount_asks Sum t x y z = x × y
amount_asks Difference t x y z = x × y
amount_asks Product t x y z = x × y
amount_asks Quotient t x y z = x
amount_asks Choose t x y z = t × y × z
amount_asks NoAmount t x y z = Unit {0}

abbrev pub test_asks : TestLetter → Type 0 → Type 0 → Type 0 → Type 0 → Type 0
test_asks Less x y s t = x × y
test_asks Equal x y s t = x × y
test_asks Conjunction x y s t = s × t
test_asks Disjunction x y s t = s × t
test_asks Negation x y s t = s
test_asks NoTest x y s t = Unit {0}

-- a link leads forward
abbrev pub Forward : List ℤ → ℕ → ℕ → Type 0
Forward nodes at k = T (non_neg (slot_at nodes at k))

unfoldable mutual
  pub AmountStands : ℕ → List ℤ → ℕ → Type 0
  AmountStands zero nodes at = ⊥
  AmountStands (suc left) nodes at = RowIn nodes at × amount_asks (letter_of_amount (slot_at nodes at 0))
      (TestStands left nodes (at + 1))
      (AmountStands left nodes (at + 1))
      (Forward nodes at 3 × AmountStands left nodes (link_at nodes at 3))
      (Forward nodes at 4 × AmountStands left nodes (link_at nodes at 4))

  pub TestStands : ℕ → List ℤ → ℕ → Type 0
  TestStands zero nodes at = ⊥
  TestStands (suc left) nodes at = RowIn nodes at × test_asks (letter_of_test (slot_at nodes at 0))
      (AmountStands left nodes (at + 1))
      (Forward nodes at 3 × AmountStands left nodes (link_at nodes at 3))
      (TestStands left nodes (at + 1))
      (Forward nodes at 3 × TestStands left nodes (link_at nodes at 3))

-- a and t of the amount or test, x, y, z of the plans or payoffs at the first, second and third child's place
abbrev pub plan_asks : PlanLetter → Type 0 → Type 0 → Type 0 → Type 0 → Type 0 → Type 0
plan_asks Nothing a t x y z = Unit {0}
plan_asks Transfer a t x y z = Unit {0}
plan_asks Scale a t x y z = a × y
plan_asks Later a t x y z = x
plan_asks Both a t x y z = x × y
plan_asks Within a t x y z = t × y × z
plan_asks NoPlan a t x y z = Unit {0}

unfoldable pub PlanStands : ℕ → List ℤ → ℕ → Type 0
PlanStands zero nodes at = ⊥
PlanStands (suc left) nodes at = RowIn nodes at × plan_asks (letter_of_plan (slot_at nodes at 0))
    (AmountStands max_nodes nodes (at + 1))
    (TestStands max_nodes nodes (at + 1))
    (PlanStands left nodes (at + 1))
    (Forward nodes at 3 × PlanStands left nodes (link_at nodes at 3))
    (Forward nodes at 4 × PlanStands left nodes (link_at nodes at 4))

abbrev pub payoff_asks : PayoffLetter → Type 0 → Type 0 → Type 0 → Type 0 → Type 0 → Type 0
payoff_asks Nil a t x y z = Unit {0}
payoff_asks Uncut a t x y z = Unit {0}
payoff_asks Cut a t x y z = Unit {0}
payoff_asks Times a t x y z = a × y
payoff_asks Plus a t x y z = x × y
payoff_asks Await a t x y z = t × y × z
payoff_asks NoPayoff a t x y z = Unit {0}

unfoldable pub PayoffStands : ℕ → List ℤ → ℕ → Type 0
PayoffStands zero nodes at = ⊥
PayoffStands (suc left) nodes at = RowIn nodes at × payoff_asks (letter_of_payoff (slot_at nodes at 0))
    (AmountStands max_nodes nodes (at + 1))
    (TestStands max_nodes nodes (at + 1))
    (PayoffStands left nodes (at + 1))
    (Forward nodes at 3 × PayoffStands left nodes (link_at nodes at 3))
    (Forward nodes at 4 × PayoffStands left nodes (link_at nodes at 4))
