-- The plan, payoff, amount or test that stands at a node. What is not there is nothing, or 0.
use Rattle.std.specs.Prelude.{◌+◌, suc, zero, ℕ, pos, ℤ, List}
use Rattle.language.specs.Limits.{max_nodes}
use Rattle.language.specs.Text.Trees.{Amount, Payoff, Plan, Test, await, both, choose, conjunction, cut, difference, disjunction, equal, index, later, leaf, less, negation, nil, nothing, number, plus, product, quotient, scale, sum, times, transfer, uncut, within}
use Rattle.nodes.specs.declared.AmountLetter.{AmountLetter}
use Rattle.nodes.specs.declared.AmountLetter.TheVariants.{Choose, Difference, Index, NoAmount, Number, Product, Quotient, Sum}
use Rattle.nodes.specs.declared.PayoffLetter.{PayoffLetter}
use Rattle.nodes.specs.declared.PayoffLetter.TheVariants.{Await, Cut, Nil, NoPayoff, Plus, Times, Uncut}
use Rattle.nodes.specs.declared.PlanLetter.{PlanLetter}
use Rattle.nodes.specs.declared.PlanLetter.TheVariants.{Both, Later, NoPlan, Nothing, Scale, Transfer, Within}
use Rattle.nodes.specs.declared.TestLetter.{TestLetter}
use Rattle.nodes.specs.declared.TestLetter.TheVariants.{Conjunction, Disjunction, Equal, Less, Negation, NoTest}
use Rattle.nodes.specs.Letters.{letter_of_amount, letter_of_payoff, letter_of_plan, letter_of_test}
use Rattle.nodes.specs.Table.{link_at, nat_of, slot_at}

-- ---- amounts and tests: by the letter, from the row's numbers and what stands at the children's places

-- a and m are the first number and the month; t, x stand at the first child's place, y and z at the second's and the third's
abbrev pub amount_by : {M : Type 0} → AmountLetter → ℤ → M → Test M → Amount M → Amount M → Amount M → Amount M
amount_by Number a m t x y z = number a
amount_by Index a m t x y z = index (nat_of a) m
amount_by Sum a m t x y z = sum x y
amount_by Difference a m t x y z = difference x y
amount_by Product a m t x y z = product x y
amount_by Quotient a m t x y z = quotient (nat_of a) x
amount_by Choose a m t x y z = choose t y z
amount_by NoAmount a m t x y z = number (pos 0)

abbrev pub no_test : {M : Type 0} → Test M
no_test = less (number (pos 0)) (number (pos 0))

abbrev pub test_by : {M : Type 0} → TestLetter → Amount M → Amount M → Test M → Test M → Test M
test_by Less x y s t = less x y
test_by Equal x y s t = equal x y
test_by Conjunction x y s t = conjunction s t
test_by Disjunction x y s t = disjunction s t
test_by Negation x y s t = negation s
test_by NoTest x y s t = no_test

-- `when` makes a month of the two numbers that an `O` has for it; at most `left` levels are looked at
module _ {M : Type 0} (when : ℤ → ℤ → M) where
  unfoldable mutual
    pub amount_at : ℕ → List ℤ → ℕ → Amount M
    amount_at zero nodes at = number (pos 0)
    amount_at (suc left) nodes at =
        amount_by (letter_of_amount (slot_at nodes at 0)) (slot_at nodes at 1) (when (slot_at nodes at 2) (slot_at nodes at 3))
        (test_at left nodes (at + 1))
        (amount_at left nodes (at + 1))
        (amount_at left nodes (link_at nodes at 3))
        (amount_at left nodes (link_at nodes at 4))

    pub test_at : ℕ → List ℤ → ℕ → Test M
    test_at zero nodes at = no_test
    test_at (suc left) nodes at =
        test_by (letter_of_test (slot_at nodes at 0))
        (amount_at left nodes (at + 1))
        (amount_at left nodes (link_at nodes at 3))
        (test_at left nodes (at + 1))
        (test_at left nodes (link_at nodes at 3))

-- ---- plans and payoffs; an amount or test in them has all nodes left

-- a plan's month is the offset alone
abbrev pub offset_of : ℤ → ℤ → ℤ
offset_of i place = i

abbrev pub plan_by : {D : Type 0} → PlanLetter → D → ℤ → ℤ → Amount ℤ → Test ℤ → Plan D → Plan D → Plan D → Plan D
plan_by Nothing d p q a t x y z = nothing
plan_by Transfer d p q a t x y z = transfer (nat_of p) (nat_of q)
plan_by Scale d p q a t x y z = scale a y
plan_by Later d p q a t x y z = later d x
plan_by Both d p q a t x y z = both x y
plan_by Within d p q a t x y z = within d t y z
plan_by NoPlan d p q a t x y z = nothing

-- `delay` makes a delay of its number
module _ {D : Type 0} (delay : ℤ → D) where
  unfoldable pub plan_at : ℕ → List ℤ → ℕ → Plan D
  plan_at zero nodes at = nothing
  plan_at (suc left) nodes at =
      plan_by (letter_of_plan (slot_at nodes at 0)) (delay (slot_at nodes at 1)) (slot_at nodes at 1) (slot_at nodes at 2)
      (amount_at offset_of max_nodes nodes (at + 1))
      (test_at offset_of max_nodes nodes (at + 1))
      (plan_at left nodes (at + 1))
      (plan_at left nodes (link_at nodes at 3))
      (plan_at left nodes (link_at nodes at 4))

abbrev pub payoff_by : {D M : Type 0} → PayoffLetter → D → M → ℤ → ℤ → Amount M → Test M → Payoff D M → Payoff D M → Payoff D M → Payoff D M
payoff_by Nil d m p q a t x y z = nil
payoff_by Uncut d m p q a t x y z = leaf uncut m (nat_of p) (nat_of q)
payoff_by Cut d m p q a t x y z = leaf cut m (nat_of p) (nat_of q)
payoff_by Times d m p q a t x y z = times a y
payoff_by Plus d m p q a t x y z = plus x y
payoff_by Await d m p q a t x y z = await d t y z
payoff_by NoPayoff d m p q a t x y z = nil

module _ {D M : Type 0} (delay : ℤ → D) (when : ℤ → ℤ → M) where
  unfoldable pub payoff_at : ℕ → List ℤ → ℕ → Payoff D M
  payoff_at zero nodes at = nil
  payoff_at (suc left) nodes at =
      payoff_by (letter_of_payoff (slot_at nodes at 0)) (delay (slot_at nodes at 1)) (when (slot_at nodes at 1) (slot_at nodes at 2)) (slot_at nodes at 3) (slot_at nodes at 4)
      (amount_at when max_nodes nodes (at + 1))
      (test_at when max_nodes nodes (at + 1))
      (payoff_at left nodes (at + 1))
      (payoff_at left nodes (link_at nodes at 3))
      (payoff_at left nodes (link_at nodes at 4))
