-- A plan's or payoff's table has a row for each of its nodes.
use Prim.Native.Nat.{◌+◌, ◌≤◌}
use mathlib.Core.Path.{◌≡◌}
use native.Mathlib.Omega.{arith}
use Rattle.language.specs.Limits.{max_nodes}
use Rattle.language.specs.Text.Classes.{Field, a_month, a_number}
use Rattle.language.specs.Text.Form.{Formed, delay_in_form, nodes_of, nodes_of_amount, nodes_of_test}
use Rattle.language.specs.Text.Letters.{PayoffLetter, PlanLetter}
use Rattle.language.specs.Text.PayoffForm.{FormedPayoff, nodes_of_payoff}
use Rattle.language.specs.Text.Plans.{Written, payoff_trees, plan_trees}
use Rattle.language.specs.Text.Reader.{Trees, end}
use Rattle.language.specs.Text.Trees.{Amount, Delay, Plan, Test, await, both, choose, conjunction, cut, difference, disjunction, equal, index, later, leaf, less, negation, nil, nothing, number, plus, product, quotient, scale, sum, times, transfer, uncut, within}
use Rattle.language.specs.Text.Typed.{amount_tree, test_tree}
use Rattle.nodes.specs.Rows.{count_of}

module _ {P M : Type 0} (when : M → Field) where
  mutual
    unfolding amount_tree count_of nodes_of_amount

    count_amount : (a : Amount M) (r : Trees P) → count_of (amount_tree when a r) ≡ nodes_of_amount a + count_of r
    count_amount (number z) r = omega arith
    count_amount (index l i) r = omega arith
    count_amount (sum a b) r = omega (arith, count_amount a (amount_tree when b end), count_amount b end)
    count_amount (difference a b) r = omega (arith, count_amount a (amount_tree when b end), count_amount b end)
    count_amount (product a b) r = omega (arith, count_amount a (amount_tree when b end), count_amount b end)
    count_amount (quotient n a) r = omega (arith, count_amount a end)
    count_amount (choose t a b) r = omega (arith, count_test t (amount_tree when a (amount_tree when b end)), count_amount a (amount_tree when b end), count_amount b end)

    count_test : (t : Test M) (r : Trees P) → count_of (test_tree when t r) ≡ nodes_of_test t + count_of r
    count_test (less a b) r = omega (arith, count_amount a (amount_tree when b end), count_amount b end)
    count_test (equal a b) r = omega (arith, count_amount a (amount_tree when b end), count_amount b end)
    count_test (conjunction t u) r = omega (arith, count_test t (test_tree when u end), count_test u end)
    count_test (disjunction t u) r = omega (arith, count_test t (test_tree when u end), count_test u end)
    count_test (negation t) r = omega (arith, count_test t end)

-- ---- plans

plan_then : (x : Plan Delay) (r : Trees PlanLetter) → count_of (plan_trees x r) ≡ nodes_of x + count_of r
unfolding plan_trees count_of nodes_of
plan_then nothing r = omega arith
plan_then (transfer p q) r = omega arith
plan_then (scale a x) r = omega (arith, count_amount a_number a (plan_trees x end), plan_then x end)
plan_then (later d x) r = omega (arith, plan_then x end)
plan_then (both x y) r = omega (arith, plan_then x (plan_trees y end), plan_then y end)
plan_then (within d t x y) r = omega (arith, count_test a_number t (plan_trees x (plan_trees y end)), plan_then x (plan_trees y end), plan_then y end)

pub count_plan : (x : Plan Delay) → count_of (plan_trees x end) ≡ nodes_of x
unfolding count_of
count_plan x = omega (arith, plan_then x end)

pub plan_rows : (x : Plan Delay) → Formed delay_in_form x → count_of (plan_trees x end) ≤ max_nodes
plan_rows x h = omega (arith, count_plan x, h.nodes)

-- ---- payoffs

payoff_then : (x : Written) (r : Trees PayoffLetter) → count_of (payoff_trees x r) ≡ nodes_of_payoff x + count_of r
unfolding payoff_trees count_of nodes_of_payoff
payoff_then nil r = omega arith
payoff_then (leaf uncut m p q) r = omega arith
payoff_then (leaf cut m p q) r = omega arith
payoff_then (times a x) r = omega (arith, count_amount a_month a (payoff_trees x end), payoff_then x end)
payoff_then (plus x y) r = omega (arith, payoff_then x (payoff_trees y end), payoff_then y end)
payoff_then (await d t x y) r = omega (arith, count_test a_month t (payoff_trees x (payoff_trees y end)), payoff_then x (payoff_trees y end), payoff_then y end)

pub count_payoff : (x : Written) → count_of (payoff_trees x end) ≡ nodes_of_payoff x
unfolding count_of
count_payoff x = omega (arith, payoff_then x end)

pub payoff_rows : (x : Written) → FormedPayoff x → count_of (payoff_trees x end) ≤ max_nodes
payoff_rows x h = omega (arith, count_payoff x, h.nodes)
