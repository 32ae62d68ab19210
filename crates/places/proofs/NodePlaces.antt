-- Placing the row of one node is a change of its fields; this for every node of a plan.
use Prim.Native.Nat.{ℕ}
use lib.IntN.{pos, ℤ}
use mathlib.Core.Bool.{Bool, true}
use mathlib.Core.List.{List, [], ◌∷◌}
use mathlib.Core.Path.{refl}
use Rattle.language.specs.Text.Classes.{Field, a_delay, a_number}
use Rattle.language.specs.Text.Letters.{AmountLetter, Letter, PlanLetter, TestLetter, amount_row, of_amount, of_root, of_test, plan_form, plan_row, row_of, test_row}
use Rattle.language.specs.Text.Plans.{plan_trees}
use Rattle.language.specs.Text.Reader.{Trees, end, node}
use Rattle.language.specs.Text.Trees.{Amount, Delay, Plan, Test, both, choose, conjunction, difference, disjunction, equal, index, later, less, negation, nothing, number, product, quotient, scale, sum, transfer, within}
use Rattle.language.specs.Text.Typed.{amount_tree, field_at, number_in, test_tree}
use Rattle.nodes.proofs.TreePasses.{Changes, OnNodes, Tests}
use Rattle.nodes.specs.Rows.{field_slots, last_slots, slots_of}
use Rattle.nodes.specs.Table.{nat_of}
use Rattle.places.specs.Place.{index_placed, place_found, placed_row, row_in}

-- the fields of a node are in range
unfoldable pub node_in : Letter PlanLetter → List Field → Bool
node_in (of_amount AmountLetter.N) fs = true
node_in (of_amount AmountLetter.O) fs = index_placed (number_in (field_at 0 fs)) (number_in (field_at 1 fs))
node_in (of_amount AmountLetter.A) fs = true
node_in (of_amount AmountLetter.U) fs = true
node_in (of_amount AmountLetter.K) fs = true
node_in (of_amount AmountLetter.Q) fs = true
node_in (of_amount AmountLetter.I) fs = true
node_in (of_root l) fs = true
node_in (of_test l) fs = true

module _ (h f : ℤ) where
  -- the fields of an `O` with its place
  abbrev place_fields : List Field → List Field
  place_fields fs = field_at 0 fs ∷ a_number (place_found h f (nat_of (number_in (field_at 0 fs))) (number_in (field_at 1 fs))) ∷ []

  unfoldable pub place_node : Letter PlanLetter → List Field → List Field
  place_node (of_amount AmountLetter.N) fs = fs
  place_node (of_amount AmountLetter.O) fs = place_fields fs
  place_node (of_amount AmountLetter.A) fs = fs
  place_node (of_amount AmountLetter.U) fs = fs
  place_node (of_amount AmountLetter.K) fs = fs
  place_node (of_amount AmountLetter.Q) fs = fs
  place_node (of_amount AmountLetter.I) fs = fs
  place_node (of_root l) fs = fs
  place_node (of_test l) fs = fs

  -- ---- one node: its row changes as its fields do, and is in range where they are

  abbrev Right : Letter PlanLetter → List Field → Type 0
  Right l fs = Changes plan_form (placed_row h f) place_node l fs × Tests plan_form row_in node_in l fs

  right_n : (fs : List Field) → Right (of_amount AmountLetter.N) fs
  unfolding placed_row row_in place_node node_in row_of amount_row
  right_n fs = (λ c. refl, λ c. refl)

  right_a : (fs : List Field) → Right (of_amount AmountLetter.A) fs
  unfolding placed_row row_in place_node node_in row_of amount_row
  right_a fs = (λ c. refl, λ c. refl)

  right_u : (fs : List Field) → Right (of_amount AmountLetter.U) fs
  unfolding placed_row row_in place_node node_in row_of amount_row
  right_u fs = (λ c. refl, λ c. refl)

  right_k : (fs : List Field) → Right (of_amount AmountLetter.K) fs
  unfolding placed_row row_in place_node node_in row_of amount_row
  right_k fs = (λ c. refl, λ c. refl)

  right_q : (fs : List Field) → Right (of_amount AmountLetter.Q) fs
  unfolding placed_row row_in place_node node_in row_of amount_row
  right_q fs = (λ c. refl, λ c. refl)

  right_i : (fs : List Field) → Right (of_amount AmountLetter.I) fs
  unfolding placed_row row_in place_node node_in row_of amount_row
  right_i fs = (λ c. refl, λ c. refl)

  changes_o : (l : ℕ) (i : ℤ) → Changes plan_form (placed_row h f) place_node (of_amount AmountLetter.O) (a_number (pos l) ∷ a_number i ∷ [])
  unfolding placed_row place_node row_of amount_row slots_of field_slots last_slots
  changes_o l i end = refl
  changes_o l i (node m fs c t) = refl

  right_o : (l : ℕ) (i : ℤ) → Right (of_amount AmountLetter.O) (a_number (pos l) ∷ a_number i ∷ [])
  unfolding row_in node_in row_of amount_row slots_of field_slots
  right_o l i = (changes_o l i, λ c. refl)

  test_right : (l : TestLetter) (fs : List Field) → Right (of_test l) fs
  unfolding placed_row row_in place_node node_in row_of test_row
  test_right TestLetter.G fs = (λ c. refl, λ c. refl)
  test_right TestLetter.E fs = (λ c. refl, λ c. refl)
  test_right TestLetter.Y fs = (λ c. refl, λ c. refl)
  test_right TestLetter.«V» fs = (λ c. refl, λ c. refl)
  test_right TestLetter.R fs = (λ c. refl, λ c. refl)

  plan_right : (l : PlanLetter) (fs : List Field) → Right (of_root l) fs
  unfolding placed_row row_in place_node node_in row_of plan_row
  plan_right PlanLetter.Z fs = (λ c. refl, λ c. refl)
  plan_right PlanLetter.T fs = (λ c. refl, λ c. refl)
  plan_right PlanLetter.S fs = (λ c. refl, λ c. refl)
  plan_right PlanLetter.L fs = (λ c. refl, λ c. refl)
  plan_right PlanLetter.B fs = (λ c. refl, λ c. refl)
  plan_right PlanLetter.W fs = (λ c. refl, λ c. refl)

  -- ---- every node of a plan

  mutual
    unfolding amount_tree test_tree OnNodes

    amount_on : (a : Amount ℤ) (r : Trees PlanLetter) → OnNodes Right r → OnNodes Right (amount_tree a_number a r)
    amount_on (number n) r g = (right_n (a_number n ∷ []), tt, g)
    amount_on (index l i) r g = (right_o l i, tt, g)
    amount_on (sum a b) r g = (right_a [], amount_on a (amount_tree a_number b end) (amount_on b end tt), g)
    amount_on (difference a b) r g = (right_u [], amount_on a (amount_tree a_number b end) (amount_on b end tt), g)
    amount_on (product a b) r g = (right_k [], amount_on a (amount_tree a_number b end) (amount_on b end tt), g)
    amount_on (quotient n a) r g = (right_q (a_number (pos n) ∷ []), amount_on a end tt, g)
    amount_on (choose t a b) r g = (right_i [], test_on t (amount_tree a_number a (amount_tree a_number b end)) (amount_on a (amount_tree a_number b end) (amount_on b end tt)), g)

    test_on : (t : Test ℤ) (r : Trees PlanLetter) → OnNodes Right r → OnNodes Right (test_tree a_number t r)
    test_on (less a b) r g = (test_right TestLetter.G [], amount_on a (amount_tree a_number b end) (amount_on b end tt), g)
    test_on (equal a b) r g = (test_right TestLetter.E [], amount_on a (amount_tree a_number b end) (amount_on b end tt), g)
    test_on (conjunction s t) r g = (test_right TestLetter.Y [], test_on s (test_tree a_number t end) (test_on t end tt), g)
    test_on (disjunction s t) r g = (test_right TestLetter.«V» [], test_on s (test_tree a_number t end) (test_on t end tt), g)
    test_on (negation t) r g = (test_right TestLetter.R [], test_on t end tt, g)

  plan_on : (x : Plan Delay) (r : Trees PlanLetter) → OnNodes Right r → OnNodes Right (plan_trees x r)
  unfolding plan_trees OnNodes
  plan_on nothing r g = (plan_right PlanLetter.Z [], tt, g)
  plan_on (transfer p q) r g = (plan_right PlanLetter.T (a_number (pos p) ∷ a_number (pos q) ∷ []), tt, g)
  plan_on (scale a x) r g = (plan_right PlanLetter.S [], amount_on a (plan_trees x end) (plan_on x end tt), g)
  plan_on (later d x) r g = (plan_right PlanLetter.L (a_delay d ∷ []), plan_on x end tt, g)
  plan_on (both x y) r g = (plan_right PlanLetter.B [], plan_on x (plan_trees y end) (plan_on y end tt), g)
  plan_on (within d t x y) r g = (plan_right PlanLetter.W (a_delay d ∷ []), test_on t (plan_trees x (plan_trees y end)) (plan_on x (plan_trees y end) (plan_on y end tt)), g)

  -- ---- the two apart

  changes : (t : Trees PlanLetter) → OnNodes Right t → OnNodes (Changes plan_form (placed_row h f) place_node) t
  unfolding OnNodes
  changes end g = tt
  changes (node l fs c t) g = (g.0.0, changes c g.1, changes t g.2)

  tests : (t : Trees PlanLetter) → OnNodes Right t → OnNodes (Tests plan_form row_in node_in) t
  unfolding OnNodes
  tests end g = tt
  tests (node l fs c t) g = (g.0.1, tests c g.1, tests t g.2)

  pub plan_changes : (x : Plan Delay) → OnNodes (Changes plan_form (placed_row h f) place_node) (plan_trees x end)
  unfolding OnNodes
  plan_changes x = changes (plan_trees x end) (plan_on x end tt)

  pub plan_tests : (x : Plan Delay) → OnNodes (Tests plan_form row_in node_in) (plan_trees x end)
  unfolding OnNodes
  plan_tests x = tests (plan_trees x end) (plan_on x end tt)
