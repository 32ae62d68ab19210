-- Placing the rows of a plan places its amounts and tests.
use lib.IntN.{ℤ}
use mathlib.Core.List.{List, ◌++◌}
use mathlib.Core.Path.{◌∙◌, ◌≡◌, ap, refl, sym}
use native.Mathlib.Nat.{add-zero}
use Rattle.amounts.specs.Placed.{placed_amount, placed_test}
use Rattle.language.specs.Text.Classes.{a_number}
use Rattle.language.specs.Text.Letters.{PlanLetter, plan_form}
use Rattle.language.specs.Text.Plans.{plan_trees}
use Rattle.language.specs.Text.Reader.{Trees, end}
use Rattle.language.specs.Text.Trees.{Amount, Delay, Plan, Test, both, choose, conjunction, difference, disjunction, equal, index, later, less, negation, nothing, number, product, quotient, scale, sum, transfer, within}
use Rattle.language.specs.Text.Typed.{amount_tree, test_tree}
use Rattle.nodes.proofs.TreePasses.{changed, changed_count, map_trees}
use Rattle.nodes.specs.Pass.{map_rows}
use Rattle.nodes.specs.Rows.{count_of, rows}
use Rattle.places.proofs.NodePlaces.{place_node, plan_changes}
use Rattle.amounts.specs.Placed.{placed_plan}
use Rattle.places.specs.Place.{place_found, placed_row}

module _ (h f : ℤ) where
  -- ---- what the change makes of a plan's trees

  mutual
    unfolding amount_tree test_tree changed place_node placed_amount placed_test

    amount_placed : (a : Amount ℤ) (r : Trees PlanLetter) → changed (place_node h f) (amount_tree a_number a r) ≡ amount_tree a_number (placed_amount (place_found h f) a) (changed (place_node h f) r)
    amount_placed (number n) r = refl
    amount_placed (index l i) r = refl
    amount_placed (sum a b) r = rw (amount_placed a (amount_tree a_number b end), amount_placed b end) refl
    amount_placed (difference a b) r = rw (amount_placed a (amount_tree a_number b end), amount_placed b end) refl
    amount_placed (product a b) r = rw (amount_placed a (amount_tree a_number b end), amount_placed b end) refl
    amount_placed (quotient n a) r = rw (amount_placed a end) refl
    amount_placed (choose t a b) r = rw (test_placed t (amount_tree a_number a (amount_tree a_number b end)), amount_placed a (amount_tree a_number b end), amount_placed b end) refl

    test_placed : (t : Test ℤ) (r : Trees PlanLetter) → changed (place_node h f) (test_tree a_number t r) ≡ test_tree a_number (placed_test (place_found h f) t) (changed (place_node h f) r)
    test_placed (less a b) r = rw (amount_placed a (amount_tree a_number b end), amount_placed b end) refl
    test_placed (equal a b) r = rw (amount_placed a (amount_tree a_number b end), amount_placed b end) refl
    test_placed (conjunction s t) r = rw (test_placed s (test_tree a_number t end), test_placed t end) refl
    test_placed (disjunction s t) r = rw (test_placed s (test_tree a_number t end), test_placed t end) refl
    test_placed (negation t) r = rw (test_placed t end) refl

  plan_placed : (x : Plan Delay) (r : Trees PlanLetter) → changed (place_node h f) (plan_trees x r) ≡ plan_trees (placed_plan (place_found h f) x) (changed (place_node h f) r)
  unfolding plan_trees changed place_node placed_plan
  plan_placed nothing r = refl
  plan_placed (transfer p q) r = refl
  plan_placed (scale a x) r = rw (amount_placed a (plan_trees x end), plan_placed x end) refl
  plan_placed (later d x) r = rw (plan_placed x end) refl
  plan_placed (both x y) r = rw (plan_placed x (plan_trees y end), plan_placed y end) refl
  plan_placed (within d t x y) r = rw (test_placed t (plan_trees x (plan_trees y end)), plan_placed x (plan_trees y end), plan_placed y end) refl

  -- ---- of a plan's rows, whatever stands behind them

  pub rows_placed : (x : Plan Delay) (rest : List ℤ)
      → map_rows (placed_row h f) (count_of (plan_trees x end)) (rows plan_form (plan_trees x end) ++ rest) ≡ rows plan_form (plan_trees (placed_plan (place_found h f) x) end) ++ rest
  unfolding changed map_rows
  rows_placed x rest =
      ap (λ n. map_rows (placed_row h f) n (rows plan_form (plan_trees x end) ++ rest)) (sym (add-zero (count_of (plan_trees x end))))
      ∙ map_trees plan_form (placed_row h f) (place_node h f) (plan_trees x end) 0 rest (plan_changes h f x)
      ∙ ap (λ t. rows plan_form t ++ rest) (plan_placed x end)

  pub count_placed : (x : Plan Delay) → count_of (plan_trees (placed_plan (place_found h f) x) end) ≡ count_of (plan_trees x end)
  unfolding changed
  count_placed x = ap count_of (sym (plan_placed x end)) ∙ changed_count (place_node h f) (plan_trees x end)
