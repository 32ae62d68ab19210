-- The `O` rows of a plan in form are in range.
use Prim.Native.Nat.{◌<◌, ℕ}
use lib.Dec.{le→leb, lt→ltb}
use lib.IntN.{neg_ℤ, pos, ℤ}
use lib.Signed.{le_z, lt_z}
use mathlib.Core.Bool.{◌&&◌, true}
use mathlib.Core.List.{List, ◌++◌}
use mathlib.Core.Path.{◌∙◌, ◌≡◌, ap, refl, sym}
use native.Mathlib.Nat.{add-zero}
use native.Mathlib.Omega.{arith}
use Rattle.language.proofs.Truth.{and_i, tested}
use Rattle.language.specs.Limits.{max_back, max_labels, max_months}
use Rattle.language.specs.Text.Classes.{a_number}
use Rattle.language.specs.Text.Form.{fields_of, fields_of_amount, fields_of_test, offset_in_form}
use Rattle.language.specs.Text.Letters.{PlanLetter, plan_form}
use Rattle.language.specs.Text.Number.{between}
use Rattle.language.specs.Text.Plans.{plan_trees}
use Rattle.language.specs.Text.Reader.{Trees, end}
use Rattle.language.specs.Text.Trees.{Amount, Delay, Plan, Test, both, choose, conjunction, difference, disjunction, equal, index, later, less, negation, nothing, number, product, quotient, scale, sum, transfer, within}
use Rattle.language.specs.Text.Typed.{amount_tree, test_tree}
use Rattle.nodes.proofs.TreePasses.{all_nodes, test_trees}
use Rattle.nodes.specs.Pass.{all_rows}
use Rattle.nodes.specs.Rows.{count_of, rows}
use Rattle.places.proofs.NodePlaces.{node_in, plan_tests}
use Rattle.places.specs.Place.{index_placed, row_in}

index_in : (l : ℕ) (i : ℤ) → l < max_labels → offset_in_form i → index_placed (pos l) i ≡ true
index_in l i h g =
    let a = and_i (le_z (pos 0) (pos l)) (lt_z (pos l) (pos max_labels)) (le→leb 0 l (omega arith)) (lt→ltb l max_labels h) in
    let b = and_i (le_z (neg_ℤ (pos max_back)) i) (le_z i (pos max_months)) g.0.le g.1.le in
    tested (index_placed (pos l) i) (and_i (le_z (pos 0) (pos l) && lt_z (pos l) (pos max_labels)) (between (neg_ℤ (pos max_back)) (pos max_months) i) a b)

-- what stands behind is in range too
mutual
  unfolding amount_tree test_tree all_nodes node_in fields_of_amount fields_of_test

  amount_in : (a : Amount ℤ) (r : Trees PlanLetter) → fields_of_amount offset_in_form a → all_nodes node_in r ≡ true → all_nodes node_in (amount_tree a_number a r) ≡ true
  amount_in (number n) r g e = e
  amount_in (index l i) r g e = rw (index_in l i g.0 g.1) e
  amount_in (sum a b) r g e = rw (amount_in a (amount_tree a_number b end) g.0 (amount_in b end g.1 refl)) e
  amount_in (difference a b) r g e = rw (amount_in a (amount_tree a_number b end) g.0 (amount_in b end g.1 refl)) e
  amount_in (product a b) r g e = rw (amount_in a (amount_tree a_number b end) g.0 (amount_in b end g.1 refl)) e
  amount_in (quotient n a) r g e = rw (amount_in a end g.2 refl) e
  amount_in (choose t a b) r g e = rw (test_in t (amount_tree a_number a (amount_tree a_number b end)) g.0 (amount_in a (amount_tree a_number b end) g.1 (amount_in b end g.2 refl))) e

  test_in : (t : Test ℤ) (r : Trees PlanLetter) → fields_of_test offset_in_form t → all_nodes node_in r ≡ true → all_nodes node_in (test_tree a_number t r) ≡ true
  test_in (less a b) r g e = rw (amount_in a (amount_tree a_number b end) g.0 (amount_in b end g.1 refl)) e
  test_in (equal a b) r g e = rw (amount_in a (amount_tree a_number b end) g.0 (amount_in b end g.1 refl)) e
  test_in (conjunction s t) r g e = rw (test_in s (test_tree a_number t end) g.0 (test_in t end g.1 refl)) e
  test_in (disjunction s t) r g e = rw (test_in s (test_tree a_number t end) g.0 (test_in t end g.1 refl)) e
  test_in (negation t) r g e = rw (test_in t end g refl) e

module _ (good : Delay → Type 0) where
  plan_in : (x : Plan Delay) (r : Trees PlanLetter) → fields_of good x → all_nodes node_in r ≡ true → all_nodes node_in (plan_trees x r) ≡ true
  unfolding plan_trees all_nodes node_in fields_of
  plan_in nothing r g e = e
  plan_in (transfer p q) r g e = e
  plan_in (scale a x) r g e = rw (amount_in a (plan_trees x end) g.0 (plan_in x end g.1 refl)) e
  plan_in (later d x) r g e = rw (plan_in x end g.1 refl) e
  plan_in (both x y) r g e = rw (plan_in x (plan_trees y end) g.0 (plan_in y end g.1 refl)) e
  plan_in (within d t x y) r g e = rw (test_in t (plan_trees x (plan_trees y end)) g.1 (plan_in x (plan_trees y end) g.2 (plan_in y end g.3 refl))) e

  -- what the pass asks of the table, for a plan's rows and whatever stands behind them
  pub rows_in : (x : Plan Delay) (rest : List ℤ) → fields_of good x → all_rows row_in (count_of (plan_trees x end)) (rows plan_form (plan_trees x end) ++ rest) ≡ true
  unfolding all_nodes all_rows
  rows_in x rest g =
      ap (λ n. all_rows row_in n (rows plan_form (plan_trees x end) ++ rest)) (sym (add-zero (count_of (plan_trees x end))))
      ∙ test_trees plan_form row_in node_in (plan_trees x end) 0 rest (plan_tests (pos 0) (pos 0) x)
      ∙ ap (λ b. b && true) (plan_in x end g refl)
