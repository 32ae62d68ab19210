-- Filling the rows of a plan fills its open settings.
use Rattle.std.proofs.Common.{◌≡◌, Bool, true, false, ◌&&◌, List, [], ◌∷◌, ◌++◌, ℤ, pos, sym, refl, ap, ◌∙◌, add-zero}
use Rattle.language.specs.Rules.Settings.{all_are_set, closed, delay_of, delay_set, fill, map_plan}
use Rattle.language.specs.Rules.Table.{setting_at}
use Rattle.language.specs.Text.Classes.{Field, a_delay, a_month, a_number}
use Rattle.language.specs.Text.Letters.{AmountLetter, Letter, PlanLetter, TestLetter, amount_row, of_amount, of_root, of_test, plan_form, plan_row, row_of, test_row}
use Rattle.language.specs.Text.Number.{byte}
use Rattle.language.specs.Text.Plans.{plan_trees}
use Rattle.language.specs.Text.Reader.{Trees, end, node}
use Rattle.language.specs.Text.Trees.{Amount, Delay, Plan, Test, both, choose, conjunction, difference, disjunction, equal, index, later, less, months, negation, nothing, number, product, quotient, scale, sum, transfer, within}
use Rattle.language.specs.Text.Typed.{amount_tree, test_tree}
use Rattle.nodes.proofs.PlansFound.{delay_back}
use Rattle.nodes.proofs.TreePasses.{Changes, OnNodes, Tests, all_nodes, and_assoc, changed, map_trees, test_trees}
use Rattle.nodes.specs.Pass.{all_rows, map_rows}
use Rattle.nodes.specs.Rows.{count_of, delay_slot, field_slots, last_slots, rows, slots_of}
use Rattle.tables.specs.Fill.{fill_delay, fill_row, row_set}

module _ (days : List ℤ) where
  -- a field filled
  abbrev fill_field : Field → Field
  fill_field (a_number z) = a_number z
  fill_field (a_delay d) = a_delay (months (delay_of (setting_at days) d))
  fill_field (a_month m) = a_month m

  abbrev fill_fields : List Field → List Field
  fill_fields [] = []
  fill_fields (f ∷ fs) = fill_field f ∷ fs

  -- only `L` and `W` have a delay
  unfoldable fill_node : Letter PlanLetter → List Field → List Field
  fill_node (of_root PlanLetter.Z) fs = fs
  fill_node (of_root PlanLetter.T) fs = fs
  fill_node (of_root PlanLetter.S) fs = fs
  fill_node (of_root PlanLetter.L) fs = fill_fields fs
  fill_node (of_root PlanLetter.B) fs = fs
  fill_node (of_root PlanLetter.W) fs = fill_fields fs
  fill_node (of_amount l) fs = fs
  fill_node (of_test l) fs = fs

  abbrev field_set : Field → Bool
  field_set (a_number z) = true
  field_set (a_delay d) = delay_set days d
  field_set (a_month m) = true

  abbrev fields_set : List Field → Bool
  fields_set [] = true
  fields_set (f ∷ fs) = field_set f

  unfoldable node_set : Letter PlanLetter → List Field → Bool
  node_set (of_root PlanLetter.Z) fs = true
  node_set (of_root PlanLetter.T) fs = true
  node_set (of_root PlanLetter.S) fs = true
  node_set (of_root PlanLetter.L) fs = fields_set fs
  node_set (of_root PlanLetter.B) fs = true
  node_set (of_root PlanLetter.W) fs = fields_set fs
  node_set (of_amount l) fs = true
  node_set (of_test l) fs = true

  and_true : (b : Bool) → b && true ≡ b
  and_true true = refl
  and_true false = refl

  -- both at once, of one node
  abbrev Right : Letter PlanLetter → List Field → Type 0
  Right l fs = Changes plan_form (fill_row days) fill_node l fs × Tests plan_form (row_set days) node_set l fs

  changes : (t : Trees PlanLetter) → OnNodes Right t → OnNodes (Changes plan_form (fill_row days) fill_node) t
  unfolding OnNodes
  changes end h = tt
  changes (node l fs c t) h = (h.0.0, changes c h.1, changes t h.2)

  tests : (t : Trees PlanLetter) → OnNodes Right t → OnNodes (Tests plan_form (row_set days) node_set) t
  unfolding OnNodes
  tests end h = tt
  tests (node l fs c t) h = (h.0.1, tests c h.1, tests t h.2)

  amount_right : (l : AmountLetter) (fs : List Field) → Right (of_amount l) fs
  unfolding fill_row row_set fill_node node_set row_of amount_row
  amount_right AmountLetter.N fs = (λ c. refl, λ c. refl)
  amount_right AmountLetter.O fs = (λ c. refl, λ c. refl)
  amount_right AmountLetter.A fs = (λ c. refl, λ c. refl)
  amount_right AmountLetter.U fs = (λ c. refl, λ c. refl)
  amount_right AmountLetter.K fs = (λ c. refl, λ c. refl)
  amount_right AmountLetter.Q fs = (λ c. refl, λ c. refl)
  amount_right AmountLetter.I fs = (λ c. refl, λ c. refl)

  test_right : (l : TestLetter) (fs : List Field) → Right (of_test l) fs
  unfolding fill_row row_set fill_node node_set row_of test_row
  test_right TestLetter.G fs = (λ c. refl, λ c. refl)
  test_right TestLetter.E fs = (λ c. refl, λ c. refl)
  test_right TestLetter.Y fs = (λ c. refl, λ c. refl)
  test_right TestLetter.«V» fs = (λ c. refl, λ c. refl)
  test_right TestLetter.R fs = (λ c. refl, λ c. refl)

  right_z : (fs : List Field) → Right (of_root PlanLetter.Z) fs
  unfolding fill_row row_set fill_node node_set row_of plan_row
  right_z fs = (λ c. refl, λ c. refl)

  right_t : (fs : List Field) → Right (of_root PlanLetter.T) fs
  unfolding fill_row row_set fill_node node_set row_of plan_row
  right_t fs = (λ c. refl, λ c. refl)

  right_s : (fs : List Field) → Right (of_root PlanLetter.S) fs
  unfolding fill_row row_set fill_node node_set row_of plan_row
  right_s fs = (λ c. refl, λ c. refl)

  right_b : (fs : List Field) → Right (of_root PlanLetter.B) fs
  unfolding fill_row row_set fill_node node_set row_of plan_row
  right_b fs = (λ c. refl, λ c. refl)

  changes_l : (d : Delay) → Changes plan_form (fill_row days) fill_node (of_root PlanLetter.L) (a_delay d ∷ [])
  unfolding fill_row fill_node row_of plan_row slots_of field_slots delay_slot fill_delay last_slots
  changes_l d end = ap (λ e. pos (byte "L") ∷ pos (delay_of (setting_at days) e) ∷ pos 0 ∷ pos 0 ∷ pos 0 ∷ []) (delay_back d)
  changes_l d (node l fs c t) = ap (λ e. pos (byte "L") ∷ pos (delay_of (setting_at days) e) ∷ pos 0 ∷ last_slots [] (node l fs c t)) (delay_back d)

  right_l : (d : Delay) → Right (of_root PlanLetter.L) (a_delay d ∷ [])
  unfolding row_set node_set row_of plan_row slots_of field_slots delay_slot
  right_l d = (changes_l d, λ c. ap (delay_set days) (delay_back d))

  changes_w : (d : Delay) → Changes plan_form (fill_row days) fill_node (of_root PlanLetter.W) (a_delay d ∷ [])
  unfolding fill_row fill_node row_of plan_row slots_of field_slots delay_slot fill_delay last_slots
  changes_w d end = ap (λ e. pos (byte "W") ∷ pos (delay_of (setting_at days) e) ∷ pos 0 ∷ pos 0 ∷ pos 0 ∷ []) (delay_back d)
  changes_w d (node l fs c t) = ap (λ e. pos (byte "W") ∷ pos (delay_of (setting_at days) e) ∷ pos 0 ∷ last_slots [] (node l fs c t)) (delay_back d)

  right_w : (d : Delay) → Right (of_root PlanLetter.W) (a_delay d ∷ [])
  unfolding row_set node_set row_of plan_row slots_of field_slots delay_slot
  right_w d = (changes_w d, λ c. ap (delay_set days) (delay_back d))

  mutual
    unfolding amount_tree test_tree OnNodes

    amount_on : (a : Amount ℤ) (r : Trees PlanLetter) → OnNodes Right r → OnNodes Right (amount_tree a_number a r)
    amount_on (number n) r h = (amount_right AmountLetter.N (a_number n ∷ []), tt, h)
    amount_on (index l i) r h = (amount_right AmountLetter.O (a_number (pos l) ∷ a_number i ∷ []), tt, h)
    amount_on (sum a b) r h = (amount_right AmountLetter.A [], amount_on a (amount_tree a_number b end) (amount_on b end tt), h)
    amount_on (difference a b) r h = (amount_right AmountLetter.U [], amount_on a (amount_tree a_number b end) (amount_on b end tt), h)
    amount_on (product a b) r h = (amount_right AmountLetter.K [], amount_on a (amount_tree a_number b end) (amount_on b end tt), h)
    amount_on (quotient n a) r h = (amount_right AmountLetter.Q (a_number (pos n) ∷ []), amount_on a end tt, h)
    amount_on (choose t a b) r h = (amount_right AmountLetter.I [], test_on t (amount_tree a_number a (amount_tree a_number b end)) (amount_on a (amount_tree a_number b end) (amount_on b end tt)), h)

    test_on : (t : Test ℤ) (r : Trees PlanLetter) → OnNodes Right r → OnNodes Right (test_tree a_number t r)
    test_on (less a b) r h = (test_right TestLetter.G [], amount_on a (amount_tree a_number b end) (amount_on b end tt), h)
    test_on (equal a b) r h = (test_right TestLetter.E [], amount_on a (amount_tree a_number b end) (amount_on b end tt), h)
    test_on (conjunction s t) r h = (test_right TestLetter.Y [], test_on s (test_tree a_number t end) (test_on t end tt), h)
    test_on (disjunction s t) r h = (test_right TestLetter.«V» [], test_on s (test_tree a_number t end) (test_on t end tt), h)
    test_on (negation t) r h = (test_right TestLetter.R [], test_on t end tt, h)

  plan_on : (x : Plan Delay) (r : Trees PlanLetter) → OnNodes Right r → OnNodes Right (plan_trees x r)
  unfolding plan_trees OnNodes
  plan_on nothing r h = (right_z [], tt, h)
  plan_on (transfer p q) r h = (right_t (a_number (pos p) ∷ a_number (pos q) ∷ []), tt, h)
  plan_on (scale a x) r h = (right_s [], amount_on a (plan_trees x end) (plan_on x end tt), h)
  plan_on (later d x) r h = (right_l d, plan_on x end tt, h)
  plan_on (both x y) r h = (right_b [], plan_on x (plan_trees y end) (plan_on y end tt), h)
  plan_on (within d t x y) r h = (right_w d, test_on t (plan_trees x (plan_trees y end)) (plan_on x (plan_trees y end) (plan_on y end tt)), h)

  -- what the change makes of a plan's trees
  mutual
    unfolding amount_tree test_tree changed fill_node

    amount_same : (a : Amount ℤ) (r : Trees PlanLetter) → changed fill_node (amount_tree a_number a r) ≡ amount_tree a_number a (changed fill_node r)
    amount_same (number n) r = refl
    amount_same (index l i) r = refl
    amount_same (sum a b) r = rw (amount_same a (amount_tree a_number b end), amount_same b end) refl
    amount_same (difference a b) r = rw (amount_same a (amount_tree a_number b end), amount_same b end) refl
    amount_same (product a b) r = rw (amount_same a (amount_tree a_number b end), amount_same b end) refl
    amount_same (quotient n a) r = rw (amount_same a end) refl
    amount_same (choose t a b) r = rw (test_same t (amount_tree a_number a (amount_tree a_number b end)), amount_same a (amount_tree a_number b end), amount_same b end) refl

    test_same : (t : Test ℤ) (r : Trees PlanLetter) → changed fill_node (test_tree a_number t r) ≡ test_tree a_number t (changed fill_node r)
    test_same (less a b) r = rw (amount_same a (amount_tree a_number b end), amount_same b end) refl
    test_same (equal a b) r = rw (amount_same a (amount_tree a_number b end), amount_same b end) refl
    test_same (conjunction s t) r = rw (test_same s (test_tree a_number t end), test_same t end) refl
    test_same (disjunction s t) r = rw (test_same s (test_tree a_number t end), test_same t end) refl
    test_same (negation t) r = rw (test_same t end) refl

  plan_filled : (x : Plan Delay) (r : Trees PlanLetter) → changed fill_node (plan_trees x r) ≡ plan_trees (closed (fill (setting_at days) x)) (changed fill_node r)
  unfolding plan_trees changed fill_node map_plan
  plan_filled nothing r = refl
  plan_filled (transfer p q) r = refl
  plan_filled (scale a x) r = rw (amount_same a (plan_trees x end), plan_filled x end) refl
  plan_filled (later d x) r = rw (plan_filled x end) refl
  plan_filled (both x y) r = rw (plan_filled x (plan_trees y end), plan_filled y end) refl
  plan_filled (within d t x y) r = rw (test_same t (plan_trees x (plan_trees y end)), plan_filled x (plan_trees y end), plan_filled y end) refl

  -- what the test makes of them
  mutual
    unfolding amount_tree test_tree all_nodes node_set

    amount_set_lem : (a : Amount ℤ) (r : Trees PlanLetter) → all_nodes node_set (amount_tree a_number a r) ≡ all_nodes node_set r
    amount_set_lem (number n) r = refl
    amount_set_lem (index l i) r = refl
    amount_set_lem (sum a b) r = rw (amount_set_lem a (amount_tree a_number b end), amount_set_lem b end) refl
    amount_set_lem (difference a b) r = rw (amount_set_lem a (amount_tree a_number b end), amount_set_lem b end) refl
    amount_set_lem (product a b) r = rw (amount_set_lem a (amount_tree a_number b end), amount_set_lem b end) refl
    amount_set_lem (quotient n a) r = rw (amount_set_lem a end) refl
    amount_set_lem (choose t a b) r = rw (test_set_lem t (amount_tree a_number a (amount_tree a_number b end)), amount_set_lem a (amount_tree a_number b end), amount_set_lem b end) refl

    test_set_lem : (t : Test ℤ) (r : Trees PlanLetter) → all_nodes node_set (test_tree a_number t r) ≡ all_nodes node_set r
    test_set_lem (less a b) r = rw (amount_set_lem a (amount_tree a_number b end), amount_set_lem b end) refl
    test_set_lem (equal a b) r = rw (amount_set_lem a (amount_tree a_number b end), amount_set_lem b end) refl
    test_set_lem (conjunction s t) r = rw (test_set_lem s (test_tree a_number t end), test_set_lem t end) refl
    test_set_lem (disjunction s t) r = rw (test_set_lem s (test_tree a_number t end), test_set_lem t end) refl
    test_set_lem (negation t) r = rw (test_set_lem t end) refl

  plan_set : (x : Plan Delay) (r : Trees PlanLetter) → all_nodes node_set (plan_trees x r) ≡ all_are_set days x && all_nodes node_set r
  unfolding plan_trees all_nodes node_set all_are_set
  plan_set nothing r = refl
  plan_set (transfer p q) r = refl
  plan_set (scale a x) r = rw (amount_set_lem a (plan_trees x end), plan_set x end, and_true (all_are_set days x)) refl
  plan_set (later d x) r = rw (plan_set x end, and_true (all_are_set days x), and_assoc (delay_set days d) (all_are_set days x) (all_nodes node_set r)) refl
  plan_set (both x y) r = rw (plan_set x (plan_trees y end), plan_set y end, and_true (all_are_set days y)) refl
  plan_set (within d t x y) r = rw (test_set_lem t (plan_trees x (plan_trees y end)), plan_set x (plan_trees y end), plan_set y end, and_true (all_are_set days y), and_assoc (delay_set days d) (all_are_set days x && all_are_set days y) (all_nodes node_set r)) refl

  -- ---- of a plan's rows, whatever stands behind them
  pub rows_filled : (x : Plan Delay) (rest : List ℤ)
      → map_rows (fill_row days) (count_of (plan_trees x end)) (rows plan_form (plan_trees x end) ++ rest) ≡ rows plan_form (plan_trees (closed (fill (setting_at days) x)) end) ++ rest
  unfolding changed map_rows OnNodes
  rows_filled x rest =
      ap (λ n. map_rows (fill_row days) n (rows plan_form (plan_trees x end) ++ rest)) (sym (add-zero (count_of (plan_trees x end))))
      ∙ map_trees plan_form (fill_row days) fill_node (plan_trees x end) 0 rest (changes (plan_trees x end) (plan_on x end tt))
      ∙ ap (λ t. rows plan_form t ++ rest) (plan_filled x end)

  pub rows_set : (x : Plan Delay) (rest : List ℤ) → all_rows (row_set days) (count_of (plan_trees x end)) (rows plan_form (plan_trees x end) ++ rest) ≡ all_are_set days x
  unfolding all_nodes all_rows OnNodes
  rows_set x rest =
      ap (λ n. all_rows (row_set days) n (rows plan_form (plan_trees x end) ++ rest)) (sym (add-zero (count_of (plan_trees x end))))
      ∙ test_trees plan_form (row_set days) node_set (plan_trees x end) 0 rest (tests (plan_trees x end) (plan_on x end tt))
      ∙ ap (λ b. b && true) (plan_set x end) ∙ rw (and_true (all_are_set days x), and_true (all_are_set days x)) refl
