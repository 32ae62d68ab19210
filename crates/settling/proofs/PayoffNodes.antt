-- Settling the row of each node of a payoff in form is a change of its fields.
use Prim.Native.Nat.{ℕ}
use lib.IntN.{nat_abs, pos, ℤ}
use borrow.Author.Tests.{le-leb}
use mathlib.Core.Bool.{Bool, ◌&&◌, false, true}
use mathlib.Core.List.{List, [], ◌∷◌}
use mathlib.Core.Path.{◌∙◌, ◌≡◌, ap, refl, sym}
use native.Mathlib.Omega.{arith}
use Rattle.integers.proofs.Laws.{nat_abs_le}
use Rattle.integers.proofs.Solver.{dn_neg, parts_le, up_neg}
use Rattle.language.specs.Limits.{max_back, max_month}
use Rattle.language.specs.Payoff.Evaluate.{month_of}
use Rattle.language.specs.Payoff.Settings.{month_set}
use Rattle.language.specs.Rules.Settings.{delay_of, delay_set}
use Rattle.language.specs.Rules.Table.{setting_at}
use Rattle.language.specs.Text.Classes.{Field, a_delay, a_month, a_number}
use Rattle.language.specs.Text.Form.{fields_of_amount, fields_of_test}
use Rattle.language.specs.Text.Letters.{AmountLetter, Letter, PayoffLetter, TestLetter, amount_row, of_amount, of_root, of_test, payoff_form, payoff_row, row_of, test_row}
use Rattle.language.specs.Text.Number.{byte}
use Rattle.language.specs.Text.PayoffForm.{MonthField, fields_of_payoff}
use Rattle.language.specs.Text.Plans.{Written, payoff_trees}
use Rattle.language.specs.Text.Reader.{Trees, end, node}
use Rattle.language.specs.Text.Trees.{Amount, Delay, Month, Test, await, choose, conjunction, cut, difference, disjunction, equal, index, leaf, less, months, negation, nil, number, plus, product, quotient, sum, times, uncut}
use Rattle.language.specs.Text.Typed.{amount_tree, test_tree}
use Rattle.nodes.proofs.PlansFound.{delay_back}
use Rattle.nodes.proofs.Settings.{settings_back}
use Rattle.nodes.specs.Rows.{delay_slot, field_slots, last_slots, month_from, settings_slot, slots_of}
use Rattle.settling.proofs.NodePasses.{Changes, OnTrees, Tests}
use Rattle.settling.specs.Settle.{month_in, month_settled, row_in, row_settled, settle_month, settle_row}
use Rattle.tables.specs.Fill.{fill_delay}

pub and_true : (b : Bool) → b && true ≡ b
and_true true = refl
and_true false = refl

-- a month that is a number alone, as a field
abbrev pub plain_month : ℤ → Field
plain_month z = a_month (record { plain = z; settings = [] })

-- a month comes back from its two numbers
month_back : (m : Month) → MonthField m → month_from m.plain (pos (settings_slot m.settings)) ≡ m
month_back m h = ap (λ ks. record { plain = m.plain; settings = ks }) (settings_back m.settings h.sorted h.count)

month_in_lem : (m : Month) → MonthField m → month_in m.plain (pos (settings_slot m.settings)) ≡ true
month_in_lem m h =
    let s = nat_abs_le m.plain max_month (omega (arith, parts_le h.high)) (omega (arith, parts_le h.low, up_neg (pos max_back), dn_neg (pos max_back))) in
    rw (le-leb (nat_abs m.plain) max_month s) refl

module _ (days : List ℤ) where
  -- ---- a field settled, and whether its settings are set

  abbrev settle_field : Field → Field
  settle_field (a_number z) = a_number z
  settle_field (a_delay d) = a_delay (months (delay_of (setting_at days) d))
  settle_field (a_month m) = plain_month (month_of (setting_at days) m)

  abbrev settle_fields : List Field → List Field
  settle_fields [] = []
  settle_fields (f ∷ fs) = settle_field f ∷ settle_fields fs

  unfoldable pub settle_node : Letter PayoffLetter → List Field → List Field
  settle_node l fs = settle_fields fs

  abbrev field_set : Field → Bool
  field_set (a_number z) = true
  field_set (a_delay d) = delay_set days d
  field_set (a_month m) = month_set days m

  abbrev fields_set : List Field → Bool
  fields_set [] = true
  fields_set (f ∷ fs) = field_set f && fields_set fs

  unfoldable pub node_set : Letter PayoffLetter → List Field → Bool
  node_set l fs = fields_set fs

  -- ---- one node: its row is settled as its fields are, tells whether they are set, and is in range

  abbrev pub Right : Letter PayoffLetter → List Field → Trees PayoffLetter → Type 0
  Right l fs c = Changes payoff_form (settle_row days) settle_node l fs c × Tests payoff_form (row_settled days) node_set l fs c × Tests payoff_form row_in (λ m gs. true) l fs c

  right_z : Right (of_root PayoffLetter.Z) [] end
  unfolding settle_row row_settled row_in settle_node node_set row_of payoff_row slots_of last_slots
  right_z = (refl, refl, refl)

  right_s : (c : Trees PayoffLetter) → Right (of_root PayoffLetter.S) [] c
  unfolding settle_row row_settled row_in settle_node node_set row_of payoff_row
  right_s c = (refl, refl, refl)

  right_b : (c : Trees PayoffLetter) → Right (of_root PayoffLetter.B) [] c
  unfolding settle_row row_settled row_in settle_node node_set row_of payoff_row
  right_b c = (refl, refl, refl)

  right_n : (z : ℤ) → Right (of_amount AmountLetter.N) (a_number z ∷ []) end
  unfolding settle_row row_settled row_in settle_node node_set row_of amount_row
  right_n z = (refl, refl, refl)

  right_a : (c : Trees PayoffLetter) → Right (of_amount AmountLetter.A) [] c
  unfolding settle_row row_settled row_in settle_node node_set row_of amount_row
  right_a c = (refl, refl, refl)

  right_u : (c : Trees PayoffLetter) → Right (of_amount AmountLetter.U) [] c
  unfolding settle_row row_settled row_in settle_node node_set row_of amount_row
  right_u c = (refl, refl, refl)

  right_k : (c : Trees PayoffLetter) → Right (of_amount AmountLetter.K) [] c
  unfolding settle_row row_settled row_in settle_node node_set row_of amount_row
  right_k c = (refl, refl, refl)

  right_q : (n : ℕ) (c : Trees PayoffLetter) → Right (of_amount AmountLetter.Q) (a_number (pos n) ∷ []) c
  unfolding settle_row row_settled row_in settle_node node_set row_of amount_row
  right_q n c = (refl, refl, refl)

  right_i : (c : Trees PayoffLetter) → Right (of_amount AmountLetter.I) [] c
  unfolding settle_row row_settled row_in settle_node node_set row_of amount_row
  right_i c = (refl, refl, refl)

  test_right : (l : TestLetter) (c : Trees PayoffLetter) → Right (of_test l) [] c
  unfolding settle_row row_settled row_in settle_node node_set row_of test_row
  test_right TestLetter.G c = (refl, refl, refl)
  test_right TestLetter.E c = (refl, refl, refl)
  test_right TestLetter.Y c = (refl, refl, refl)
  test_right TestLetter.«V» c = (refl, refl, refl)
  test_right TestLetter.R c = (refl, refl, refl)

  right_o : (l : ℕ) (m : Month) → MonthField m → Right (of_amount AmountLetter.O) (a_number (pos l) ∷ a_month m ∷ []) end
  unfolding settle_row row_settled row_in settle_node node_set row_of amount_row slots_of field_slots last_slots settle_month month_settled settings_slot
  right_o l m h =
      (ap (λ x. pos (byte "O") ∷ pos l ∷ month_of (setting_at days) x ∷ pos 0 ∷ pos 0 ∷ []) (month_back m h), ap (λ x. month_set days x) (month_back m h) ∙ sym (and_true (month_set days m)), month_in_lem m h)

  right_leaf : (m : Month) (p q : ℕ) → MonthField m
      → Right (of_root PayoffLetter.F) (a_month m ∷ a_number (pos p) ∷ a_number (pos q) ∷ []) end × Right (of_root PayoffLetter.H) (a_month m ∷ a_number (pos p) ∷ a_number (pos q) ∷ []) end
  unfolding settle_row row_settled row_in settle_node node_set row_of payoff_row slots_of field_slots last_slots settle_month month_settled settings_slot
  right_leaf m p q h = (
    (ap (λ x. pos (byte "F") ∷ month_of (setting_at days) x ∷ pos 0 ∷ pos p ∷ pos q ∷ []) (month_back m h), ap (λ x. month_set days x) (month_back m h) ∙ sym (and_true (month_set days m)), month_in_lem m h),
    (ap (λ x. pos (byte "H") ∷ month_of (setting_at days) x ∷ pos 0 ∷ pos p ∷ pos q ∷ []) (month_back m h), ap (λ x. month_set days x) (month_back m h) ∙ sym (and_true (month_set days m)), month_in_lem m h),
  )

  changes_w : (d : Delay) (c : Trees PayoffLetter) → Changes payoff_form (settle_row days) settle_node (of_root PayoffLetter.W) (a_delay d ∷ []) c
  unfolding settle_row settle_node row_of payoff_row slots_of field_slots delay_slot fill_delay last_slots
  changes_w d end = ap (λ e. pos (byte "W") ∷ pos (delay_of (setting_at days) e) ∷ pos 0 ∷ pos 0 ∷ pos 0 ∷ []) (delay_back d)
  changes_w d (node l fs c t) = ap (λ e. pos (byte "W") ∷ pos (delay_of (setting_at days) e) ∷ pos 0 ∷ last_slots [] (node l fs c t)) (delay_back d)

  right_w : (d : Delay) (c : Trees PayoffLetter) → Right (of_root PayoffLetter.W) (a_delay d ∷ []) c
  unfolding row_settled row_in node_set row_of payoff_row slots_of field_slots delay_slot
  right_w d c = (changes_w d c, ap (delay_set days) (delay_back d) ∙ sym (and_true (delay_set days d)), refl)

  -- ---- every node

  mutual
    unfolding amount_tree test_tree OnTrees fields_of_amount fields_of_test

    amount_on : (a : Amount Month) (r : Trees PayoffLetter) → fields_of_amount MonthField a → OnTrees payoff_form Right r → OnTrees payoff_form Right (amount_tree a_month a r)
    amount_on (number n) r g h = (right_n n, tt, h)
    amount_on (index l i) r g h = (right_o l i g.1, tt, h)
    amount_on (sum a b) r g h = (right_a (amount_tree a_month a (amount_tree a_month b end)), amount_on a (amount_tree a_month b end) g.0 (amount_on b end g.1 tt), h)
    amount_on (difference a b) r g h = (right_u (amount_tree a_month a (amount_tree a_month b end)), amount_on a (amount_tree a_month b end) g.0 (amount_on b end g.1 tt), h)
    amount_on (product a b) r g h = (right_k (amount_tree a_month a (amount_tree a_month b end)), amount_on a (amount_tree a_month b end) g.0 (amount_on b end g.1 tt), h)
    amount_on (quotient n a) r g h = (right_q n (amount_tree a_month a end), amount_on a end g.2 tt, h)
    amount_on (choose t a b) r g h = (right_i (test_tree a_month t (amount_tree a_month a (amount_tree a_month b end))), test_on t (amount_tree a_month a (amount_tree a_month b end)) g.0 (amount_on a (amount_tree a_month b end) g.1 (amount_on b end g.2 tt)), h)

    test_on : (t : Test Month) (r : Trees PayoffLetter) → fields_of_test MonthField t → OnTrees payoff_form Right r → OnTrees payoff_form Right (test_tree a_month t r)
    test_on (less a b) r g h = (test_right TestLetter.G (amount_tree a_month a (amount_tree a_month b end)), amount_on a (amount_tree a_month b end) g.0 (amount_on b end g.1 tt), h)
    test_on (equal a b) r g h = (test_right TestLetter.E (amount_tree a_month a (amount_tree a_month b end)), amount_on a (amount_tree a_month b end) g.0 (amount_on b end g.1 tt), h)
    test_on (conjunction s t) r g h = (test_right TestLetter.Y (test_tree a_month s (test_tree a_month t end)), test_on s (test_tree a_month t end) g.0 (test_on t end g.1 tt), h)
    test_on (disjunction s t) r g h = (test_right TestLetter.«V» (test_tree a_month s (test_tree a_month t end)), test_on s (test_tree a_month t end) g.0 (test_on t end g.1 tt), h)
    test_on (negation t) r g h = (test_right TestLetter.R (test_tree a_month t end), test_on t end g tt, h)

  pub payoff_on : (x : Written) (r : Trees PayoffLetter) → fields_of_payoff x → OnTrees payoff_form Right r → OnTrees payoff_form Right (payoff_trees x r)
  unfolding payoff_trees OnTrees fields_of_payoff
  payoff_on nil r g h = (right_z, tt, h)
  payoff_on (leaf uncut m p q) r g h = ((right_leaf m p q g.0).0, tt, h)
  payoff_on (leaf cut m p q) r g h = ((right_leaf m p q g.0).1, tt, h)
  payoff_on (times a x) r g h = (right_s (amount_tree a_month a (payoff_trees x end)), amount_on a (payoff_trees x end) g.0 (payoff_on x end g.1 tt), h)
  payoff_on (plus x y) r g h = (right_b (payoff_trees x (payoff_trees y end)), payoff_on x (payoff_trees y end) g.0 (payoff_on y end g.1 tt), h)
  payoff_on (await d t x y) r g h = (right_w d (test_tree a_month t (payoff_trees x (payoff_trees y end))), test_on t (payoff_trees x (payoff_trees y end)) g.1 (payoff_on x (payoff_trees y end) g.2 (payoff_on y end g.3 tt)), h)

  -- ---- the three apart

  pub changes : (t : Trees PayoffLetter) → OnTrees payoff_form Right t → OnTrees payoff_form (Changes payoff_form (settle_row days) settle_node) t
  unfolding OnTrees
  changes end h = tt
  changes (node l fs c t) h = (h.0.0, changes c h.1, changes t h.2)

  pub tests : (t : Trees PayoffLetter) → OnTrees payoff_form Right t → OnTrees payoff_form (Tests payoff_form (row_settled days) node_set) t
  unfolding OnTrees
  tests end h = tt
  tests (node l fs c t) h = (h.0.1, tests c h.1, tests t h.2)

  pub ranges : (t : Trees PayoffLetter) → OnTrees payoff_form Right t → OnTrees payoff_form (Tests payoff_form row_in (λ m gs. true)) t
  unfolding OnTrees
  ranges end h = tt
  ranges (node l fs c t) h = (h.0.2, ranges c h.1, ranges t h.2)
