-- Settling the rows of a payoff in form fills its open settings.
use Prim.Native.Nat.{ℕ}
use lib.IntN.{pos, ℤ}
use mathlib.Core.Bool.{◌&&◌, true}
use mathlib.Core.List.{List, [], ◌++◌, ◌∷◌}
use mathlib.Core.Path.{◌∙◌, ◌≡◌, ap, refl, sym}
use native.Mathlib.Nat.{add-zero}
use Rattle.language.specs.Payoff.Compile.{map_amount, map_test}
use Rattle.language.specs.Payoff.Evaluate.{fill_payoff, month_of}
use Rattle.language.specs.Payoff.Settings.{amount_set, month_set, payoff_set, test_set}
use Rattle.language.specs.Rules.Settings.{delay_set}
use Rattle.language.specs.Rules.Table.{setting_at}
use Rattle.language.specs.Text.Classes.{a_delay, a_month, a_number}
use Rattle.language.specs.Text.Letters.{PayoffLetter, of_root, payoff_form}
use Rattle.language.specs.Text.PayoffForm.{fields_of_payoff}
use Rattle.language.specs.Text.Plans.{Written, leaf_letter, payoff_trees}
use Rattle.language.specs.Text.Reader.{Trees, end, node}
use Rattle.language.specs.Text.Trees.{Amount, Month, Payoff, Test, await, choose, conjunction, cut, difference, disjunction, equal, index, leaf, less, months, negation, nil, number, plus, product, quotient, sum, times, uncut}
use Rattle.language.specs.Text.Typed.{amount_tree, test_tree}
use Rattle.nodes.proofs.TreePasses.{all_nodes, and_assoc, changed, changed_count}
use Rattle.nodes.specs.Pass.{all_rows, map_rows}
use Rattle.nodes.specs.Rows.{count_of, rows}
use Rattle.settling.proofs.NodePasses.{OnTrees, all_pass, map_nodes, test_nodes}
use Rattle.settling.proofs.PayoffNodes.{Right, and_true, changes, node_set, payoff_on, plain_month, ranges, settle_node, tests}
use Rattle.settling.specs.Settle.{row_in, row_settled, settle_row}

-- the trees of a filled payoff: plain months, delays in months
unfoldable pub filled_trees : Payoff ℕ ℤ → Trees PayoffLetter → Trees PayoffLetter
filled_trees nil r = node (of_root PayoffLetter.Z) [] end r
filled_trees (leaf k m p q) r = node (of_root (leaf_letter k)) (plain_month m ∷ a_number (pos p) ∷ a_number (pos q) ∷ []) end r
filled_trees (times a x) r = node (of_root PayoffLetter.S) [] (amount_tree plain_month a (filled_trees x end)) r
filled_trees (plus x y) r = node (of_root PayoffLetter.B) [] (filled_trees x (filled_trees y end)) r
filled_trees (await d t x y) r = node (of_root PayoffLetter.W) (a_delay (months d) ∷ []) (test_tree plain_month t (filled_trees x (filled_trees y end))) r

module _ (days : List ℤ) where
  abbrev σ : ℕ → ℕ
  σ = setting_at days

  -- ---- what the change makes of a payoff's trees
  mutual
    unfolding amount_tree test_tree changed settle_node map_amount map_test

    amount_filled : (a : Amount Month) (r : Trees PayoffLetter) → changed (settle_node days) (amount_tree a_month a r) ≡ amount_tree plain_month (map_amount (month_of σ) a) (changed (settle_node days) r)
    amount_filled (number n) r = refl
    amount_filled (index l i) r = refl
    amount_filled (sum a b) r = rw (amount_filled a (amount_tree a_month b end), amount_filled b end) refl
    amount_filled (difference a b) r = rw (amount_filled a (amount_tree a_month b end), amount_filled b end) refl
    amount_filled (product a b) r = rw (amount_filled a (amount_tree a_month b end), amount_filled b end) refl
    amount_filled (quotient n a) r = rw (amount_filled a end) refl
    amount_filled (choose t a b) r = rw (test_filled t (amount_tree a_month a (amount_tree a_month b end)), amount_filled a (amount_tree a_month b end), amount_filled b end) refl

    test_filled : (t : Test Month) (r : Trees PayoffLetter) → changed (settle_node days) (test_tree a_month t r) ≡ test_tree plain_month (map_test (month_of σ) t) (changed (settle_node days) r)
    test_filled (less a b) r = rw (amount_filled a (amount_tree a_month b end), amount_filled b end) refl
    test_filled (equal a b) r = rw (amount_filled a (amount_tree a_month b end), amount_filled b end) refl
    test_filled (conjunction s t) r = rw (test_filled s (test_tree a_month t end), test_filled t end) refl
    test_filled (disjunction s t) r = rw (test_filled s (test_tree a_month t end), test_filled t end) refl
    test_filled (negation t) r = rw (test_filled t end) refl

  payoff_filled : (x : Written) (r : Trees PayoffLetter) → changed (settle_node days) (payoff_trees x r) ≡ filled_trees (fill_payoff σ x) (changed (settle_node days) r)
  unfolding payoff_trees filled_trees changed settle_node fill_payoff
  payoff_filled nil r = refl
  payoff_filled (leaf uncut m p q) r = refl
  payoff_filled (leaf cut m p q) r = refl
  payoff_filled (times a x) r = rw (amount_filled a (payoff_trees x end), payoff_filled x end) refl
  payoff_filled (plus x y) r = rw (payoff_filled x (payoff_trees y end), payoff_filled y end) refl
  payoff_filled (await d t x y) r = rw (test_filled t (payoff_trees x (payoff_trees y end)), payoff_filled x (payoff_trees y end), payoff_filled y end) refl

  -- ---- what the test makes of them
  mutual
    unfolding amount_tree test_tree all_nodes node_set amount_set test_set

    amount_set_lem : (a : Amount Month) (r : Trees PayoffLetter) → all_nodes (node_set days) (amount_tree a_month a r) ≡ amount_set days a && all_nodes (node_set days) r
    amount_set_lem (number n) r = refl
    amount_set_lem (index l i) r = rw (and_true (month_set days i)) refl
    amount_set_lem (sum a b) r = rw (amount_set_lem a (amount_tree a_month b end), amount_set_lem b end, and_true (amount_set days b)) refl
    amount_set_lem (difference a b) r = rw (amount_set_lem a (amount_tree a_month b end), amount_set_lem b end, and_true (amount_set days b)) refl
    amount_set_lem (product a b) r = rw (amount_set_lem a (amount_tree a_month b end), amount_set_lem b end, and_true (amount_set days b)) refl
    amount_set_lem (quotient n a) r = rw (amount_set_lem a end, and_true (amount_set days a)) refl
    amount_set_lem (choose t a b) r =
        rw (test_set_lem t (amount_tree a_month a (amount_tree a_month b end)), amount_set_lem a (amount_tree a_month b end), amount_set_lem b end, and_true (amount_set days b), and_assoc (test_set days t) (amount_set days a) (amount_set days b)) refl

    test_set_lem : (t : Test Month) (r : Trees PayoffLetter) → all_nodes (node_set days) (test_tree a_month t r) ≡ test_set days t && all_nodes (node_set days) r
    test_set_lem (less a b) r = rw (amount_set_lem a (amount_tree a_month b end), amount_set_lem b end, and_true (amount_set days b)) refl
    test_set_lem (equal a b) r = rw (amount_set_lem a (amount_tree a_month b end), amount_set_lem b end, and_true (amount_set days b)) refl
    test_set_lem (conjunction s t) r = rw (test_set_lem s (test_tree a_month t end), test_set_lem t end, and_true (test_set days t)) refl
    test_set_lem (disjunction s t) r = rw (test_set_lem s (test_tree a_month t end), test_set_lem t end, and_true (test_set days t)) refl
    test_set_lem (negation t) r = rw (test_set_lem t end, and_true (test_set days t)) refl

  payoff_set_lem : (x : Written) (r : Trees PayoffLetter) → all_nodes (node_set days) (payoff_trees x r) ≡ payoff_set days x && all_nodes (node_set days) r
  unfolding payoff_trees all_nodes node_set payoff_set
  payoff_set_lem nil r = refl
  payoff_set_lem (leaf uncut m p q) r = rw (and_true (month_set days m)) refl
  payoff_set_lem (leaf cut m p q) r = rw (and_true (month_set days m)) refl
  payoff_set_lem (times a x) r = rw (amount_set_lem a (payoff_trees x end), payoff_set_lem x end, and_true (payoff_set days x)) refl
  payoff_set_lem (plus x y) r = rw (payoff_set_lem x (payoff_trees y end), payoff_set_lem y end, and_true (payoff_set days y)) refl
  payoff_set_lem (await d t x y) r =
      rw (
        test_set_lem t (payoff_trees x (payoff_trees y end)),
        payoff_set_lem x (payoff_trees y end),
        payoff_set_lem y end,
        and_true (payoff_set days y),
        and_true (delay_set days d),
        and_assoc (delay_set days d) (test_set days t && (payoff_set days x && payoff_set days y)) (all_nodes (node_set days) r),
        and_assoc (delay_set days d) (test_set days t) (payoff_set days x && payoff_set days y),
        and_assoc (delay_set days d && test_set days t) (payoff_set days x) (payoff_set days y),
      )
      refl

  -- ---- of a payoff's rows, whatever stands behind them
  module _ (x : Written) (rest : List ℤ) (g : fields_of_payoff x) where
    abbrev trees : Trees PayoffLetter
    trees = payoff_trees x end

    on : OnTrees payoff_form (Right days) trees
    unfolding OnTrees
    on = payoff_on days x end g tt

    pub rows_settled : map_rows (settle_row days) (count_of trees) (rows payoff_form trees ++ rest) ≡ rows payoff_form (filled_trees (fill_payoff σ x) end) ++ rest
    unfolding changed map_rows
    rows_settled =
        ap (λ n. map_rows (settle_row days) n (rows payoff_form trees ++ rest)) (sym (add-zero (count_of trees)))
        ∙ map_nodes payoff_form (settle_row days) (settle_node days) trees 0 rest (changes days trees on)
        ∙ ap (λ t. rows payoff_form t ++ rest) (payoff_filled x end)

    pub rows_set : all_rows (row_settled days) (count_of trees) (rows payoff_form trees ++ rest) ≡ payoff_set days x
    unfolding all_nodes all_rows
    rows_set =
        ap (λ n. all_rows (row_settled days) n (rows payoff_form trees ++ rest)) (sym (add-zero (count_of trees)))
        ∙ test_nodes payoff_form (row_settled days) (node_set days) trees 0 rest (tests days trees on)
        ∙ ap (λ b. b && true) (payoff_set_lem x end) ∙ rw (and_true (payoff_set days x), and_true (payoff_set days x)) refl

    pub rows_in : all_rows row_in (count_of trees) (rows payoff_form trees ++ rest) ≡ true
    unfolding all_rows
    rows_in =
        ap (λ n. all_rows row_in n (rows payoff_form trees ++ rest)) (sym (add-zero (count_of trees)))
        ∙ test_nodes payoff_form row_in (λ l fs. true) trees 0 rest (ranges days trees on)
        ∙ ap (λ b. b && true) (all_pass trees)

    pub filled_count : count_of (filled_trees (fill_payoff σ x) end) ≡ count_of trees
    unfolding changed
    filled_count = ap count_of (sym (payoff_filled x end)) ∙ changed_count (settle_node days) trees
