-- The magnitudes of rows summed: where the sum is within the limit, it is the amount's magnitude, and a test is small.
use Prim.Native.Nat.{◌*◌, ◌+◌, ◌-◌, ◌<◌, ◌≤◌, min, suc, zero, ℕ}
use Rattle.language.specs.Limits.{max_amount, max_nodes}
use Rattle.language.specs.Rules.Measures.{magnitude_of_amount}
use Rattle.language.specs.Rules.Tests.{amount_small, test_is_small}
use Rattle.language.specs.Text.Trees.{Amount, Test, choose, conjunction, difference, disjunction, equal, index, less, negation, number, product, quotient, sum}
use Rattle.nodes.proofs.TestLetters.{test_no_amount}
use Rattle.measures.proofs.RowsTogether.{RowJoins, amount_rows, test_rows}
use Rattle.nodes.specs.Blocks.{AmountBlock, TestBlock}
use Rattle.measures.specs.Magnitudes.{beyond, measured_amount}
use Rattle.measures.specs.Rows.{magnitude_by, row_magnitude, rows_magnitude, rows_of}
use Rattle.nodes.specs.Found.{amount_at, offset_of, test_at}
use Rattle.nodes.specs.Letters.{letter_of_amount}
use Rattle.nodes.specs.Table.{nat_of, slot_at}
use Rattle.nodes.specs.declared.AmountLetter.TheVariants as letter
use Rattle.nodes.specs.declared.AmountLetter.{AmountLetter}
use borrow.Author.Tests.{le-leb}
use lib.IntN.{nat_abs, ℤ}
use mathlib.Core.Bool.{true}
use mathlib.Core.List.{List}
use mathlib.Core.Path.{◌∙◌, ◌≡◌, ap, ap₂, refl, sym}
use native.Mathlib.Omega.{arith}

module _ (bound : ℕ → ℕ) where
  -- the same sum over the parts
  unfoldable mutual
    summed : Amount ℤ → ℕ
    summed (number n) = min (nat_abs n) beyond
    summed (index l i) = bound l
    summed (sum a b) = summed a + summed b
    summed (difference a b) = summed a + summed b
    summed (product a b) = beyond + (summed a + summed b)
    summed (quotient n a) = summed a
    summed (choose t a b) = beyond + (summed_test t + (summed a + summed b))

    summed_test : Test ℤ → ℕ
    summed_test (less a b) = summed a + summed b
    summed_test (equal a b) = summed a + summed b
    summed_test (conjunction s t) = summed_test s + summed_test t
    summed_test (disjunction s t) = summed_test s + summed_test t
    summed_test (negation t) = summed_test t

  sums : (nodes : List ℤ) → RowJoins 0 ◌+◌ nodes (λ at. row_magnitude bound nodes at) summed summed_test
  unfolding summed summed_test
  sums nodes = record {
    first_none = λ x. omega arith;
    second_none = λ x. omega arith;
    assoc = λ x y z. omega arith;
    at_number = λ at e. rw e refl;
    at_index = λ at e. rw e refl;
    at_sum = λ at e a b. rw e (omega arith);
    at_difference = λ at e a b. rw e (omega arith);
    at_product = λ at e a b. rw e refl;
    at_quotient = λ at e n a. rw e (omega arith);
    at_choose = λ at e t a b. rw e refl;
    at_less = λ at e a b. rw (test_no_amount _ e refl) (omega arith);
    at_equal = λ at e a b. rw (test_no_amount _ e refl) (omega arith);
    at_conjunction = λ at e s t. rw (test_no_amount _ e refl) (omega arith);
    at_disjunction = λ at e s t. rw (test_no_amount _ e refl) (omega arith);
    at_negation = λ at e t. rw (test_no_amount _ e refl) (omega arith);
  }

  -- every part of a sum within the limit is within it
  mutual
    unfolding summed summed_test amount_small test_is_small magnitude_of_amount

    amount_sum : (a : Amount ℤ) → summed a ≤ max_amount → (amount_small bound a ≡ true) × (magnitude_of_amount bound a ≡ summed a)
    amount_sum (number n) h = (le-leb (nat_abs n) max_amount (omega (arith, h)), omega (arith, h))
    amount_sum (index l i) h = (le-leb (bound l) max_amount h, refl)
    amount_sum (sum a b) h =
        let x = amount_sum a (omega (arith, h)) in
        let y = amount_sum b (omega (arith, h)) in
        (rw (x.0, y.0, x.1, y.1) (le-leb (summed a + summed b) max_amount h), ap₂ ◌+◌ x.1 y.1)
    amount_sum (difference a b) h =
        let x = amount_sum a (omega (arith, h)) in
        let y = amount_sum b (omega (arith, h)) in
        (rw (x.0, y.0, x.1, y.1) (le-leb (summed a + summed b) max_amount h), ap₂ ◌+◌ x.1 y.1)
    amount_sum (product a b) h = absurd (omega (arith, h))
    amount_sum (quotient n a) h = let x = amount_sum a h in (rw (x.0, x.1) (le-leb (summed a) max_amount h), x.1)
    amount_sum (choose t a b) h = absurd (omega (arith, h))

    test_sum : (t : Test ℤ) → summed_test t ≤ max_amount → test_is_small bound t ≡ true
    test_sum (less a b) h = rw ((amount_sum a (omega (arith, h))).0, (amount_sum b (omega (arith, h))).0) refl
    test_sum (equal a b) h = rw ((amount_sum a (omega (arith, h))).0, (amount_sum b (omega (arith, h))).0) refl
    test_sum (conjunction s t) h = rw (test_sum s (omega (arith, h)), test_sum t (omega (arith, h))) refl
    test_sum (disjunction s t) h = rw (test_sum s (omega (arith, h)), test_sum t (omega (arith, h))) refl
    test_sum (negation t) h = test_sum t h

  -- r is the sum of an amount's or a test's rows
  module _ (nodes : List ℤ) (from to : ℕ) {r : ℕ} (er : r ≡ rows_magnitude bound nodes (to - from) from) (h : r ≤ max_amount) where
    pub amount_summed : AmountBlock max_nodes nodes from to → r ≡ measured_amount bound (amount_at offset_of max_nodes nodes from)
    amount_summed b =
        let e = er ∙ (amount_rows (sums nodes) max_nodes from to b).gives in
        let x = amount_sum (amount_at offset_of max_nodes nodes from) (omega (arith, h, e)) in
        rw x.0 (e ∙ sym x.1)

    pub test_summed : TestBlock max_nodes nodes from to → test_is_small bound (test_at offset_of max_nodes nodes from) ≡ true
    test_summed b =
        let e = er ∙ (test_rows (sums nodes) max_nodes from to b).gives in
        test_sum (test_at offset_of max_nodes nodes from) (omega (arith, h, e))

  -- ---- the loop: what is left added to what was passed

  pub record Summing (nodes : List ℤ) (from to at total : ℕ) : Type 0 where
    pub low : from ≤ at
    pub most : total ≤ (at - from) * beyond
    pub left : rows_magnitude bound nodes (to - from) from ≡ total + rows_magnitude bound nodes (to - at) at

  -- a row adds no more than beyond
  row_most : ((l : ℕ) → bound l ≤ max_amount) → (m : AmountLetter) (n : ℤ) → magnitude_by bound m n ≤ beyond
  row_most b letter.Number n = omega arith
  row_most b letter.Index n = omega (arith, b (nat_of n))
  row_most b letter.Sum n = omega arith
  row_most b letter.Difference n = omega arith
  row_most b letter.Product n = omega arith
  row_most b letter.Quotient n = omega arith
  row_most b letter.Choose n = omega arith
  row_most b letter.NoAmount n = omega arith

  module _ {nodes : List ℤ} {from to at total : ℕ} (p : Summing nodes from to at total) where
    module _ (b : (l : ℕ) → bound l ≤ max_amount) {m : ℕ} (em : m ≡ row_magnitude bound nodes at) where
      pub summing_most : total + m ≤ (at + 1 - from) * beyond
      summing_most = omega (arith, p.low, p.most, em, row_most b (letter_of_amount (slot_at nodes at 0)) (slot_at nodes at 1))

      pub summing_row : at < to → Summing nodes from to (at + 1) (total + m)
      unfolding rows_of
      summing_row h =
          let n : to - at ≡ suc (to - (at + 1)) = omega arith in
          record {
            low = omega (arith, p.low);
            most = summing_most;
            left =
                p.left ∙ ap (λ k. total + rows_magnitude bound nodes k at) n ∙ ap (λ k. total + (k + rows_magnitude bound nodes (to - (at + 1)) (at + 1))) (sym em)
                ∙ omega arith;
          }

    pub summing_all : to ≤ at → total ≡ rows_magnitude bound nodes (to - from) from
    unfolding rows_of
    summing_all h =
        let n : to - at ≡ zero = omega arith in
        let z : total + 0 ≡ total = omega arith in
        sym (p.left ∙ ap (λ k. total + rows_magnitude bound nodes k at) n ∙ z)
