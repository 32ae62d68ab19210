-- The latest read of rows that stand together.
use Prim.Native.Nat.{◌+◌, ◌-◌, ◌<◌, ◌≤◌, max, suc, zero, ℕ}
use Rattle.integers.proofs.Tests.{le_false, le_true}
use Rattle.language.specs.Limits.{max_nodes}
use Rattle.language.specs.Rules.Measures.{Latest, at_most, later_of, latest_of, latest_of_test, max_z, no_month}
use Rattle.measures.proofs.Firsts.{later_latest}
use Rattle.measures.proofs.RowsTogether.{Joins, amount_rows, reading, test_rows}
use Rattle.nodes.specs.Blocks.{AmountBlock, TestBlock}
use Rattle.measures.specs.Rows.{holds_index, row_latest, rows_latest, rows_of}
use Rattle.measures.specs.Timing.{latest_month}
use Rattle.nodes.specs.Found.{amount_at, offset_of, test_at}
use Rattle.nodes.specs.Table.{nat_of, slot_at}
use lib.IntN.{ℤ}
use lib.Signed.{le_z}
use mathlib.Core.Bool.{Bool, cond, false, true}
use mathlib.Core.List.{List}
use mathlib.Core.Path.{◌∙◌, ◌≡◌, ap, ap₂, refl, sym}
use native.Mathlib.Omega.{arith}

-- ---- the later of several

max_first : (a b c : ℤ) → max_z (max_z a b) c ≡ max_z a (max_z b c)
max_first a b c = by (le_z a b) (le_z b c) (le_z a c) refl refl refl
  where
    by : (p q r : Bool) → le_z a b ≡ p → le_z b c ≡ q → le_z a c ≡ r → cond (le_z (cond p b a) c) c (cond p b a) ≡ cond (le_z a (cond q c b)) (cond q c b) a
    by true true true ep eq er = rw (eq, er) refl
    by true true false ep eq er = absurd (omega (arith, le_true a b ep, le_true b c eq, le_false a c er))
    by true false r ep eq er = rw (eq, ep) refl
    by false true true ep eq er = rw er refl
    by false true false ep eq er = rw er refl
    by false false true ep eq er = absurd (omega (arith, le_false a b ep, le_false b c eq, le_true a c er))
    by false false false ep eq er = rw (er, ep) refl

later_assoc : (x y z : Latest) → later_of (later_of x y) z ≡ later_of x (later_of y z)
unfolding later_of
later_assoc no_month y z = refl
later_assoc (at_most i) no_month z = refl
later_assoc (at_most i) (at_most j) no_month = refl
later_assoc (at_most i) (at_most j) (at_most k) = ap at_most (max_first i j k)

later_second_none : (x : Latest) → later_of x no_month ≡ x
unfolding later_of
later_second_none no_month = refl
later_second_none (at_most i) = refl

latest_joins : Joins no_month later_of (λ l i. at_most i) latest_of latest_of_test
unfolding later_of latest_of latest_of_test
latest_joins = record {
  first_none = λ x. refl;
  second_none = later_second_none;
  assoc = later_assoc;
  of_number = λ n. refl;
  of_index = λ l i. refl;
  of_sum = λ a b. refl;
  of_difference = λ a b. refl;
  of_product = λ a b. refl;
  of_quotient = λ n a. refl;
  of_choose = λ t a b. refl;
  of_less = λ a b. refl;
  of_equal = λ a b. refl;
  of_conjunction = λ s t. refl;
  of_disjunction = λ s t. refl;
  of_negation = λ t. refl;
}

-- ---- an amount's and a test's

module _ (nodes : List ℤ) (from to : ℕ) where
  pub amount_latest : AmountBlock max_nodes nodes from to → (from < to) × (rows_latest nodes (to - from) from ≡ latest_of (amount_at offset_of max_nodes nodes from))
  amount_latest b = let r = amount_rows (reading latest_joins nodes) max_nodes from to b in (r.some, r.gives)

  pub test_latest : TestBlock max_nodes nodes from to → (from < to) × (rows_latest nodes (to - from) from ≡ latest_of_test (test_at offset_of max_nodes nodes from))
  test_latest b = let r = test_rows (reading latest_joins nodes) max_nodes from to b in (r.some, r.gives)

-- ---- a row

module _ (nodes : List ℤ) (at : ℕ) {x : Bool} (ex : x ≡ holds_index (slot_at nodes at 0)) where
  pub row_index : x ≡ true → {i : ℕ} → i ≡ nat_of (slot_at nodes at 2) → i ≡ latest_month (row_latest nodes at)
  row_index t ei = rw (← ex, t) ei

  pub row_other : x ≡ false → 0 ≡ latest_month (row_latest nodes at)
  row_other t = rw (← ex, t) refl

-- ---- the loop: what is left joined to what was passed

pub record Passing (nodes : List ℤ) (from to at latest : ℕ) : Type 0 where
  pub late : Latest
  pub is : latest ≡ latest_month late
  pub low : from ≤ at
  pub high : at ≤ to
  pub left : rows_latest nodes (to - from) from ≡ later_of late (rows_latest nodes (to - at) at)

module _ {nodes : List ℤ} {from to : ℕ} where
  pub passing_none : from ≤ to → Passing nodes from to from 0
  unfolding later_of
  passing_none h = record { late = no_month; is = refl; low = omega arith; high = h; left = refl }

  pub passing_row : {at a b r : ℕ} → Passing nodes from to at a → at < to → b ≡ latest_month (row_latest nodes at) → r ≡ max a b → Passing nodes from to (at + 1) r
  unfolding rows_of
  passing_row {at} p h eb er =
      let n : to - at ≡ suc (to - (at + 1)) = omega arith in
      record {
        late = later_of p.late (row_latest nodes at);
        is = er ∙ ap₂ max p.is eb ∙ sym (later_latest p.late (row_latest nodes at));
        low = omega (arith, p.low);
        high = omega arith;
        left =
            p.left ∙ ap (λ k. later_of p.late (rows_latest nodes k at)) n
            ∙ sym (later_assoc p.late (row_latest nodes at) (rows_latest nodes (to - (at + 1)) (at + 1)));
      }

  pub passing_all : {at a : ℕ} → Passing nodes from to at a → to ≤ at → a ≡ latest_month (rows_latest nodes (to - from) from)
  unfolding rows_of
  passing_all {at} p h =
      let n : to - at ≡ zero = omega arith in
      p.is ∙ ap latest_month (sym (p.left ∙ ap (λ k. later_of p.late (rows_latest nodes k at)) n ∙ later_second_none p.late))
