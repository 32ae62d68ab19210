-- What each letter shows of the magnitude of an amount, and whether a test is small.
use Prim.Native.Nat.{◌*◌, ◌+◌, ◌-◌, ◌≤◌, max, suc, zero, ℕ}
use Rattle.integers.proofs.Solver.{parts_le}
use Rattle.language.proofs.Truth.{and_T, and_e}
use Rattle.language.specs.Limits.{max_amount}
use Rattle.language.specs.Rules.Measures.{magnitude_of_amount}
use Rattle.language.specs.Rules.Table.{all_of}
use Rattle.language.specs.Rules.Tests.{amount_small, test_is_small}
use Rattle.language.specs.Text.Number.{between}
use Rattle.language.specs.Text.Trees.{Amount, choose, difference, index, number, product, quotient, sum}
use Rattle.measures.proofs.Amounts.{amount_is, number_ready, test_is}
use Rattle.measures.proofs.Joins.{again, joined_measured, kept_measured, third, where_measured, within_measured}
use Rattle.measures.specs.Magnitudes.{InBounds, beyond, bound_in, joined, measured, measured_amount}
use Rattle.measures.specs.Ready.{AmountReady, TestReady}
use Rattle.nodes.proofs.Signed.{key}
use Rattle.nodes.specs.Found.{amount_at, offset_of, test_at}
use Rattle.nodes.specs.Letters.{letter_of_amount, letter_of_test}
use Rattle.nodes.specs.Table.{link_at, nat_of, slot_at}
use Rattle.nodes.specs.declared.AmountLetter.TheVariants as letter
use Rattle.nodes.specs.declared.AmountLetter.{AmountLetter}
use Rattle.nodes.specs.declared.TestLetter.TheVariants as test
use Rattle.nodes.specs.declared.TestLetter.{TestLetter}
use borrow.Author.Tests.{le-leb, leb-true}
use lib.Dec.{T, leb}
use lib.IntN.{nat_abs, negsuc, pos, ℤ}
use lib.ListN.{get_or-eq_default, length}
use lib.Signed.{le_z, le_z_yes}
use mathlib.Core.Bool.{Bool, ◌&&◌, cond, true}
use mathlib.Core.List.{List, [], ◌∷◌}
use mathlib.Core.Path.{◌∙◌, ◌≡◌, ap₂, refl}
use mir.Syntax.{w64}
use mir.Val.{SFits, of_z}
use native.Mathlib.Omega.{arith}

-- ---- bounds

in-limit : (b : ℤ) → T (between (pos 0) (pos max_amount) b) → nat_abs b ≤ max_amount
in-limit (pos n) t = omega (arith, parts_le (le_z_yes {a = pos n} {b = pos max_amount} (and_T (le_z (pos 0) (pos n)) (le_z (pos n) (pos max_amount)) t).1))
in-limit (negsuc n) t = absurd t

pub bound_at : (bounds : List ℤ) → T (all_of (between (pos 0) (pos max_amount)) bounds) → (l : ℕ) → bound_in bounds l ≤ max_amount
bound_at [] t l = omega arith
bound_at (b ∷ bs) t zero = in-limit b (and_T (between (pos 0) (pos max_amount) b) (all_of (between (pos 0) (pos max_amount)) bs) t).0
bound_at (b ∷ bs) t (suc l) = bound_at bs (and_T (between (pos 0) (pos max_amount) b) (all_of (between (pos 0) (pos max_amount)) bs) t).1 l

pub bound_absent : (bounds : List ℤ) (l : ℕ) → length bounds ≤ l → 0 ≡ bound_in bounds l
bound_absent bounds l h = rw (get_or-eq_default bounds (pos 0) h) refl

-- ---- the two letters that an operand answers by itself

module _ {s x : ℤ} (f : SFits w64 s) (e : s ≡ x) where
  pub number_key : of_z w64 s ≡ 78 → letter.Number ≡ letter_of_amount x
  unfolding letter_of_amount
  number_key k = rw (← e, key f k) refl

  pub index_key : of_z w64 s ≡ 79 → letter.Index ≡ letter_of_amount x
  unfolding letter_of_amount
  index_key k = rw (← e, key f k) refl

-- ---- where an amount is small, its magnitude is within the limit

module _ (bound : ℕ → ℕ) where
  pub amount_limit : (a : Amount ℤ) → amount_small bound a ≡ true → magnitude_of_amount bound a ≤ max_amount
  unfolding amount_small
  amount_limit (number n) e = leb-true _ _ e
  amount_limit (index l i) e = leb-true _ _ e
  amount_limit (sum a b) e = leb-true _ _ (third (amount_small bound a) (amount_small bound b) _ e)
  amount_limit (difference a b) e = leb-true _ _ (third (amount_small bound a) (amount_small bound b) _ e)
  amount_limit (product a b) e = leb-true _ _ (third (amount_small bound a) (amount_small bound b) _ e)
  amount_limit (quotient n a) e = leb-true _ _ (and_e (amount_small bound a) _ e).1
  amount_limit (choose c a b) e = leb-true _ _ (third (amount_small bound a) (amount_small bound b) _ (and_e (test_is_small bound c) _ e).1)

  amount_within_lem : (a : Amount ℤ) {x : ℕ} → x ≡ measured_amount bound a → leb x max_amount ≡ amount_small bound a
  amount_within_lem a ea = within_measured (amount_small bound a) (magnitude_of_amount bound a) (amount_limit a) ea

  pub amount_kept : (a : Amount ℤ) {x : ℕ} → x ≡ measured_amount bound a → x ≤ beyond
  amount_kept a ea = kept_measured (amount_small bound a) (magnitude_of_amount bound a) (amount_limit a) ea

  join : (op : ℕ → ℕ → ℕ) (a b : Amount ℤ) {x y r : ℕ} → x ≡ measured_amount bound a → y ≡ measured_amount bound b → r ≡ joined op x y
      → r ≡ measured (amount_small bound a && (amount_small bound b && leb (op (magnitude_of_amount bound a) (magnitude_of_amount bound b)) max_amount))
      (op (magnitude_of_amount bound a) (magnitude_of_amount bound b))
  join op a b ex ey er =
      joined_measured op (amount_small bound a) (amount_small bound b) (magnitude_of_amount bound a) (magnitude_of_amount bound b) (amount_limit a) (amount_limit b) ex ey er

  -- the two amounts below a node, each within the limit
  pub two_within : (a b : Amount ℤ) {x y : ℕ} → x ≡ measured_amount bound a → y ≡ measured_amount bound b → {p q : Bool} → p ≡ leb x max_amount → q ≡ leb y max_amount
      → (p && q) ≡ (amount_small bound a && amount_small bound b)
  two_within a b ex ey ep eq = ap₂ ◌&&◌ (ep ∙ amount_within_lem a ex) (eq ∙ amount_within_lem b ey)

-- ---- amounts

module _ (bounds : List ℤ) where
  abbrev bound : ℕ → ℕ
  bound = bound_in bounds

  module _ {left at : ℕ} {nodes : List ℤ} (h : AmountReady left nodes at) {l : AmountLetter} (e : l ≡ letter_of_amount (slot_at nodes at 0)) where
    abbrev whole : ℕ
    whole = measured_amount bound (amount_at offset_of left nodes at)

    abbrev part : ℕ → Amount ℤ
    part p = amount_at offset_of (left - 1) nodes p

    pub number_magnitude : l ≡ letter.Number → {r : ℕ} → r ≡ nat_abs (slot_at nodes at 1) → r ≡ whole
    unfolding amount_small magnitude_of_amount
    number_magnitude t er = rw (amount_is h e t, le-leb (nat_abs (slot_at nodes at 1)) max_amount (number_ready h e t)) er

    pub index_magnitude : l ≡ letter.Index → InBounds bounds → {k r : ℕ} → k ≡ nat_of (slot_at nodes at 1) → r ≡ bound k → r ≡ whole
    unfolding amount_small magnitude_of_amount
    index_magnitude t b {k} ek er = rw (amount_is h e t, ← ek, le-leb (bound k) max_amount (bound_at bounds b.within k)) er

    pub no_amount_magnitude : l ≡ letter.NoAmount → 0 ≡ whole
    unfolding amount_small magnitude_of_amount
    no_amount_magnitude t = rw (amount_is h e t) refl

    module _ {x y : ℕ} (ex : x ≡ measured_amount bound (part (at + 1))) (ey : y ≡ measured_amount bound (part (link_at nodes at 3))) {r : ℕ} where
      pub sum_magnitude : l ≡ letter.Sum → r ≡ joined ◌+◌ x y → r ≡ whole
      unfolding amount_small magnitude_of_amount
      sum_magnitude t er = rw (amount_is h e t) (join bound ◌+◌ (part (at + 1)) (part (link_at nodes at 3)) ex ey er)

      pub difference_magnitude : l ≡ letter.Difference → r ≡ joined ◌+◌ x y → r ≡ whole
      unfolding amount_small magnitude_of_amount
      difference_magnitude t er = rw (amount_is h e t) (join bound ◌+◌ (part (at + 1)) (part (link_at nodes at 3)) ex ey er)

      pub product_magnitude : l ≡ letter.Product → r ≡ joined ◌*◌ x y → r ≡ whole
      unfolding amount_small magnitude_of_amount
      product_magnitude t er = rw (amount_is h e t) (join bound ◌*◌ (part (at + 1)) (part (link_at nodes at 3)) ex ey er)

    pub quotient_magnitude : l ≡ letter.Quotient → {r : ℕ} → r ≡ measured_amount bound (part (at + 1)) → r ≡ whole
    unfolding amount_small magnitude_of_amount
    quotient_magnitude t er =
        rw (amount_is h e t, again (amount_small bound (part (at + 1))) (magnitude_of_amount bound (part (at + 1))) (amount_limit bound (part (at + 1)))) er

    pub choose_magnitude : l ≡ letter.Choose → {c : Bool} → c ≡ test_is_small bound (test_at offset_of (left - 1) nodes (at + 1)) → {p q : ℕ} → p ≡ link_at nodes at 3 → q ≡ link_at nodes at 4
        → {x y r : ℕ} → x ≡ measured_amount bound (part p) → y ≡ measured_amount bound (part q) → r ≡ cond c (joined max x y) beyond → r ≡ whole
    unfolding amount_small magnitude_of_amount
    choose_magnitude t ec {p} {q} ep eq ex ey er =
        rw (amount_is h e t, ← ep, ← eq) (where_measured (test_is_small bound (test_at offset_of (left - 1) nodes (at + 1))) _ _ ec (join bound max (part p) (part q) ex ey refl) er)

  -- ---- tests

  module _ {left at : ℕ} {nodes : List ℤ} (h : TestReady left nodes at) {l : TestLetter} (e : l ≡ letter_of_test (slot_at nodes at 0)) where
    abbrev whole_test : Bool
    whole_test = test_is_small bound (test_at offset_of left nodes at)

    abbrev part_test : ℕ → Bool
    part_test p = test_is_small bound (test_at offset_of (left - 1) nodes p)

    module _ {r : Bool} (er : r ≡ (amount_small bound (amount_at offset_of (left - 1) nodes (at + 1)) && amount_small bound (amount_at offset_of (left - 1) nodes (link_at nodes at 3)))) where
      pub less_small : l ≡ test.Less → r ≡ whole_test
      unfolding test_is_small
      less_small t = rw (test_is h e t) er

      pub equal_small : l ≡ test.Equal → r ≡ whole_test
      unfolding test_is_small
      equal_small t = rw (test_is h e t) er

    pub conjunction_small : l ≡ test.Conjunction → {r : Bool} → r ≡ (part_test (at + 1) && part_test (link_at nodes at 3)) → r ≡ whole_test
    unfolding test_is_small
    conjunction_small t er = rw (test_is h e t) er

    pub disjunction_small : l ≡ test.Disjunction → {r : Bool} → r ≡ (part_test (at + 1) && part_test (link_at nodes at 3)) → r ≡ whole_test
    unfolding test_is_small
    disjunction_small t er = rw (test_is h e t) er

    pub negation_small : l ≡ test.Negation → {r : Bool} → r ≡ part_test (at + 1) → r ≡ whole_test
    unfolding test_is_small
    negation_small t er = rw (test_is h e t) er

    pub no_test_small : l ≡ test.NoTest → true ≡ whole_test
    unfolding test_is_small amount_small magnitude_of_amount
    no_test_small t = rw (test_is h e t) refl
