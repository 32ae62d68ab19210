-- The rows of an amount or test, joined, give what the amount or test gives, for any measure that joins its parts alike.
use Prim.Native.Nat.{◌+◌, ◌-◌, ◌<◌, ◌≤◌, suc, zero, ℕ}
use Rattle.language.specs.Text.Trees.{Amount, Test, choose, conjunction, difference, disjunction, equal, index, less, negation, number, product, quotient, sum}
use Rattle.measures.proofs.RowLetters.{amount_index, amount_other, test_other}
use Rattle.nodes.specs.Blocks.{AmountBlock, TestBlock, amount_block, test_block}
use Rattle.measures.specs.Rows.{holds_index, row_by, rows_of}
use Rattle.nodes.specs.Found.{amount_at, amount_by, offset_of, test_at, test_by}
use Rattle.nodes.specs.Letters.{letter_of_amount, letter_of_test}
use Rattle.nodes.specs.Table.{link_at, nat_of, slot_at}
use Rattle.nodes.specs.declared.AmountLetter.TheVariants as amount
use Rattle.nodes.specs.declared.AmountLetter.{AmountLetter}
use Rattle.nodes.specs.declared.TestLetter.TheVariants as test
use Rattle.nodes.specs.declared.TestLetter.{TestLetter}
use lib.IntN.{ℤ}
use mathlib.Core.Bool.{false}
use mathlib.Core.List.{List}
use mathlib.Core.Path.{◌∙◌, ◌≡◌, ap, ap₂, refl, sym}
use native.Mathlib.Omega.{arith}

-- how a measure that reads joins its parts
pub record Joins {A : Type 0} (none : A) (op : A → A → A) (read : ℕ → ℤ → A) (of_amount : Amount ℤ → A) (of_test : Test ℤ → A) : Type 0 where
  pub first_none : (x : A) → op none x ≡ x
  pub second_none : (x : A) → op x none ≡ x
  pub assoc : (x y z : A) → op (op x y) z ≡ op x (op y z)
  pub of_number : (n : ℤ) → of_amount (number n) ≡ none
  pub of_index : (l : ℕ) (i : ℤ) → of_amount (index l i) ≡ read l i
  pub of_sum : (a b : Amount ℤ) → of_amount (sum a b) ≡ op (of_amount a) (of_amount b)
  pub of_difference : (a b : Amount ℤ) → of_amount (difference a b) ≡ op (of_amount a) (of_amount b)
  pub of_product : (a b : Amount ℤ) → of_amount (product a b) ≡ op (of_amount a) (of_amount b)
  pub of_quotient : (n : ℕ) (a : Amount ℤ) → of_amount (quotient n a) ≡ of_amount a
  pub of_choose : (t : Test ℤ) (a b : Amount ℤ) → of_amount (choose t a b) ≡ op (of_test t) (op (of_amount a) (of_amount b))
  pub of_less : (a b : Amount ℤ) → of_test (less a b) ≡ op (of_amount a) (of_amount b)
  pub of_equal : (a b : Amount ℤ) → of_test (equal a b) ≡ op (of_amount a) (of_amount b)
  pub of_conjunction : (s t : Test ℤ) → of_test (conjunction s t) ≡ op (of_test s) (of_test t)
  pub of_disjunction : (s t : Test ℤ) → of_test (disjunction s t) ≡ op (of_test s) (of_test t)
  pub of_negation : (t : Test ℤ) → of_test (negation t) ≡ of_test t

-- how any measure joins a node's own row to its parts
pub record RowJoins {A : Type 0} (none : A) (op : A → A → A) (nodes : List ℤ) (row : ℕ → A) (of_amount : Amount ℤ → A) (of_test : Test ℤ → A) : Type 0 where
  pub first_none : (x : A) → op none x ≡ x
  pub second_none : (x : A) → op x none ≡ x
  pub assoc : (x y z : A) → op (op x y) z ≡ op x (op y z)
  pub at_number : (at : ℕ) → letter_of_amount (slot_at nodes at 0) ≡ amount.Number → row at ≡ of_amount (number (slot_at nodes at 1))
  pub at_index : (at : ℕ) → letter_of_amount (slot_at nodes at 0) ≡ amount.Index → row at ≡ of_amount (index (nat_of (slot_at nodes at 1)) (slot_at nodes at 2))
  pub at_sum : (at : ℕ) → letter_of_amount (slot_at nodes at 0) ≡ amount.Sum → (a b : Amount ℤ) → op (row at) (op (of_amount a) (of_amount b)) ≡ of_amount (sum a b)
  pub at_difference : (at : ℕ) → letter_of_amount (slot_at nodes at 0) ≡ amount.Difference → (a b : Amount ℤ) → op (row at) (op (of_amount a) (of_amount b)) ≡ of_amount (difference a b)
  pub at_product : (at : ℕ) → letter_of_amount (slot_at nodes at 0) ≡ amount.Product → (a b : Amount ℤ) → op (row at) (op (of_amount a) (of_amount b)) ≡ of_amount (product a b)
  pub at_quotient : (at : ℕ) → letter_of_amount (slot_at nodes at 0) ≡ amount.Quotient → (n : ℕ) (a : Amount ℤ) → op (row at) (of_amount a) ≡ of_amount (quotient n a)
  pub at_choose : (at : ℕ) → letter_of_amount (slot_at nodes at 0) ≡ amount.Choose → (t : Test ℤ) (a b : Amount ℤ)
      → op (row at) (op (of_test t) (op (of_amount a) (of_amount b))) ≡ of_amount (choose t a b)
  pub at_less : (at : ℕ) → letter_of_test (slot_at nodes at 0) ≡ test.Less → (a b : Amount ℤ) → op (row at) (op (of_amount a) (of_amount b)) ≡ of_test (less a b)
  pub at_equal : (at : ℕ) → letter_of_test (slot_at nodes at 0) ≡ test.Equal → (a b : Amount ℤ) → op (row at) (op (of_amount a) (of_amount b)) ≡ of_test (equal a b)
  pub at_conjunction : (at : ℕ) → letter_of_test (slot_at nodes at 0) ≡ test.Conjunction → (s t : Test ℤ) → op (row at) (op (of_test s) (of_test t)) ≡ of_test (conjunction s t)
  pub at_disjunction : (at : ℕ) → letter_of_test (slot_at nodes at 0) ≡ test.Disjunction → (s t : Test ℤ) → op (row at) (op (of_test s) (of_test t)) ≡ of_test (disjunction s t)
  pub at_negation : (at : ℕ) → letter_of_test (slot_at nodes at 0) ≡ test.Negation → (t : Test ℤ) → op (row at) (of_test t) ≡ of_test (negation t)

-- a measure that reads has nothing of a row that is no `O`
module _ {A : Type 0} {none : A} {op : A → A → A} {read : ℕ → ℤ → A} {of_amount : Amount ℤ → A} {of_test : Test ℤ → A} (j : Joins none op read of_amount of_test) (nodes : List ℤ) where
  unread : (at : ℕ) → holds_index (slot_at nodes at 0) ≡ false → row_by none read nodes at ≡ none
  unread at e = rw e refl

  passed : (at : ℕ) → holds_index (slot_at nodes at 0) ≡ false → {x y : A} → y ≡ x → op (row_by none read nodes at) x ≡ y
  passed at e {x} q = ap (λ w. op w x) (unread at e) ∙ j.first_none x ∙ sym q

  pub reading : RowJoins none op nodes (λ at. row_by none read nodes at) of_amount of_test
  reading = record {
    first_none = j.first_none;
    second_none = j.second_none;
    assoc = j.assoc;
    at_number = λ at e. unread at (amount_other _ e) ∙ sym (j.of_number (slot_at nodes at 1));
    at_index = λ at e. rw (amount_index _ e) (sym (j.of_index (nat_of (slot_at nodes at 1)) (slot_at nodes at 2)));
    at_sum = λ at e a b. passed at (amount_other _ e) (j.of_sum a b);
    at_difference = λ at e a b. passed at (amount_other _ e) (j.of_difference a b);
    at_product = λ at e a b. passed at (amount_other _ e) (j.of_product a b);
    at_quotient = λ at e n a. passed at (amount_other _ e) (j.of_quotient n a);
    at_choose = λ at e t a b. passed at (amount_other _ e) (j.of_choose t a b);
    at_less = λ at e a b. passed at (test_other _ e refl) (j.of_less a b);
    at_equal = λ at e a b. passed at (test_other _ e refl) (j.of_equal a b);
    at_conjunction = λ at e s t. passed at (test_other _ e refl) (j.of_conjunction s t);
    at_disjunction = λ at e s t. passed at (test_other _ e refl) (j.of_disjunction s t);
    at_negation = λ at e t. passed at (test_other _ e refl) (j.of_negation t);
  }

module _ {A : Type 0} {none : A} {op : A → A → A} {nodes : List ℤ} {row : ℕ → A} {of_amount : Amount ℤ → A} {of_test : Test ℤ → A} (j : RowJoins none op nodes row of_amount of_test) where
  abbrev between : ℕ → ℕ → A
  between from to = rows_of none op row (to - from) from

  split : (m n from : ℕ) → rows_of none op row (m + n) from ≡ op (rows_of none op row m from) (rows_of none op row n (from + m))
  unfolding rows_of
  split zero n from =
      let a : 0 + n ≡ n = omega arith in
      let b : from + 0 ≡ from = omega arith in
      rw (a, b) (sym (j.first_none (rows_of none op row n from)))
  split (suc m) n from =
      let a : suc m + n ≡ suc (m + n) = omega arith in
      let b : from + suc m ≡ from + 1 + m = omega arith in
      rw (a, b) (ap (op (row from)) (split m n (from + 1)) ∙ sym (j.assoc (row from) (rows_of none op row m (from + 1)) (rows_of none op row n (from + 1 + m))))

  parts : (from mid to : ℕ) → from ≤ mid → mid ≤ to → between from to ≡ op (between from mid) (between mid to)
  parts from mid to h k =
      let a : to - from ≡ (mid - from) + (to - mid) = omega arith in
      let b : from + (mid - from) ≡ mid = omega arith in
      ap (λ n. rows_of none op row n from) a ∙ split (mid - from) (to - mid) from ∙ ap (λ p. op (between from mid) (rows_of none op row (to - mid) p)) b

  one : (from : ℕ) → between from (from + 1) ≡ row from
  unfolding rows_of
  one from =
      let a : from + 1 - from ≡ suc zero = omega arith in
      rw a (j.second_none (row from))

  -- what the rows from one on up to another give
  pub record Gives (from to : ℕ) (x : A) : Type 0 where
    pub some : from < to
    pub gives : between from to ≡ x

  given : {from to : ℕ} {x y : A} → x ≡ y → Gives from to x → Gives from to y
  given e g = record { some = g.some; gives = g.gives ∙ e }

  -- one row, one part behind a row, and two
  alone : (from to : ℕ) → to ≡ from + 1 → Gives from to (row from)
  alone from to e = record { some = omega arith; gives = ap (between from) e ∙ one from }

  below : (from to : ℕ) {x : A} → Gives (from + 1) to x → Gives from to (op (row from) x)
  below from to g = record {
    some = omega (arith, g.some);
    gives = parts from (from + 1) to (omega arith) (omega (arith, g.some)) ∙ ap₂ op (one from) g.gives;
  }

  both : (from mid to : ℕ) {x y : A} → Gives from mid x → Gives mid to y → Gives from to (op x y)
  both from mid to f g =
      record { some = omega (arith, f.some, g.some); gives = parts from mid to (omega (arith, f.some)) (omega (arith, g.some)) ∙ ap₂ op f.gives g.gives }

  -- one level up
  module _ (left : ℕ) (amountRows : (from to : ℕ) → AmountBlock left nodes from to → Gives from to (of_amount (amount_at offset_of left nodes from)))
      (testRows : (from to : ℕ) → TestBlock left nodes from to → Gives from to (of_test (test_at offset_of left nodes from))) where
    amount_by_lem : (from to : ℕ) (m : AmountLetter) → letter_of_amount (slot_at nodes from 0) ≡ m
        → amount_block m (λ p q. AmountBlock left nodes p q) (λ p q. TestBlock left nodes p q) from (link_at nodes from 3) (link_at nodes from 4) to
        → Gives from to (of_amount (amount_by m (slot_at nodes from 1) (slot_at nodes from 2) (test_at offset_of left nodes (from + 1))
        (amount_at offset_of left nodes (from + 1)) (amount_at offset_of left nodes (link_at nodes from 3)) (amount_at offset_of left nodes (link_at nodes from 4))))
    amount_by_lem from to amount.Number e b = given (j.at_number from e) (alone from to b)
    amount_by_lem from to amount.Index e b = given (j.at_index from e) (alone from to b)
    amount_by_lem from to amount.Sum e b =
        given (j.at_sum from e _ _)
        (below from to (both (from + 1) (link_at nodes from 3) to
        (amountRows (from + 1) (link_at nodes from 3) b.0) (amountRows (link_at nodes from 3) to b.1)))
    amount_by_lem from to amount.Difference e b =
        given (j.at_difference from e _ _)
        (below from to (both (from + 1) (link_at nodes from 3) to
        (amountRows (from + 1) (link_at nodes from 3) b.0) (amountRows (link_at nodes from 3) to b.1)))
    amount_by_lem from to amount.Product e b =
        given (j.at_product from e _ _)
        (below from to (both (from + 1) (link_at nodes from 3) to
        (amountRows (from + 1) (link_at nodes from 3) b.0) (amountRows (link_at nodes from 3) to b.1)))
    amount_by_lem from to amount.Quotient e b = given (j.at_quotient from e _ _) (below from to (amountRows (from + 1) to b))
    amount_by_lem from to amount.Choose e b =
        let x = both (link_at nodes from 3) (link_at nodes from 4) to (amountRows (link_at nodes from 3) (link_at nodes from 4) b.1) (amountRows (link_at nodes from 4) to b.2) in
        given (j.at_choose from e _ _ _)
        (below from to (both (from + 1) (link_at nodes from 3) to (testRows (from + 1) (link_at nodes from 3) b.0) x))
    amount_by_lem from to amount.NoAmount e b = absurd b

    test_by_lem : (from to : ℕ) (m : TestLetter) → letter_of_test (slot_at nodes from 0) ≡ m
        → test_block m (λ p q. AmountBlock left nodes p q) (λ p q. TestBlock left nodes p q) from (link_at nodes from 3) to
        → Gives from to (of_test (test_by m (amount_at offset_of left nodes (from + 1)) (amount_at offset_of left nodes (link_at nodes from 3))
        (test_at offset_of left nodes (from + 1)) (test_at offset_of left nodes (link_at nodes from 3))))
    test_by_lem from to test.Less e b =
        given (j.at_less from e _ _)
        (below from to (both (from + 1) (link_at nodes from 3) to
        (amountRows (from + 1) (link_at nodes from 3) b.0) (amountRows (link_at nodes from 3) to b.1)))
    test_by_lem from to test.Equal e b =
        given (j.at_equal from e _ _)
        (below from to (both (from + 1) (link_at nodes from 3) to
        (amountRows (from + 1) (link_at nodes from 3) b.0) (amountRows (link_at nodes from 3) to b.1)))
    test_by_lem from to test.Conjunction e b =
        given (j.at_conjunction from e _ _)
        (below from to (both (from + 1) (link_at nodes from 3) to
        (testRows (from + 1) (link_at nodes from 3) b.0) (testRows (link_at nodes from 3) to b.1)))
    test_by_lem from to test.Disjunction e b =
        given (j.at_disjunction from e _ _)
        (below from to (both (from + 1) (link_at nodes from 3) to
        (testRows (from + 1) (link_at nodes from 3) b.0) (testRows (link_at nodes from 3) to b.1)))
    test_by_lem from to test.Negation e b = given (j.at_negation from e _) (below from to (testRows (from + 1) to b))
    test_by_lem from to test.NoTest e b = absurd b

  mutual
    unfolding AmountBlock TestBlock amount_at test_at

    pub amount_rows : (left from to : ℕ) → AmountBlock left nodes from to → Gives from to (of_amount (amount_at offset_of left nodes from))
    amount_rows zero from to b = absurd b
    amount_rows (suc left) from to b =
        amount_by_lem left (λ p q c. amount_rows left p q c) (λ p q c. test_rows left p q c) from to (letter_of_amount (slot_at nodes from 0)) refl b

    pub test_rows : (left from to : ℕ) → TestBlock left nodes from to → Gives from to (of_test (test_at offset_of left nodes from))
    test_rows zero from to b = absurd b
    test_rows (suc left) from to b =
        test_by_lem left (λ p q c. amount_rows left p q c) (λ p q c. test_rows left p q c) from to (letter_of_test (slot_at nodes from 0)) refl b
