-- The rows of an amount or test, copied: its indexes replaced, all else kept. One induction over the letters for every such change.
use Prim.Native.Nat.{◌<◌, ℕ}
use lib.IntN.{pos, ℤ}
use mathlib.Core.List.{List, [], ◌++◌, ◌∷◌}
use mathlib.Core.Path.{◌≡◌, refl}
use Rattle.copies.proofs.Becoming.{TreesBecome, end_becomes, node_becomes, row_becomes, row_kept}
use Rattle.copies.specs.Copied.{copy_row}
use Rattle.copies.specs.Plain.{plain_rows}
use Rattle.language.specs.Limits.{max_labels}
use Rattle.language.specs.Text.Classes.{Field, a_number}
use Rattle.language.specs.Text.Form.{fields_of_amount, fields_of_test}
use Rattle.language.specs.Text.Letters.{AmountLetter, Form, PlanLetter, TestLetter, amount_row, of_amount, of_test, row_of, test_row}
use Rattle.language.specs.Text.Reader.{Trees, end}
use Rattle.language.specs.Text.Trees.{Amount, Test, choose, conjunction, difference, disjunction, equal, index, less, negation, number, product, quotient, sum}
use Rattle.language.specs.Text.Typed.{amount_tree, test_tree}
use Rattle.nodes.specs.Rows.{field_slots, last_slots, slots_of}

-- a change that leaves all but the indexes as they are
pub record Keeps {M N : Type 0} (onAmount : Amount M → Amount N) (on_test : Test M → Test N) : Type 0 where
  pub of_number : (n : ℤ) → onAmount (number n) ≡ number n
  pub of_sum : (a b : Amount M) → onAmount (sum a b) ≡ sum (onAmount a) (onAmount b)
  pub of_difference : (a b : Amount M) → onAmount (difference a b) ≡ difference (onAmount a) (onAmount b)
  pub of_product : (a b : Amount M) → onAmount (product a b) ≡ product (onAmount a) (onAmount b)
  pub of_quotient : (n : ℕ) (a : Amount M) → onAmount (quotient n a) ≡ quotient n (onAmount a)
  pub of_choose : (t : Test M) (a b : Amount M) → onAmount (choose t a b) ≡ choose (on_test t) (onAmount a) (onAmount b)
  pub of_less : (a b : Amount M) → on_test (less a b) ≡ less (onAmount a) (onAmount b)
  pub of_equal : (a b : Amount M) → on_test (equal a b) ≡ equal (onAmount a) (onAmount b)
  pub of_conjunction : (s t : Test M) → on_test (conjunction s t) ≡ conjunction (on_test s) (on_test t)
  pub of_disjunction : (s t : Test M) → on_test (disjunction s t) ≡ disjunction (on_test s) (on_test t)
  pub of_negation : (t : Test M) → on_test (negation t) ≡ negation (on_test t)

-- no change at all
pub same_keeps : Keeps {M = ℤ} (λ a. a) (λ t. t)
same_keeps = record {
  of_number = λ n. refl;
  of_sum = λ a b. refl;
  of_difference = λ a b. refl;
  of_product = λ a b. refl;
  of_quotient = λ n a. refl;
  of_choose = λ t a b. refl;
  of_less = λ a b. refl;
  of_equal = λ a b. refl;
  of_conjunction = λ s t. refl;
  of_disjunction = λ s t. refl;
  of_negation = λ t. refl;
}

-- the table has the amount as `in_table` makes it, an index of label l and offset i with the second field `field l i`; written is what `written` makes of it
module _ {Q N : Type 0} (form : Form Q) (when : N → Field) (row : ℤ → ℤ → List ℤ) (good : ℤ → Type 0)
    (in_table : Amount ℤ → Amount ℤ) (inTableTest : Test ℤ → Test ℤ) (src : Keeps in_table inTableTest)
    (written : Amount ℤ → Amount N) (writtenTest : Test ℤ → Test N) (out : Keeps written writtenTest)
    (field : ℕ → ℤ → ℤ) (reads : (l : ℕ) (i : ℤ) → in_table (index l i) ≡ index l (field l i))
    (turns : (l : ℕ) (i : ℤ) → l < max_labels → good i → (r : Trees Q) → plain_rows form (amount_tree when (written (index l i)) r) ≡ row (pos l) (field l i) ++ plain_rows form r) where
  abbrev Turns : Trees PlanLetter → Trees Q → Type 0
  Turns t u = TreesBecome (copy_row row) form t u

  -- an index's row
  index_turns : (l : ℕ) (i : ℤ) (c : Trees PlanLetter) → copy_row row (pos 79 ∷ pos l ∷ i ∷ last_slots (pos l ∷ i ∷ []) c) ≡ row (pos l) i
  unfolding copy_row
  index_turns l i c = refl

  mutual
    unfolding amount_tree test_tree row_of amount_row test_row fields_of_amount fields_of_test slots_of field_slots plain_rows

    pub amount_becomes : (a : Amount ℤ) → fields_of_amount good a → {r : Trees PlanLetter} {u : Trees Q} → Turns r u → Turns (amount_tree a_number (in_table a) r) (amount_tree when (written a) u)
    amount_becomes (number n) g b =
        rw (src.of_number n, out.of_number n)
        (node_becomes (copy_row row) form (of_amount AmountLetter.N) (a_number n ∷ []) (of_amount AmountLetter.N) (a_number n ∷ []) (row_kept row 78 (n ∷ []) end end refl refl refl) (end_becomes (copy_row row) form) b)
    amount_becomes (index l i) g {r} {u} b =
        record {
          is = rw (reads l i, turns l i g.0 g.1 u)
              (row_becomes (copy_row row) form (of_amount AmountLetter.O) (a_number (pos l) ∷ a_number (field l i) ∷ []) (index_turns l (field l i) end) (end_becomes (copy_row row) form) b);
        }
    amount_becomes (sum a c) g b =
        rw (src.of_sum a c, out.of_sum a c)
        (node_becomes (copy_row row) form (of_amount AmountLetter.A) [] (of_amount AmountLetter.A) [] (row_kept row 65 [] _ _ refl refl refl) (amount_becomes a g.0 (amount_becomes c g.1 (end_becomes (copy_row row) form))) b)
    amount_becomes (difference a c) g b =
        rw (src.of_difference a c, out.of_difference a c)
        (node_becomes (copy_row row) form (of_amount AmountLetter.U) [] (of_amount AmountLetter.U) [] (row_kept row 85 [] _ _ refl refl refl) (amount_becomes a g.0 (amount_becomes c g.1 (end_becomes (copy_row row) form))) b)
    amount_becomes (product a c) g b =
        rw (src.of_product a c, out.of_product a c)
        (node_becomes (copy_row row) form (of_amount AmountLetter.K) [] (of_amount AmountLetter.K) [] (row_kept row 75 [] _ _ refl refl refl) (amount_becomes a g.0 (amount_becomes c g.1 (end_becomes (copy_row row) form))) b)
    amount_becomes (quotient n a) g b =
        rw (src.of_quotient n a, out.of_quotient n a)
        (node_becomes (copy_row row) form (of_amount AmountLetter.Q) (a_number (pos n) ∷ []) (of_amount AmountLetter.Q) (a_number (pos n) ∷ []) (row_kept row 81 (pos n ∷ []) _ _ refl refl refl) (amount_becomes a g.2 (end_becomes (copy_row row) form)) b)
    amount_becomes (choose t a c) g b =
        rw (src.of_choose t a c, out.of_choose t a c)
        (node_becomes (copy_row row) form (of_amount AmountLetter.I) [] (of_amount AmountLetter.I) [] (row_kept row 73 [] _ _ refl refl refl)
        (test_becomes t g.0 (amount_becomes a g.1 (amount_becomes c g.2 (end_becomes (copy_row row) form)))) b)

    pub test_becomes : (t : Test ℤ) → fields_of_test good t → {r : Trees PlanLetter} {u : Trees Q} → Turns r u → Turns (test_tree a_number (inTableTest t) r) (test_tree when (writtenTest t) u)
    test_becomes (less a c) g b =
        rw (src.of_less a c, out.of_less a c)
        (node_becomes (copy_row row) form (of_test TestLetter.G) [] (of_test TestLetter.G) [] (row_kept row 71 [] _ _ refl refl refl) (amount_becomes a g.0 (amount_becomes c g.1 (end_becomes (copy_row row) form))) b)
    test_becomes (equal a c) g b =
        rw (src.of_equal a c, out.of_equal a c)
        (node_becomes (copy_row row) form (of_test TestLetter.E) [] (of_test TestLetter.E) [] (row_kept row 69 [] _ _ refl refl refl) (amount_becomes a g.0 (amount_becomes c g.1 (end_becomes (copy_row row) form))) b)
    test_becomes (conjunction s t) g b =
        rw (src.of_conjunction s t, out.of_conjunction s t)
        (node_becomes (copy_row row) form (of_test TestLetter.Y) [] (of_test TestLetter.Y) [] (row_kept row 89 [] _ _ refl refl refl) (test_becomes s g.0 (test_becomes t g.1 (end_becomes (copy_row row) form))) b)
    test_becomes (disjunction s t) g b =
        rw (src.of_disjunction s t, out.of_disjunction s t)
        (node_becomes (copy_row row) form (of_test TestLetter.«V») [] (of_test TestLetter.«V») [] (row_kept row 86 [] _ _ refl refl refl) (test_becomes s g.0 (test_becomes t g.1 (end_becomes (copy_row row) form))) b)
    test_becomes (negation t) g b =
        rw (src.of_negation t, out.of_negation t)
        (node_becomes (copy_row row) form (of_test TestLetter.R) [] (of_test TestLetter.R) [] (row_kept row 82 [] _ _ refl refl refl) (test_becomes t g (end_becomes (copy_row row) form)) b)
