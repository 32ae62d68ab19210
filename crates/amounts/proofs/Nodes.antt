-- What is known at a node once its letter is: the tree that stands there, that its children stand, and that it can be worked out.
use Prim.Native.Nat.{◌+◌, ◌-◌, suc, zero, ℕ}
use lib.IntN.{ℤ}
use mathlib.Core.List.{List}
use mathlib.Core.Path.{◌∙◌, ◌≡◌, ap, refl, subst, sym}
use mir.Facts.{to_z-of_z}
use mir.Syntax.{w64}
use mir.Val.{SFits, of_z}
use native.Mathlib.Omega.{arith}
use Rattle.integers.proofs.Locals.{rd}
use Rattle.language.specs.Text.Trees.{Amount, Test}
use Rattle.nodes.proofs.Signed.{key}
use Rattle.nodes.specs.Found.{amount_at, amount_by, offset_of, test_at, test_by}
use Rattle.nodes.specs.Letters.{letter_of_amount, letter_of_test}
use Rattle.nodes.specs.Stands.{AmountStands, Forward, TestStands, amount_asks, test_asks}
use Rattle.nodes.specs.Table.{RowIn, link_at, slot_at}
use Rattle.nodes.specs.declared.AmountLetter.{AmountLetter}
use Rattle.nodes.specs.declared.AmountLetter.TheVariants as amount
use Rattle.nodes.specs.declared.TestLetter.{TestLetter}
use Rattle.amounts.specs.Fine.{Fine, FineTest}

-- the tree that a letter makes of a node's row and children, with `left` levels left at the node
abbrev pub amount_of : List ℤ → ℕ → ℕ → AmountLetter → Amount ℤ
amount_of nodes left at l =
    amount_by l (slot_at nodes at 1) (slot_at nodes at 2)
    (test_at offset_of (left - 1) nodes (at + 1))
    (amount_at offset_of (left - 1) nodes (at + 1))
    (amount_at offset_of (left - 1) nodes (link_at nodes at 3))
    (amount_at offset_of (left - 1) nodes (link_at nodes at 4))

abbrev pub test_of : List ℤ → ℕ → ℕ → TestLetter → Test ℤ
test_of nodes left at l =
    test_by l
    (amount_at offset_of (left - 1) nodes (at + 1))
    (amount_at offset_of (left - 1) nodes (link_at nodes at 3))
    (test_at offset_of (left - 1) nodes (at + 1))
    (test_at offset_of (left - 1) nodes (link_at nodes at 3))

-- what the letter asks of the children
abbrev pub amount_stands_by : List ℤ → ℕ → ℕ → AmountLetter → Type 0
amount_stands_by nodes left at l =
    amount_asks l
    (TestStands (left - 1) nodes (at + 1))
    (AmountStands (left - 1) nodes (at + 1))
    (Forward nodes at 3 × AmountStands (left - 1) nodes (link_at nodes at 3))
    (Forward nodes at 4 × AmountStands (left - 1) nodes (link_at nodes at 4))

abbrev pub test_stands_by : List ℤ → ℕ → ℕ → TestLetter → Type 0
test_stands_by nodes left at l =
    test_asks l
    (AmountStands (left - 1) nodes (at + 1))
    (Forward nodes at 3 × AmountStands (left - 1) nodes (link_at nodes at 3))
    (TestStands (left - 1) nodes (at + 1))
    (Forward nodes at 3 × TestStands (left - 1) nodes (link_at nodes at 3))

pub record AmountNode (values nodes : List ℤ) (r left at : ℕ) (l : AmountLetter) : Type 0 where
  pub some : left ≡ 0 → ⊥
  pub inside : RowIn nodes at
  pub stands : amount_stands_by nodes left at l
  pub tree : amount_at offset_of left nodes at ≡ amount_of nodes left at l
  pub fine : Fine values r (amount_of nodes left at l)

pub record TestNode (values nodes : List ℤ) (r left at : ℕ) (l : TestLetter) : Type 0 where
  pub some : left ≡ 0 → ⊥
  pub inside : RowIn nodes at
  pub stands : test_stands_by nodes left at l
  pub tree : test_at offset_of left nodes at ≡ test_of nodes left at l
  pub fine : FineTest values r (test_of nodes left at l)

less_one : (n : ℕ) → suc n - 1 ≡ n
less_one n = omega arith

amount_tree_lem : (nodes : List ℤ) (left at : ℕ) → (left ≡ 0 → ⊥) → amount_at offset_of left nodes at ≡ amount_of nodes left at (letter_of_amount (slot_at nodes at 0))
unfolding amount_at
amount_tree_lem nodes zero at h = absurd (h refl)
amount_tree_lem nodes (suc left) at h = rw (less_one left)

test_tree_lem : (nodes : List ℤ) (left at : ℕ) → (left ≡ 0 → ⊥) → test_at offset_of left nodes at ≡ test_of nodes left at (letter_of_test (slot_at nodes at 0))
unfolding test_at
test_tree_lem nodes zero at h = absurd (h refl)
test_tree_lem nodes (suc left) at h = rw (less_one left)

-- what stands in the table has a level left and a row
module _ (nodes : List ℤ) (left at : ℕ) where
  pub amount_some : AmountStands left nodes at → (left ≡ 0 → ⊥)
  unfolding AmountStands
  amount_some h e = absurd (subst (λ n. AmountStands n nodes at) e h)

  pub test_some : TestStands left nodes at → (left ≡ 0 → ⊥)
  unfolding TestStands
  test_some h e = absurd (subst (λ n. TestStands n nodes at) e h)

amount_asks_lem : (nodes : List ℤ) (left at : ℕ) → AmountStands left nodes at → RowIn nodes at × amount_stands_by nodes left at (letter_of_amount (slot_at nodes at 0))
unfolding AmountStands
amount_asks_lem nodes zero at h = absurd h
amount_asks_lem nodes (suc left) at h = rw (less_one left) h

test_asks_lem : (nodes : List ℤ) (left at : ℕ) → TestStands left nodes at → RowIn nodes at × test_stands_by nodes left at (letter_of_test (slot_at nodes at 0))
unfolding TestStands
test_asks_lem nodes zero at h = absurd h
test_asks_lem nodes (suc left) at h = rw (less_one left) h

pub amount_inside : (nodes : List ℤ) (left at : ℕ) → AmountStands left nodes at → RowIn nodes at
amount_inside nodes left at h = (amount_asks_lem nodes left at h).0

pub test_inside : (nodes : List ℤ) (left at : ℕ) → TestStands left nodes at → RowIn nodes at
test_inside nodes left at h = (test_asks_lem nodes left at h).0

-- s is the letter's byte as the code reads it, l the letter that the code finds, m that of the arm
module _ (values nodes : List ℤ) (r left at : ℕ) (s : ℤ) (fs : SFits w64 s) (es : s ≡ slot_at nodes at 0) where
  pub amount_node : AmountStands left nodes at → Fine values r (amount_at offset_of left nodes at)
      → (l : AmountLetter) → l ≡ letter_of_amount (rd s) → (m : AmountLetter) → l ≡ m → AmountNode values nodes r left at m
  amount_node h f l el m e =
      subst (AmountNode values nodes r left at) (ap letter_of_amount (sym (to_z-of_z fs ∙ es)) ∙ sym el ∙ e)
      (record {
        some = amount_some nodes left at h;
        inside = amount_inside nodes left at h;
        stands = (amount_asks_lem nodes left at h).1;
        tree = amount_tree_lem nodes left at (amount_some nodes left at h);
        fine = subst (Fine values r) (amount_tree_lem nodes left at (amount_some nodes left at h)) f;
      })

  pub test_node : TestStands left nodes at → FineTest values r (test_at offset_of left nodes at)
      → (l : TestLetter) → l ≡ letter_of_test (rd s) → (m : TestLetter) → l ≡ m → TestNode values nodes r left at m
  test_node h f l el m e =
      subst (TestNode values nodes r left at) (ap letter_of_test (sym (to_z-of_z fs ∙ es)) ∙ sym el ∙ e)
      (record {
        some = test_some nodes left at h;
        inside = test_inside nodes left at h;
        stands = (test_asks_lem nodes left at h).1;
        tree = test_tree_lem nodes left at (test_some nodes left at h);
        fine = subst (FineTest values r) (test_tree_lem nodes left at (test_some nodes left at h)) f;
      })

-- the two letters that an operand answers by itself
pub number_key : (s : ℤ) → SFits w64 s → of_z w64 s ≡ 78 → amount.Number ≡ letter_of_amount (rd s)
unfolding letter_of_amount
number_key s fs e = rw (to_z-of_z fs, key fs e)

pub index_key : (s : ℤ) → SFits w64 s → of_z w64 s ≡ 79 → amount.Index ≡ letter_of_amount (rd s)
unfolding letter_of_amount
index_key s fs e = rw (to_z-of_z fs, key fs e)
