-- What is known at a node once its letter is: the tree that stands there, that its children stand, and that its fields are in range.
use Prim.Native.Nat.{◌-◌, ◌<◌, suc, zero, ℕ}
use lib.IntN.{ℤ}
use mathlib.Core.List.{List}
use mathlib.Core.Path.{◌∙◌, ◌≡◌, ap, subst, sym}
use mir.Facts.{to_z-of_z}
use mir.Syntax.{w64}
use mir.Val.{SFits}
use native.Mathlib.Omega.{arith}
use Rattle.amounts.proofs.Nodes.{amount_of, amount_stands_by, test_of, test_stands_by}
use Rattle.integers.proofs.Locals.{rd}
use Rattle.language.specs.Text.Form.{fields_of_amount, fields_of_test}
use Rattle.nodes.specs.Found.{amount_at, offset_of, test_at}
use Rattle.nodes.specs.Letters.{letter_of_amount, letter_of_test}
use Rattle.nodes.specs.Stands.{AmountStands, TestStands}
use Rattle.nodes.specs.Table.{RowIn, slot_at}
use Rattle.nodes.specs.declared.AmountLetter.{AmountLetter}
use Rattle.nodes.specs.declared.TestLetter.{TestLetter}
use Rattle.checked.specs.Ranges.{Near}

pub record AmountNode (nodes : List ℤ) (left at : ℕ) (l : AmountLetter) : Type 0 where
  pub some : 0 < left
  pub inside : RowIn nodes at
  pub stands : amount_stands_by nodes left at l
  pub tree : amount_at offset_of left nodes at ≡ amount_of nodes left at l
  pub fields : fields_of_amount Near (amount_of nodes left at l)

pub record TestNode (nodes : List ℤ) (left at : ℕ) (l : TestLetter) : Type 0 where
  pub some : 0 < left
  pub inside : RowIn nodes at
  pub stands : test_stands_by nodes left at l
  pub tree : test_at offset_of left nodes at ≡ test_of nodes left at l
  pub fields : fields_of_test Near (test_of nodes left at l)

less_one : (n : ℕ) → suc n - 1 ≡ n
less_one n = omega arith

at_amount : (nodes : List ℤ) (left at : ℕ) → AmountStands left nodes at → fields_of_amount Near (amount_at offset_of left nodes at) → AmountNode nodes left at (letter_of_amount (slot_at nodes at 0))
unfolding AmountStands amount_at
at_amount nodes zero at h g = absurd h
at_amount nodes (suc left) at h g = record { some = omega arith; inside = h.0; stands = rw (less_one left) h.1; tree = rw (less_one left); fields = rw (less_one left) g }

at_test : (nodes : List ℤ) (left at : ℕ) → TestStands left nodes at → fields_of_test Near (test_at offset_of left nodes at) → TestNode nodes left at (letter_of_test (slot_at nodes at 0))
unfolding TestStands test_at
at_test nodes zero at h g = absurd h
at_test nodes (suc left) at h g = record { some = omega arith; inside = h.0; stands = rw (less_one left) h.1; tree = rw (less_one left); fields = rw (less_one left) g }

-- s is the letter's byte as the code reads it, l the letter that the code finds, m that of the arm
module _ {nodes : List ℤ} {left at : ℕ} {s : ℤ} (fs : SFits w64 s) (es : s ≡ slot_at nodes at 0) where
  pub amount_node : AmountStands left nodes at → fields_of_amount Near (amount_at offset_of left nodes at) → {l m : AmountLetter} → l ≡ letter_of_amount (rd s) → l ≡ m → AmountNode nodes left at m
  amount_node h g el e = subst (AmountNode nodes left at) (ap letter_of_amount (sym (to_z-of_z fs ∙ es)) ∙ sym el ∙ e) (at_amount nodes left at h g)

  pub test_node : TestStands left nodes at → fields_of_test Near (test_at offset_of left nodes at) → {l m : TestLetter} → l ≡ letter_of_test (rd s) → l ≡ m → TestNode nodes left at m
  test_node h g el e = subst (TestNode nodes left at) (ap letter_of_test (sym (to_z-of_z fs ∙ es)) ∙ sym el ∙ e) (at_test nodes left at h g)
