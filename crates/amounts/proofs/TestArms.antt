-- What each letter's arm answers is whether the test at the node holds.
use Prim.Native.Nat.{◌+◌, ◌-◌, ℕ}
use lib.IntN.{ℤ}
use lib.Signed.{lt_z}
use mathlib.Core.Bool.{Bool, ◌&&◌, ◌||◌, false, not}
use mathlib.Core.List.{List}
use mathlib.Core.Path.{◌∙◌, ◌≡◌, ap, ap₂, sym}
use Rattle.integers.specs.Equal.{eq_z}
use Rattle.language.specs.Payments.Amounts.{holds, value}
use Rattle.nodes.specs.Found.{amount_at, offset_of, test_at}
use Rattle.nodes.specs.Table.{link_at}
use Rattle.nodes.specs.declared.TestLetter.{TestLetter}
use Rattle.nodes.specs.declared.TestLetter.TheVariants as letter
use Rattle.amounts.proofs.Nodes.{TestNode, test_of}
use Rattle.amounts.specs.Flat.{flat}

module _ (values nodes : List ℤ) (r left at : ℕ) where
  -- the test at a node, and the amount and the test at a child's place p
  abbrev here : Bool
  here = holds (flat values) (test_at offset_of left nodes at) r

  abbrev amount_child : ℕ → ℤ
  amount_child p = value (flat values) (amount_at offset_of (left - 1) nodes p) r

  abbrev test_child : ℕ → Bool
  test_child p = holds (flat values) (test_at offset_of (left - 1) nodes p) r

  by_letter : {l : TestLetter} → TestNode values nodes r left at l → here ≡ holds (flat values) (test_of nodes left at l) r
  by_letter n = ap (λ t. holds (flat values) t r) n.tree

  -- two children of one kind
  two_arm : {A : Type 0} (child : ℕ → A) (op : A → A → Bool) → here ≡ op (child (at + 1)) (child (link_at nodes at 3))
      → (x y : A) (z : Bool) (p : ℕ) → x ≡ child (at + 1) → p ≡ link_at nodes at 3 → y ≡ child p → z ≡ op x y → z ≡ here
  two_arm child op h x y z p ex ep ey ez = ez ∙ ap₂ op ex (ey ∙ ap child ep) ∙ sym h

  pub less_arm : TestNode values nodes r left at letter.Less
      → (x y : ℤ) (z : Bool) (p : ℕ) → x ≡ amount_child (at + 1) → p ≡ link_at nodes at 3 → y ≡ amount_child p → z ≡ lt_z x y → z ≡ here
  unfolding holds
  less_arm n = two_arm amount_child lt_z (by_letter n)

  pub equal_arm : TestNode values nodes r left at letter.Equal
      → (x y : ℤ) (z : Bool) (p : ℕ) → x ≡ amount_child (at + 1) → p ≡ link_at nodes at 3 → y ≡ amount_child p → z ≡ eq_z x y → z ≡ here
  unfolding holds
  equal_arm n = two_arm amount_child eq_z (by_letter n)

  pub conjunction_arm : TestNode values nodes r left at letter.Conjunction
      → (x y z : Bool) (p : ℕ) → x ≡ test_child (at + 1) → p ≡ link_at nodes at 3 → y ≡ test_child p → z ≡ x && y → z ≡ here
  unfolding holds
  conjunction_arm n = two_arm test_child ◌&&◌ (by_letter n)

  pub disjunction_arm : TestNode values nodes r left at letter.Disjunction
      → (x y z : Bool) (p : ℕ) → x ≡ test_child (at + 1) → p ≡ link_at nodes at 3 → y ≡ test_child p → z ≡ x || y → z ≡ here
  unfolding holds
  disjunction_arm n = two_arm test_child ◌||◌ (by_letter n)

  pub negation_arm : TestNode values nodes r left at letter.Negation → (x z : Bool) → x ≡ test_child (at + 1) → z ≡ not x → z ≡ here
  unfolding holds
  negation_arm n x z ex ez = ez ∙ ap not ex ∙ sym (by_letter n)

  pub no_test_arm : TestNode values nodes r left at letter.NoTest → false ≡ here
  unfolding holds
  no_test_arm n = sym (by_letter n)
