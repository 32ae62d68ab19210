-- What each letter's arm answers is the amount at the node.
use Prim.Native.Nat.{◌+◌, ◌-◌, ℕ}
use lib.IntN.{◌*ℤ◌, ◌+ℤ◌, ◌-ℤ◌, nat_abs, pos, ℤ}
use lib.ListN.{get_or}
use mathlib.Core.Bool.{Bool, cond, false, true}
use mathlib.Core.List.{List}
use mathlib.Core.Path.{◌∙◌, ◌≡◌, ap, ap₂, sym}
use Rattle.integers.specs.Rounding.{floor_z}
use Rattle.language.specs.Payments.Amounts.{holds, value}
use Rattle.nodes.specs.Found.{amount_at, offset_of, test_at}
use Rattle.nodes.specs.Table.{link_at, nat_of, slot_at}
use Rattle.nodes.specs.declared.AmountLetter.{AmountLetter}
use Rattle.nodes.specs.declared.AmountLetter.TheVariants as letter
use Rattle.amounts.proofs.Nodes.{AmountNode, amount_of}
use Rattle.amounts.specs.Flat.{flat}

module _ (values nodes : List ℤ) (r left at : ℕ) where
  -- the amount at a node, and at a child's place p
  abbrev here : ℤ
  here = value (flat values) (amount_at offset_of left nodes at) r

  abbrev child : ℕ → ℤ
  child p = value (flat values) (amount_at offset_of (left - 1) nodes p) r

  by_letter : {l : AmountLetter} → AmountNode values nodes r left at l → here ≡ value (flat values) (amount_of nodes left at l) r
  by_letter n = ap (λ a. value (flat values) a r) n.tree

  pub number_arm : AmountNode values nodes r left at letter.Number → (z : ℤ) → z ≡ slot_at nodes at 1 → z ≡ here
  unfolding value
  number_arm n z e = e ∙ sym (by_letter n)

  pub index_arm : AmountNode values nodes r left at letter.Index → (z : ℤ) → z ≡ get_or values (nat_abs (pos r +ℤ slot_at nodes at 2)) (pos 0) → z ≡ here
  unfolding value flat
  index_arm n z e = e ∙ sym (by_letter n)

  -- two operands
  two_arm : (op : ℤ → ℤ → ℤ) → here ≡ op (child (at + 1)) (child (link_at nodes at 3))
      → (x y z : ℤ) (p : ℕ) → x ≡ child (at + 1) → p ≡ link_at nodes at 3 → y ≡ child p → z ≡ op x y → z ≡ here
  two_arm op h x y z p ex ep ey ez = ez ∙ ap₂ op ex (ey ∙ ap child ep) ∙ sym h

  pub sum_arm : AmountNode values nodes r left at letter.Sum
      → (x y z : ℤ) (p : ℕ) → x ≡ child (at + 1) → p ≡ link_at nodes at 3 → y ≡ child p → z ≡ x +ℤ y → z ≡ here
  unfolding value
  sum_arm n = two_arm ◌+ℤ◌ (by_letter n)

  pub difference_arm : AmountNode values nodes r left at letter.Difference
      → (x y z : ℤ) (p : ℕ) → x ≡ child (at + 1) → p ≡ link_at nodes at 3 → y ≡ child p → z ≡ x -ℤ y → z ≡ here
  unfolding value
  difference_arm n = two_arm ◌-ℤ◌ (by_letter n)

  pub product_arm : AmountNode values nodes r left at letter.Product
      → (x y z : ℤ) (p : ℕ) → x ≡ child (at + 1) → p ≡ link_at nodes at 3 → y ≡ child p → z ≡ x *ℤ y → z ≡ here
  unfolding value
  product_arm n = two_arm ◌*ℤ◌ (by_letter n)

  pub quotient_arm : AmountNode values nodes r left at letter.Quotient
      → (x z : ℤ) → x ≡ child (at + 1) → z ≡ floor_z x (nat_of (slot_at nodes at 1)) → z ≡ here
  unfolding value flat
  quotient_arm n x z ex ez = ez ∙ ap (λ u. floor_z u (nat_of (slot_at nodes at 1))) ex ∙ sym (by_letter n)

  -- the branch that the test chose
  chosen_arm : AmountNode values nodes r left at letter.Choose → (b : Bool) → holds (flat values) (test_at offset_of (left - 1) nodes (at + 1)) r ≡ b
      → here ≡ cond b (child (link_at nodes at 3)) (child (link_at nodes at 4))
  unfolding value
  chosen_arm n b e = by_letter n ∙ ap (λ c. cond c (child (link_at nodes at 3)) (child (link_at nodes at 4))) e

  pub then_arm : AmountNode values nodes r left at letter.Choose → (b : Bool) → b ≡ holds (flat values) (test_at offset_of (left - 1) nodes (at + 1)) r → b ≡ true
      → (z : ℤ) (p : ℕ) → p ≡ link_at nodes at 3 → z ≡ child p → z ≡ here
  then_arm n b eb t z p ep ez = ez ∙ ap child ep ∙ sym (chosen_arm n true (sym eb ∙ t))

  pub else_arm : AmountNode values nodes r left at letter.Choose → (b : Bool) → b ≡ holds (flat values) (test_at offset_of (left - 1) nodes (at + 1)) r → b ≡ false
      → (z : ℤ) (p : ℕ) → p ≡ link_at nodes at 4 → z ≡ child p → z ≡ here
  else_arm n b eb t z p ep ez = ez ∙ ap child ep ∙ sym (chosen_arm n false (sym eb ∙ t))

  -- both branches worked out, and one taken
  pub choose_arm : AmountNode values nodes r left at letter.Choose → (b : Bool) → b ≡ holds (flat values) (test_at offset_of (left - 1) nodes (at + 1)) r
      → (x y z : ℤ) (p q : ℕ) → p ≡ link_at nodes at 3 → x ≡ child p → q ≡ link_at nodes at 4 → y ≡ child q → z ≡ cond b x y → z ≡ here
  choose_arm n b eb x y z p q ep ex eq ey ez = ez ∙ ap₂ (cond b) (ex ∙ ap child ep) (ey ∙ ap child eq) ∙ sym (chosen_arm n b (sym eb))

  pub no_amount_arm : AmountNode values nodes r left at letter.NoAmount → pos 0 ≡ here
  unfolding value
  no_amount_arm n = sym (by_letter n)
