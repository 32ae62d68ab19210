-- What each letter's arm answers is the amount or the test at the node.
use Prim.Native.Nat.{◌+◌, ◌-◌, ℕ}
use lib.IntN.{◌*ℤ◌, ◌+ℤ◌, ◌-ℤ◌, pos, ℤ}
use lib.Signed.{lt_z}
use mathlib.Core.Bool.{Bool, ◌&&◌, ◌||◌, cond, false, true}
use mathlib.Core.List.{List}
use mathlib.Core.Path.{◌∙◌, ◌≡◌, ap, ap₂, sym}
use native.Mathlib.Omega.{arith}
use Rattle.amounts.proofs.Nodes.{amount_of, test_of}
use Rattle.integers.specs.Equal.{eq_z}
use Rattle.language.proofs.Payoff.Evaluate.{in_range_lem}
use Rattle.language.specs.Answer.{Answer, ◌>>=◌, got, on_both, refused}
use Rattle.language.specs.Limits.{max_amount}
use Rattle.language.specs.Payoff.Evaluate.{checked_holds, checked_value, in_range}
use Rattle.language.specs.Rules.Table.{readable, value_at}
use Rattle.nodes.specs.Found.{amount_at, offset_of, test_at}
use Rattle.nodes.specs.Table.{link_at, nat_of, slot_at}
use Rattle.nodes.specs.declared.AmountLetter.{AmountLetter}
use Rattle.nodes.specs.declared.AmountLetter.TheVariants as amount
use Rattle.nodes.specs.declared.TestLetter.{TestLetter}
use Rattle.nodes.specs.declared.TestLetter.TheVariants as test
use Rattle.tables.specs.Lookup.{read_table}
use Rattle.checked.proofs.CheckedNodes.{AmountNode, TestNode}
use Rattle.checked.specs.Answers.{divided_by, not_answer}
use Rattle.checked.specs.Checked.{test_in, value_found}

module _ (h f : ℤ) (bounds values nodes : List ℤ) (w left at : ℕ) where
  -- the amount and the test at a node, and at a child's place p
  abbrev amount_here : Answer ℤ
  amount_here = value_found h f bounds values (amount_at offset_of left nodes at) w

  abbrev test_here : Answer Bool
  test_here = test_in h f bounds values (test_at offset_of left nodes at) w

  abbrev child : ℕ → Answer ℤ
  child p = value_found h f bounds values (amount_at offset_of (left - 1) nodes p) w

  abbrev test_child : ℕ → Answer Bool
  test_child p = test_in h f bounds values (test_at offset_of (left - 1) nodes p) w

  by_amount : {l : AmountLetter} → AmountNode nodes left at l → amount_here ≡ value_found h f bounds values (amount_of nodes left at l) w
  by_amount n = ap (λ a. value_found h f bounds values a w) n.tree

  by_test : {l : TestLetter} → TestNode nodes left at l → test_here ≡ test_in h f bounds values (test_of nodes left at l) w
  by_test n = ap (λ t. test_in h f bounds values t w) n.tree

  -- two children of one kind; all four are answers
  two : {A B : Type 0} (below : ℕ → Answer A) (g : A → A → Answer B) {here : Answer B} → here ≡ on_both g (below (at + 1)) (below (link_at nodes at 3))
      → {x y : Answer A} {z : Answer B} {p : ℕ} → x ≡ below (at + 1) → p ≡ link_at nodes at 3 → y ≡ below p → z ≡ on_both g x y → z ≡ here
  two below g e ex ep ey ez = ez ∙ ap₂ (on_both g) ex (ey ∙ ap below ep) ∙ sym e

  -- ---- amounts

  pub number_arm : AmountNode nodes left at amount.Number → {z : Answer ℤ} → z ≡ in_range max_amount (slot_at nodes at 1) → z ≡ amount_here
  unfolding checked_value
  number_arm n e = e ∙ sym (by_amount n)

  pub index_arm : AmountNode nodes left at amount.Index → {z : Answer ℤ}
      → z ≡ cond (readable (read_table h f bounds values) (nat_of (slot_at nodes at 1)) (pos w +ℤ slot_at nodes at 2)) (in_range max_amount (value_at (read_table h f bounds values) (nat_of (slot_at nodes at 1)) (pos w +ℤ slot_at nodes at 2))) (refused 11)
      → z ≡ amount_here
  unfolding checked_value
  index_arm n e = e ∙ sym (by_amount n)

  module _ {x y z : Answer ℤ} {p : ℕ} (ex : x ≡ child (at + 1)) (ep : p ≡ link_at nodes at 3) (ey : y ≡ child p) where
    pub sum_arm : AmountNode nodes left at amount.Sum → z ≡ on_both (λ a b. in_range max_amount (a +ℤ b)) x y → z ≡ amount_here
    unfolding checked_value
    sum_arm n ez = two child (λ a b. in_range max_amount (a +ℤ b)) (by_amount n) ex ep ey ez

    pub difference_arm : AmountNode nodes left at amount.Difference → z ≡ on_both (λ a b. in_range max_amount (a -ℤ b)) x y → z ≡ amount_here
    unfolding checked_value
    difference_arm n ez = two child (λ a b. in_range max_amount (a -ℤ b)) (by_amount n) ex ep ey ez

    pub product_arm : AmountNode nodes left at amount.Product → z ≡ on_both (λ a b. in_range max_amount (a *ℤ b)) x y → z ≡ amount_here
    unfolding checked_value
    product_arm n ez = two child (λ a b. in_range max_amount (a *ℤ b)) (by_amount n) ex ep ey ez

  pub quotient_arm : AmountNode nodes left at amount.Quotient → {x z : Answer ℤ} → x ≡ child (at + 1) → z ≡ divided_by (nat_of (slot_at nodes at 1)) x → z ≡ amount_here
  unfolding checked_value
  quotient_arm n ex ez = ez ∙ ap (divided_by (nat_of (slot_at nodes at 1))) ex ∙ sym (by_amount n)

  -- t is what the test answers
  module _ (n : AmountNode nodes left at amount.Choose) where
    abbrev branches : Bool → Answer ℤ
    branches c = cond c (child (link_at nodes at 3)) (child (link_at nodes at 4))

    chosen : {t : Answer Bool} → test_child (at + 1) ≡ t → amount_here ≡ (t >>= branches)
    unfolding checked_value
    chosen e = by_amount n ∙ ap (λ a. a >>= branches) e

    pub then_arm : test_child (at + 1) ≡ got true → {z : Answer ℤ} {p : ℕ} → p ≡ link_at nodes at 3 → z ≡ child p → z ≡ amount_here
    then_arm e ep ez = ez ∙ ap child ep ∙ sym (chosen e)

    pub else_arm : test_child (at + 1) ≡ got false → {z : Answer ℤ} {p : ℕ} → p ≡ link_at nodes at 4 → z ≡ child p → z ≡ amount_here
    else_arm e ep ez = ez ∙ ap child ep ∙ sym (chosen e)

    pub refused_arm : {k : ℕ} → test_child (at + 1) ≡ refused k → refused k ≡ amount_here
    refused_arm e = sym (chosen e)

    -- both branches worked out, and one taken
    pub choose_arm : (b : Bool) {x y z : ℤ} {p q : ℕ} → got b ≡ test_child (at + 1) → p ≡ link_at nodes at 3 → got x ≡ child p → q ≡ link_at nodes at 4 → got y ≡ child q → z ≡ cond b x y → got z ≡ amount_here
    choose_arm true eb ep ex eq ey ez = then_arm (sym eb) ep (ap got ez ∙ ex)
    choose_arm false eb ep ex eq ey ez = else_arm (sym eb) eq (ap got ez ∙ ey)

  pub no_amount_arm : AmountNode nodes left at amount.NoAmount → got (pos 0) ≡ amount_here
  unfolding checked_value
  no_amount_arm n = sym (by_amount n ∙ in_range_lem max_amount (pos 0) (omega arith))

  -- ---- tests

  module _ {x y : Answer ℤ} {z : Answer Bool} {p : ℕ} (ex : x ≡ child (at + 1)) (ep : p ≡ link_at nodes at 3) (ey : y ≡ child p) where
    pub less_arm : TestNode nodes left at test.Less → z ≡ on_both (λ a b. got (lt_z a b)) x y → z ≡ test_here
    unfolding checked_holds
    less_arm n ez = two child (λ a b. got (lt_z a b)) (by_test n) ex ep ey ez

    pub equal_arm : TestNode nodes left at test.Equal → z ≡ on_both (λ a b. got (eq_z a b)) x y → z ≡ test_here
    unfolding checked_holds
    equal_arm n ez = two child (λ a b. got (eq_z a b)) (by_test n) ex ep ey ez

  module _ {x y z : Answer Bool} {p : ℕ} (ex : x ≡ test_child (at + 1)) (ep : p ≡ link_at nodes at 3) (ey : y ≡ test_child p) where
    pub conjunction_arm : TestNode nodes left at test.Conjunction → z ≡ on_both (λ a b. got (a && b)) x y → z ≡ test_here
    unfolding checked_holds
    conjunction_arm n ez = two test_child (λ a b. got (a && b)) (by_test n) ex ep ey ez

    pub disjunction_arm : TestNode nodes left at test.Disjunction → z ≡ on_both (λ a b. got (a || b)) x y → z ≡ test_here
    unfolding checked_holds
    disjunction_arm n ez = two test_child (λ a b. got (a || b)) (by_test n) ex ep ey ez

  pub negation_arm : TestNode nodes left at test.Negation → {x z : Answer Bool} → x ≡ test_child (at + 1) → z ≡ not_answer x → z ≡ test_here
  unfolding checked_holds
  negation_arm n ex ez = ez ∙ ap not_answer ex ∙ sym (by_test n)

  pub no_test_arm : TestNode nodes left at test.NoTest → got false ≡ test_here
  unfolding checked_holds checked_value on_both in_range
  no_test_arm n = sym (by_test n)
