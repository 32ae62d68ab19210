-- An amount or test that can be walked: what stands at a node by its letter, and its parts can be walked too.
use Prim.Native.Nat.{◌+◌, ◌-◌, ◌<◌, ◌≤◌, suc, zero, ℕ}
use Rattle.language.specs.Limits.{max_amount}
use Rattle.language.specs.Text.Form.{fields_of_amount, fields_of_test, offset_in_form}
use Rattle.language.specs.Text.Trees.{Amount, Test}
use Rattle.measures.specs.Ready.{AmountReady, AmountsReady, TestReady, TestsReady}
use Rattle.nodes.specs.Found.{amount_at, amount_by, offset_of, test_at, test_by}
use Rattle.nodes.specs.Letters.{letter_of_amount, letter_of_test}
use Rattle.nodes.specs.Stands.{AmountStands, Forward, TestStands, amount_asks, test_asks}
use Rattle.nodes.specs.Table.{RowIn, link_at, slot_at}
use Rattle.nodes.specs.declared.AmountLetter.TheVariants.{Choose, Difference, Number, Product, Quotient, Sum}
use Rattle.nodes.specs.declared.AmountLetter.{AmountLetter}
use Rattle.nodes.specs.declared.TestLetter.TheVariants.{Conjunction, Disjunction, Equal, Less, Negation}
use Rattle.nodes.specs.declared.TestLetter.{TestLetter}
use lib.IntN.{nat_abs, ℤ}
use mathlib.Core.List.{List}
use mathlib.Core.Path.{◌∙◌, ◌≡◌, refl, subst, sym}
use native.Mathlib.Omega.{arith}

-- what stands at a node with letter m, its parts one level down
abbrev amount_here : AmountLetter → ℕ → List ℤ → ℕ → Amount ℤ
amount_here m left nodes at =
    amount_by m (slot_at nodes at 1) (slot_at nodes at 2) (test_at offset_of left nodes (at + 1)) (amount_at offset_of left nodes (at + 1))
    (amount_at offset_of left nodes (link_at nodes at 3)) (amount_at offset_of left nodes (link_at nodes at 4))

abbrev test_here : TestLetter → ℕ → List ℤ → ℕ → Test ℤ
test_here m left nodes at =
    test_by m (amount_at offset_of left nodes (at + 1)) (amount_at offset_of left nodes (link_at nodes at 3))
    (test_at offset_of left nodes (at + 1)) (test_at offset_of left nodes (link_at nodes at 3))

abbrev amount_asks_here : AmountLetter → ℕ → List ℤ → ℕ → Type 0
amount_asks_here m left nodes at =
    amount_asks m (TestStands left nodes (at + 1)) (AmountStands left nodes (at + 1))
    (Forward nodes at 3 × AmountStands left nodes (link_at nodes at 3)) (Forward nodes at 4 × AmountStands left nodes (link_at nodes at 4))

abbrev test_asks_here : TestLetter → ℕ → List ℤ → ℕ → Type 0
test_asks_here m left nodes at =
    test_asks m (AmountStands left nodes (at + 1)) (Forward nodes at 3 × AmountStands left nodes (link_at nodes at 3))
    (TestStands left nodes (at + 1)) (Forward nodes at 3 × TestStands left nodes (link_at nodes at 3))

pub one_less : (left : ℕ) → suc left - 1 ≡ left
one_less left = omega arith

amount_step : (left : ℕ) (nodes : List ℤ) (at : ℕ) → AmountStands left nodes at → amount_at offset_of left nodes at ≡ amount_here (letter_of_amount (slot_at nodes at 0)) (left - 1) nodes at
unfolding amount_at AmountStands
amount_step zero nodes at s = absurd s
amount_step (suc left) nodes at s = rw (one_less left)

test_step : (left : ℕ) (nodes : List ℤ) (at : ℕ) → TestStands left nodes at → test_at offset_of left nodes at ≡ test_here (letter_of_test (slot_at nodes at 0)) (left - 1) nodes at
unfolding test_at TestStands
test_step zero nodes at s = absurd s
test_step (suc left) nodes at s = rw (one_less left)

amount_asks_lem : (left : ℕ) (nodes : List ℤ) (at : ℕ) → AmountStands left nodes at → (0 < left) × RowIn nodes at × amount_asks_here (letter_of_amount (slot_at nodes at 0)) (left - 1) nodes at
unfolding AmountStands
amount_asks_lem zero nodes at s = absurd s
amount_asks_lem (suc left) nodes at s = rw (one_less left) (omega arith, s.0, s.1)

test_asks_lem : (left : ℕ) (nodes : List ℤ) (at : ℕ) → TestStands left nodes at → (0 < left) × RowIn nodes at × test_asks_here (letter_of_test (slot_at nodes at 0)) (left - 1) nodes at
unfolding TestStands
test_asks_lem zero nodes at s = absurd s
test_asks_lem (suc left) nodes at s = rw (one_less left) (omega arith, s.0, s.1)

-- the two amounts, or the two tests, below a node
amounts_ready : {left at : ℕ} {nodes : List ℤ} → RowIn nodes at → AmountStands left nodes (at + 1) × (Forward nodes at 3 × AmountStands left nodes (link_at nodes at 3))
    → fields_of_amount offset_in_form (amount_at offset_of left nodes (at + 1)) × fields_of_amount offset_in_form (amount_at offset_of left nodes (link_at nodes at 3)) → AmountsReady left nodes at
amounts_ready r a f = record { room = r; first = record { stands = a.0; fields = f.0 }; forward = a.1.0; second = record { stands = a.1.1; fields = f.1 } }

tests_ready : {left at : ℕ} {nodes : List ℤ} → RowIn nodes at → TestStands left nodes (at + 1) × (Forward nodes at 3 × TestStands left nodes (link_at nodes at 3))
    → fields_of_test offset_in_form (test_at offset_of left nodes (at + 1)) × fields_of_test offset_in_form (test_at offset_of left nodes (link_at nodes at 3)) → TestsReady left nodes at
tests_ready r a f = record { room = r; first = record { stands = a.0; fields = f.0 }; forward = a.1.0; second = record { stands = a.1.1; fields = f.1 } }

-- ---- amounts

module _ {left at : ℕ} {nodes : List ℤ} (h : AmountReady left nodes at) where
  pub amount_some : 0 < left
  amount_some = (amount_asks_lem left nodes at h.stands).0

  pub amount_room : RowIn nodes at
  amount_room = (amount_asks_lem left nodes at h.stands).1

  module _ {l m : AmountLetter} (e : l ≡ letter_of_amount (slot_at nodes at 0)) (t : l ≡ m) where
    amount_named : letter_of_amount (slot_at nodes at 0) ≡ m
    amount_named = sym e ∙ t

    pub amount_is : amount_at offset_of left nodes at ≡ amount_here m (left - 1) nodes at
    amount_is = amount_step left nodes at h.stands ∙ rw amount_named refl

    asked : amount_asks_here m (left - 1) nodes at
    asked = subst (λ k. amount_asks_here k (left - 1) nodes at) amount_named (amount_asks_lem left nodes at h.stands).2

    in_form : fields_of_amount offset_in_form (amount_here m (left - 1) nodes at)
    in_form = subst (fields_of_amount offset_in_form) amount_is h.fields

  module _ {l : AmountLetter} (e : l ≡ letter_of_amount (slot_at nodes at 0)) where
    pub number_ready : l ≡ Number → nat_abs (slot_at nodes at 1) ≤ max_amount
    unfolding fields_of_amount
    number_ready t = in_form e t

    pub sum_ready : l ≡ Sum → AmountsReady (left - 1) nodes at
    unfolding fields_of_amount
    sum_ready t = amounts_ready amount_room (asked e t) (in_form e t)

    pub difference_ready : l ≡ Difference → AmountsReady (left - 1) nodes at
    unfolding fields_of_amount
    difference_ready t = amounts_ready amount_room (asked e t) (in_form e t)

    pub product_ready : l ≡ Product → AmountsReady (left - 1) nodes at
    unfolding fields_of_amount
    product_ready t = amounts_ready amount_room (asked e t) (in_form e t)

    pub quotient_ready : l ≡ Quotient → AmountReady (left - 1) nodes (at + 1)
    unfolding fields_of_amount
    quotient_ready t = record { stands = asked e t; fields = (in_form e t).2 }

    pub choose_ready : l ≡ Choose → TestReady (left - 1) nodes (at + 1)
        × (Forward nodes at 3 × AmountReady (left - 1) nodes (link_at nodes at 3)) × (Forward nodes at 4 × AmountReady (left - 1) nodes (link_at nodes at 4))
    unfolding fields_of_amount
    choose_ready t =
        let a = asked e t in
        let f = in_form e t in
        (record { stands = a.0; fields = f.0 }, (a.1.0, record { stands = a.1.1; fields = f.1 }), (a.2.0, record { stands = a.2.1; fields = f.2 }))

-- ---- tests

module _ {left at : ℕ} {nodes : List ℤ} (h : TestReady left nodes at) where
  pub test_some : 0 < left
  test_some = (test_asks_lem left nodes at h.stands).0

  pub test_room : RowIn nodes at
  test_room = (test_asks_lem left nodes at h.stands).1

  module _ {l m : TestLetter} (e : l ≡ letter_of_test (slot_at nodes at 0)) (t : l ≡ m) where
    test_named : letter_of_test (slot_at nodes at 0) ≡ m
    test_named = sym e ∙ t

    pub test_is : test_at offset_of left nodes at ≡ test_here m (left - 1) nodes at
    test_is = test_step left nodes at h.stands ∙ rw test_named refl

    test_asked : test_asks_here m (left - 1) nodes at
    test_asked = subst (λ k. test_asks_here k (left - 1) nodes at) test_named (test_asks_lem left nodes at h.stands).2

    test_in_form : fields_of_test offset_in_form (test_here m (left - 1) nodes at)
    test_in_form = subst (fields_of_test offset_in_form) test_is h.fields

  module _ {l : TestLetter} (e : l ≡ letter_of_test (slot_at nodes at 0)) where
    pub less_ready : l ≡ Less → AmountsReady (left - 1) nodes at
    unfolding fields_of_test
    less_ready t = amounts_ready test_room (test_asked e t) (test_in_form e t)

    pub equal_ready : l ≡ Equal → AmountsReady (left - 1) nodes at
    unfolding fields_of_test
    equal_ready t = amounts_ready test_room (test_asked e t) (test_in_form e t)

    pub conjunction_ready : l ≡ Conjunction → TestsReady (left - 1) nodes at
    unfolding fields_of_test
    conjunction_ready t = tests_ready test_room (test_asked e t) (test_in_form e t)

    pub disjunction_ready : l ≡ Disjunction → TestsReady (left - 1) nodes at
    unfolding fields_of_test
    disjunction_ready t = tests_ready test_room (test_asked e t) (test_in_form e t)

    pub negation_ready : l ≡ Negation → TestReady (left - 1) nodes (at + 1)
    unfolding fields_of_test
    negation_ready t = record { stands = test_asked e t; fields = test_in_form e t }
