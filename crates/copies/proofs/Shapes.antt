-- The tree of an amount, a test, a plan or a payoff is one node in front of others.
use lib.IntN.{pos, ℤ}
use lib.ListN.{get_or}
use mathlib.Core.List.{List, [], ◌++◌, ◌∷◌, append_assoc, append-nil}
use mathlib.Core.Path.{◌∙◌, ◌≡◌, ap, ap₂, refl, sym}
use Rattle.copies.specs.Plain.{plain_last, plain_row, plain_rows}
use Rattle.language.specs.Text.Classes.{Field}
use Rattle.language.specs.Text.Letters.{Form, Letter, PayoffLetter, PlanLetter, row_of}
use Rattle.language.specs.Text.Plans.{Written, payoff_trees, plan_trees}
use Rattle.language.specs.Text.Reader.{Trees, end, node}
use Rattle.language.specs.Text.Trees.{Amount, Delay, Plan, Test, await, both, choose, conjunction, difference, disjunction, equal, index, later, leaf, less, negation, nil, nothing, number, plus, product, quotient, scale, sum, times, transfer, within}
use Rattle.language.specs.Text.Typed.{amount_tree, test_tree}
use Rattle.nodes.proofs.Laid.{IsNode}
use Rattle.nodes.specs.Rows.{slots_of}

module _ {P : Type 0} where
  pub record Shape (tree : Trees P → Trees P) : Type 0 where
    pub letter : Letter P
    pub fields : List Field
    pub below : Trees P
    pub is : (r : Trees P) → tree r ≡ node letter fields below r

  -- the shape of a tree that computes to a node
  abbrev one : (l : Letter P) (fs : List Field) (c : Trees P) → Shape (λ r. node l fs c r)
  one l fs c = record { letter = l; fields = fs; below = c; is = λ r. refl }

  apart : (form : Form P) (l : Letter P) (fs : List Field) (c r : Trees P) → plain_rows form (node l fs c r) ≡ plain_rows form (node l fs c end) ++ plain_rows form r
  unfolding plain_rows
  apart form l fs c r =
      sym (append_assoc (plain_row (row_of form l).letter (slots_of fs) c) (plain_rows form c ++ []) (plain_rows form r)
      ∙ ap (λ x. plain_row (row_of form l).letter (slots_of fs) c ++ (x ++ plain_rows form r)) (append-nil (plain_rows form c)))

  -- its rows, then those of the others
  pub plain_apart : {tree : Trees P → Trees P} → Shape tree → (form : Form P) (r : Trees P) → plain_rows form (tree r) ≡ plain_rows form (tree end) ++ plain_rows form r
  plain_apart s form r = rw (s.is r, s.is end) (apart form s.letter s.fields s.below r)

  pub is_node : {tree : Trees P → Trees P} → Shape tree → (r : Trees P) → IsNode (tree r)
  is_node s r = rw (s.is r) tt

  -- ---- a node with children

  -- it has at most two numbers for its fields
  pub plain_last_lem : (slots : List ℤ) (c : Trees P) → get_or slots 2 (pos 0) ≡ pos 0 → get_or slots 3 (pos 0) ≡ pos 0 → plain_last slots c ≡ pos 0 ∷ pos 0 ∷ []
  unfolding plain_last
  plain_last_lem slots end e h = ap₂ (λ x y. x ∷ y ∷ []) e h
  plain_last_lem slots (node l fs c t) e h = refl

  -- its own row, then those below it
  pub inner_rows : (form : Form P) (l : Letter P) (fs : List Field) (c : Trees P) → get_or (slots_of fs) 2 (pos 0) ≡ pos 0 → get_or (slots_of fs) 3 (pos 0) ≡ pos 0
      → plain_rows form (node l fs c end) ≡ (pos (row_of form l).letter ∷ get_or (slots_of fs) 0 (pos 0) ∷ get_or (slots_of fs) 1 (pos 0) ∷ pos 0 ∷ pos 0 ∷ []) ++ plain_rows form c
  unfolding plain_rows
  inner_rows form l fs c e h = rw (plain_last_lem (slots_of fs) c e h, append-nil (plain_rows form c)) refl

  -- ---- shapes

  module _ {M : Type 0} (when : M → Field) where
    pub amount_shape : (a : Amount M) → Shape (amount_tree when a)
    unfolding amount_tree
    amount_shape (number n) = one _ _ _
    amount_shape (index l i) = one _ _ _
    amount_shape (sum a b) = one _ _ _
    amount_shape (difference a b) = one _ _ _
    amount_shape (product a b) = one _ _ _
    amount_shape (quotient n a) = one _ _ _
    amount_shape (choose t a b) = one _ _ _

    pub test_shape : (t : Test M) → Shape (test_tree when t)
    unfolding test_tree
    test_shape (less a b) = one _ _ _
    test_shape (equal a b) = one _ _ _
    test_shape (conjunction s t) = one _ _ _
    test_shape (disjunction s t) = one _ _ _
    test_shape (negation t) = one _ _ _

pub plan_shape : (x : Plan Delay) → Shape {P = PlanLetter} (plan_trees x)
unfolding plan_trees
plan_shape nothing = one _ _ _
plan_shape (transfer p q) = one _ _ _
plan_shape (scale a x) = one _ _ _
plan_shape (later d x) = one _ _ _
plan_shape (both x y) = one _ _ _
plan_shape (within d t x y) = one _ _ _

pub payoff_shape : (x : Written) → Shape {P = PayoffLetter} (payoff_trees x)
unfolding payoff_trees
payoff_shape nil = one _ _ _
payoff_shape (leaf k m p q) = one _ _ _
payoff_shape (times a x) = one _ _ _
payoff_shape (plus x y) = one _ _ _
payoff_shape (await d t x y) = one _ _ _
