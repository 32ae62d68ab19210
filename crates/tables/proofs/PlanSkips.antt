-- The rows of a plan lead on past those of its amounts and tests.
use Rattle.std.proofs.Common.{◌≡◌, ℕ, suc, ◌+◌, ◌-◌, ◌<◌, ◌≤◌, true, ◌||◌, List, [], ◌∷◌, ◌++◌, ℤ, pos, sym, refl, subst, arith}
use Rattle.integers.specs.Equal.{eq_z}
use Rattle.language.specs.Text.Classes.{Field, a_delay, a_number}
use Rattle.language.specs.Text.Letters.{AmountLetter, Letter, PlanLetter, TestLetter, amount_row, of_amount, of_root, of_test, plan_form, plan_row, row_of, test_row}
use Rattle.language.specs.Text.Number.{byte}
use Rattle.language.specs.Text.Plans.{plan_trees}
use Rattle.language.specs.Text.Reader.{Trees, end, node}
use Rattle.language.specs.Text.Trees.{Amount, Delay, Plan, Test, both, choose, conjunction, difference, disjunction, equal, index, later, less, negation, nothing, number, product, quotient, scale, sum, transfer, within}
use Rattle.language.specs.Text.Typed.{amount_tree, test_tree}
use Rattle.nodes.proofs.Laid.{IsNode, link_is}
use Rattle.nodes.proofs.TreePasses.{OnNodes, head, tail}
use Rattle.nodes.specs.Pass.{all_rows}
use Rattle.nodes.specs.Rows.{behind_first, count_of, first_count, last_slots, row_for, rows, slots_of}
use Rattle.tables.specs.Skips.{Skips, plan_step, without_delay}

abbrev row_on : Letter PlanLetter → List Field → Trees PlanLetter → List ℤ
row_on l fs c = row_for (row_of plan_form l).letter (slots_of fs) c

-- the rows of trees lead on, and so do k rows of the rest
abbrev Here : Trees PlanLetter → ℕ → List ℤ → Type 0
Here t k rest = Skips (count_of t + k) (rows plan_form t ++ rest)

-- whatever stands behind them
abbrev Anywhere : Trees PlanLetter → Type 0
Anywhere t = (k : ℕ) (rest : List ℤ) → Skips k rest → Here t k rest

-- ---- a node in front of others

module _ (l : Letter PlanLetter) (fs : List Field) (c t : Trees PlanLetter) (k : ℕ) (rest : List ℤ) where
  node_skips : 0 < plan_step (row_on l fs c) → plan_step (row_on l fs c) ≤ suc (count_of c) → all_rows without_delay (plan_step (row_on l fs c) - 1) (rows plan_form c ++ (rows plan_form t ++ rest)) ≡ true
      → Anywhere c → Here t k rest → Here (node l fs c t) k rest
  unfolding Skips count_of
  node_skips f i p g h =
      let n : 1 + (count_of c + count_of t) + k ≡ suc (count_of c + (count_of t + k)) = omega arith in
      let first = head plan_form l fs c t rest in
      let others = tail plan_form l fs c t rest in
      rw n (record { forward = rw first f; inside = rw first (omega arith); plain = rw (first, others) p }, rw others (g (count_of t + k) (rows plan_form t ++ rest) h))

  -- where its row leads to the next
  one_skips : plan_step (row_on l fs c) ≡ 1 → Anywhere c → Here t k rest → Here (node l fs c t) k rest
  unfolding all_rows
  one_skips e = node_skips (omega (arith, e)) (omega (arith, e)) (rw e refl)

none_left : Anywhere end
unfolding count_of rows
none_left k rest h = let n : 0 + k ≡ k = omega arith in rw n h

-- ---- amounts and tests

-- a node of one
abbrev Inner : Letter PlanLetter → List Field → Type 0
Inner (of_root l) fs = ⊥
Inner (of_amount l) fs = Unit {0}
Inner (of_test l) fs = Unit {0}

-- the first tree is one, and the trees r stand behind it
abbrev InFront : Trees PlanLetter → Trees PlanLetter → Type 0
InFront end r = ⊥
InFront (node l fs c t) r = Inner l fs × OnNodes Inner c × (t ≡ r)

-- so all are, where the others are
and_behind : (t r : Trees PlanLetter) → InFront t r → OnNodes Inner r → OnNodes Inner t
unfolding OnNodes
and_behind end r h o = absurd h
and_behind (node l fs c t) r h o = (h.0, h.1, subst (OnNodes Inner) (sym h.2) o)

module _ (a b : Amount ℤ) (first : (r : Trees PlanLetter) → InFront (amount_tree a_number a r) r) (second : (r : Trees PlanLetter) → InFront (amount_tree a_number b r) r) where
  two_amounts : OnNodes Inner (amount_tree a_number a (amount_tree a_number b end))
  unfolding OnNodes
  two_amounts = and_behind (amount_tree a_number a (amount_tree a_number b end)) (amount_tree a_number b end) (first (amount_tree a_number b end)) (and_behind (amount_tree a_number b end) end (second end) tt)

module _ (s t : Test ℤ) (first : (r : Trees PlanLetter) → InFront (test_tree a_number s r) r) (second : (r : Trees PlanLetter) → InFront (test_tree a_number t r) r) where
  two_tests : OnNodes Inner (test_tree a_number s (test_tree a_number t end))
  unfolding OnNodes
  two_tests = and_behind (test_tree a_number s (test_tree a_number t end)) (test_tree a_number t end) (first (test_tree a_number t end)) (and_behind (test_tree a_number t end) end (second end) tt)

mutual
  unfolding amount_tree test_tree OnNodes

  amount_front : (a : Amount ℤ) (r : Trees PlanLetter) → InFront (amount_tree a_number a r) r
  amount_front (number n) r = (tt, tt, refl)
  amount_front (index l i) r = (tt, tt, refl)
  amount_front (sum a b) r = (tt, two_amounts a b (λ s. amount_front a s) (λ s. amount_front b s), refl)
  amount_front (difference a b) r = (tt, two_amounts a b (λ s. amount_front a s) (λ s. amount_front b s), refl)
  amount_front (product a b) r = (tt, two_amounts a b (λ s. amount_front a s) (λ s. amount_front b s), refl)
  amount_front (quotient n a) r = (tt, and_behind (amount_tree a_number a end) end (amount_front a end) tt, refl)
  amount_front (choose t a b) r =
      let s = amount_tree a_number a (amount_tree a_number b end) in
      (tt, and_behind (test_tree a_number t s) s (test_front t s) (two_amounts a b (λ s. amount_front a s) (λ s. amount_front b s)), refl)

  test_front : (t : Test ℤ) (r : Trees PlanLetter) → InFront (test_tree a_number t r) r
  test_front (less a b) r = (tt, two_amounts a b (λ s. amount_front a s) (λ s. amount_front b s), refl)
  test_front (equal a b) r = (tt, two_amounts a b (λ s. amount_front a s) (λ s. amount_front b s), refl)
  test_front (conjunction s t) r = (tt, two_tests s t (λ r. test_front s r) (λ r. test_front t r), refl)
  test_front (disjunction s t) r = (tt, two_tests s t (λ r. test_front s r) (λ r. test_front t r), refl)
  test_front (negation t) r = (tt, and_behind (test_tree a_number t end) end (test_front t end) tt, refl)

-- such a row leads to the next, and has no delay
inner_row : (l : Letter PlanLetter) (fs : List Field) (c : Trees PlanLetter) → Inner l fs → (plan_step (row_on l fs c) ≡ 1) × (without_delay (row_on l fs c) ≡ true)
unfolding plan_step row_of amount_row test_row
inner_row (of_root l) fs c h = absurd h
inner_row (of_amount AmountLetter.N) fs c h = (refl, refl)
inner_row (of_amount AmountLetter.O) fs c h = (refl, refl)
inner_row (of_amount AmountLetter.A) fs c h = (refl, refl)
inner_row (of_amount AmountLetter.U) fs c h = (refl, refl)
inner_row (of_amount AmountLetter.K) fs c h = (refl, refl)
inner_row (of_amount AmountLetter.Q) fs c h = (refl, refl)
inner_row (of_amount AmountLetter.I) fs c h = (refl, refl)
inner_row (of_test TestLetter.G) fs c h = (refl, refl)
inner_row (of_test TestLetter.E) fs c h = (refl, refl)
inner_row (of_test TestLetter.Y) fs c h = (refl, refl)
inner_row (of_test TestLetter.«V») fs c h = (refl, refl)
inner_row (of_test TestLetter.R) fs c h = (refl, refl)

inner_skips : (t : Trees PlanLetter) → OnNodes Inner t → Anywhere t
unfolding OnNodes
inner_skips end h k rest s = none_left k rest s
inner_skips (node l fs c t) h k rest s = one_skips l fs c t k rest (inner_row l fs c h.0).0 (inner_skips c h.1) (inner_skips t h.2 k rest s)

-- a row without a delay in front of others
next_plain : (l : Letter PlanLetter) (fs : List Field) (c t : Trees PlanLetter) (n : ℕ) (rest : List ℤ) → Inner l fs → all_rows without_delay n (rows plan_form c ++ (rows plan_form t ++ rest)) ≡ true
    → all_rows without_delay (suc n) (rows plan_form (node l fs c t) ++ rest) ≡ true
unfolding all_rows
next_plain l fs c t n rest h e = rw (head plan_form l fs c t rest, (inner_row l fs c h).1, tail plan_form l fs c t rest) e

inner_plain : (t : Trees PlanLetter) (k : ℕ) (rest : List ℤ) → OnNodes Inner t → all_rows without_delay k rest ≡ true → all_rows without_delay (count_of t + k) (rows plan_form t ++ rest) ≡ true
unfolding OnNodes count_of rows
inner_plain end k rest h e = let n : 0 + k ≡ k = omega arith in rw n e
inner_plain (node l fs c t) k rest h e =
    let n : 1 + (count_of c + count_of t) + k ≡ suc (count_of c + (count_of t + k)) = omega arith in
    rw n (next_plain l fs c t (count_of c + (count_of t + k)) rest h.0 (inner_plain c (count_of t + k) (rows plan_form t ++ rest) h.1 (inner_plain t k rest h.2 e)))

-- ---- the rows of the first tree

front_skips : (t r : Trees PlanLetter) → InFront t r → Anywhere r → Anywhere t
front_skips end r h g k rest s = absurd h
front_skips (node l fs c t) r h g k rest s = one_skips l fs c t k rest (inner_row l fs c h.0).0 (inner_skips c h.1) (subst (λ x. Here x k rest) (sym h.2) (g k rest s))

front_plain : (t r : Trees PlanLetter) (rest : List ℤ) → InFront t r → all_rows without_delay (first_count t) (rows plan_form t ++ rest) ≡ true
unfolding first_count all_rows
front_plain end r rest h = absurd h
front_plain (node l fs c t) r rest h =
    let n : 1 + count_of c ≡ suc (count_of c + 0) = omega arith in
    rw n (next_plain l fs c t (count_of c + 0) rest h.0 (inner_plain c 0 (rows plan_form t ++ rest) h.1 refl))

front_count : (t r : Trees PlanLetter) → InFront t r → first_count t ≤ count_of t
unfolding first_count count_of
front_count end r h = absurd h
front_count (node l fs c t) r h = omega arith

-- a row leads past it by its link
front_step : (letter : ℕ) (slots : List ℤ) (t r : Trees PlanLetter) → eq_z (pos letter) (pos (byte "S")) || eq_z (pos letter) (pos (byte "W")) ≡ true → InFront t r → IsNode r → plan_step (row_for letter slots t) ≡ 1 + first_count t
unfolding plan_step last_slots behind_first
front_step letter slots end r e h n = absurd h
front_step letter slots (node l fs c t) r e h n = rw e (link_is t (1 + first_count (node l fs c t)) (subst IsNode (sym h.2) n))

-- ---- plans

-- a node whose first plan s stands behind an amount or a test
module _ (l : Letter PlanLetter) (fs : List Field) (c s t : Trees PlanLetter) (k : ℕ) (rest : List ℤ) where
  apart_skips : eq_z (pos (row_of plan_form l).letter) (pos (byte "S")) || eq_z (pos (row_of plan_form l).letter) (pos (byte "W")) ≡ true → InFront c s → IsNode s → Anywhere s → Here t k rest → Here (node l fs c t) k rest
  apart_skips e f n g h =
      let p = front_step (row_of plan_form l).letter (slots_of fs) c s e f n in
      let q : plan_step (row_on l fs c) - 1 ≡ first_count c = omega (arith, p) in
      node_skips l fs c t k rest (omega (arith, p)) (omega (arith, p, front_count c s f)) (rw q (front_plain c s (rows plan_form t ++ rest) f)) (front_skips c s f g) h

is_plan : (x : Plan Delay) (r : Trees PlanLetter) → IsNode (plan_trees x r)
unfolding plan_trees
is_plan nothing r = tt
is_plan (transfer p q) r = tt
is_plan (scale a x) r = tt
is_plan (later d x) r = tt
is_plan (both x y) r = tt
is_plan (within d t x y) r = tt

plan_skips : (x : Plan Delay) (r : Trees PlanLetter) (k : ℕ) (rest : List ℤ) → Here r k rest → Here (plan_trees x r) k rest
unfolding plan_trees plan_step row_of plan_row
plan_skips nothing r k rest h = one_skips (of_root PlanLetter.Z) [] end r k rest refl none_left h
plan_skips (transfer p q) r k rest h = one_skips (of_root PlanLetter.T) (a_number (pos p) ∷ a_number (pos q) ∷ []) end r k rest refl none_left h
plan_skips (scale a x) r k rest h =
    apart_skips (of_root PlanLetter.S) [] (amount_tree a_number a (plan_trees x end)) (plan_trees x end) r k rest refl (amount_front a (plan_trees x end)) (is_plan x end) (λ j m s. plan_skips x end j m (none_left j m s)) h
plan_skips (later d x) r k rest h = one_skips (of_root PlanLetter.L) (a_delay d ∷ []) (plan_trees x end) r k rest refl (λ j m s. plan_skips x end j m (none_left j m s)) h
plan_skips (both x y) r k rest h = one_skips (of_root PlanLetter.B) [] (plan_trees x (plan_trees y end)) r k rest refl (λ j m s. plan_skips x (plan_trees y end) j m (plan_skips y end j m (none_left j m s))) h
plan_skips (within d t x y) r k rest h =
    let z = plan_trees x (plan_trees y end) in
    apart_skips (of_root PlanLetter.W) (a_delay d ∷ []) (test_tree a_number t z) z r k rest refl (test_front t z) (is_plan x (plan_trees y end)) (λ j m s. plan_skips x (plan_trees y end) j m (plan_skips y end j m (none_left j m s))) h

-- of a plan's rows, whatever stands behind them
pub rows_skip : (x : Plan Delay) (rest : List ℤ) → Skips (count_of (plan_trees x end)) (rows plan_form (plan_trees x end) ++ rest)
unfolding Skips
rows_skip x rest = let n : count_of (plan_trees x end) ≡ count_of (plan_trees x end) + 0 = omega arith in rw n (plan_skips x end 0 rest (none_left 0 rest tt))
