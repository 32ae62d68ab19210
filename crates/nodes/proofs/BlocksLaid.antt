-- An amount, test or plan that lies in the table has its rows together.
use Prim.Native.Nat.{◌+◌, ◌≤◌, suc, zero, ℕ}
use Rattle.language.specs.Limits.{max_nodes}
use Rattle.language.specs.Text.Classes.{Field, a_delay, a_number}
use Rattle.language.specs.Text.Form.{depth_of, depth_of_amount, depth_of_test}
use Rattle.language.specs.Text.Letters.{AmountLetter, Form, Letter, PlanLetter, TestLetter, amount_row, of_amount, of_root, of_test, plan_form, plan_row, row_of, test_row}
use Rattle.language.specs.Text.Plans.{plan_trees}
use Rattle.language.specs.Text.Reader.{Trees, end, node}
use Rattle.language.specs.Text.Trees.{Amount, Delay, Plan, Test, both, choose, conjunction, difference, disjunction, equal, index, later, less, negation, nothing, number, product, quotient, scale, sum, transfer, within}
use Rattle.language.specs.Text.Typed.{amount_tree, test_tree}
use Rattle.nodes.specs.Blocks.{AmountBlock, PlanBlocks, TestBlock}
use Rattle.nodes.proofs.AmountsFound.{amount_first, byte_at, second_at, test_first, third_at}
use Rattle.nodes.proofs.Laid.{IsNode, Laid, inner, laid_child, laid_slot, link_is}
use Rattle.nodes.proofs.PlansFound.{plan_first}
use Rattle.nodes.specs.Letters.{letter_of_amount, letter_of_plan, letter_of_test}
use Rattle.nodes.specs.Rows.{behind_first, count_of, first_count, last_slots, second_link, slots_of, third_link}
use Rattle.nodes.specs.Table.{link_at, slot_at}
use lib.IntN.{pos, ℤ}
use lib.ListN.{get_or}
use mathlib.Core.List.{List, [], ◌∷◌}
use mathlib.Core.Path.{◌∙◌, ◌≡◌, ap, refl, subst, sym}
use native.Mathlib.Omega.{arith}

module _ {P : Type 0} where
  counted : (t : Trees P) → count_of t ≡ first_count t + count_of (behind_first t)
  unfolding count_of first_count behind_first
  counted end = refl
  counted (node l fs c t) = omega arith

  -- with the trees behind the first named
  counted_by : (t : Trees P) {r : Trees P} → behind_first t ≡ r → count_of t ≡ first_count t + count_of r
  counted_by t e = rw (← e) (counted t)

module _ {P : Type 0} (form : Form P) (nodes : List ℤ) where
  -- where the second and the third child of a node stand
  pub record Links (at : ℕ) (c : Trees P) : Type 0 where
    pub second : IsNode (behind_first c) → link_at nodes at 3 ≡ at + 1 + first_count c
    pub third : IsNode (behind_first (behind_first c)) → link_at nodes at 4 ≡ at + 1 + first_count c + first_count (behind_first c)

  pub links : {at : ℕ} {c t : Trees P} (l : Letter P) (fs : List Field) → Laid form nodes at (node l fs c t) → IsNode c → Links at c
  unfolding link_at last_slots
  links {at} {c} l fs h n =
      let e : slot_at nodes at 3 ≡ pos (second_link c) = laid_slot form nodes l fs h 3 (omega arith) ∙ ap (λ x. get_or x 0 (pos 0)) (last c n) in
      let f : slot_at nodes at 4 ≡ pos (third_link c) = laid_slot form nodes l fs h 4 (omega arith) ∙ ap (λ x. get_or x 1 (pos 0)) (last c n) in
      record {
        second = λ i. rw (e, link_is (behind_first c) (1 + first_count c) i) (omega arith);
        third = λ i. rw (f, link_is (behind_first (behind_first c)) (1 + (first_count c + first_count (behind_first c))) i) (omega arith);
      }
    where
      last : (c : Trees P) → IsNode c → last_slots (slots_of fs) c ≡ pos (second_link c) ∷ pos (third_link c) ∷ []
      last end n = absurd n
      last (node m gs d t) n = refl

-- an amount or test of any form, its months written by `month`
module _ {P M : Type 0} (form : Form P) (month : M → Field) (nodes : List ℤ) where
  nothing_left : count_of {P = P} end ≡ 0
  unfolding count_of
  nothing_left = refl

  abbrev a_tree : Amount M → Trees P → Trees P
  a_tree a r = amount_tree month a r

  abbrev t_tree : Test M → Trees P → Trees P
  t_tree t r = test_tree month t r

  a_count : (a : Amount M) (r : Trees P) → count_of (a_tree a r) ≡ first_count (a_tree a r) + count_of r
  a_count a r = counted_by (a_tree a r) (amount_first month a r).1

  t_count : (t : Test M) (r : Trees P) → count_of (t_tree t r) ≡ first_count (t_tree t r) + count_of r
  t_count t r = counted_by (t_tree t r) (test_first month t r).1

  -- two amounts, or two tests, below a node
  module _ (l : Letter P) {r : Trees P} (at left to : ℕ) where
    two_amounts : (a b : Amount M) → Laid form nodes at (node l [] (a_tree a (a_tree b end)) r) → to ≡ at + (1 + count_of (a_tree a (a_tree b end)))
        → ((s : Trees P) (p q : ℕ) → Laid form nodes p (a_tree a s) → q ≡ p + first_count (a_tree a s) → AmountBlock left nodes p q)
        → ((s : Trees P) (p q : ℕ) → Laid form nodes p (a_tree b s) → q ≡ p + first_count (a_tree b s) → AmountBlock left nodes p q)
        → AmountBlock left nodes (at + 1) (link_at nodes at 3) × AmountBlock left nodes (link_at nodes at 3) to
    two_amounts a b h e fa fb =
        let f = amount_first month a (a_tree b end) in
        let i = inner form nodes l [] h f.0 in
        let k = (links form nodes l [] h f.0).second (subst IsNode (sym f.1) (amount_first month b end).0) in
        let n : to ≡ link_at nodes at 3 + first_count (a_tree b end) = omega (arith, e, k, a_count a (a_tree b end), a_count b end, nothing_left) in
        (fa (a_tree b end) (at + 1) (link_at nodes at 3) i.first k, fb end (link_at nodes at 3) to (second_at form nodes i f.1) n)

    two_tests : (a b : Test M) → Laid form nodes at (node l [] (t_tree a (t_tree b end)) r) → to ≡ at + (1 + count_of (t_tree a (t_tree b end)))
        → ((s : Trees P) (p q : ℕ) → Laid form nodes p (t_tree a s) → q ≡ p + first_count (t_tree a s) → TestBlock left nodes p q)
        → ((s : Trees P) (p q : ℕ) → Laid form nodes p (t_tree b s) → q ≡ p + first_count (t_tree b s) → TestBlock left nodes p q)
        → TestBlock left nodes (at + 1) (link_at nodes at 3) × TestBlock left nodes (link_at nodes at 3) to
    two_tests a b h e fa fb =
        let f = test_first month a (t_tree b end) in
        let i = inner form nodes l [] h f.0 in
        let k = (links form nodes l [] h f.0).second (subst IsNode (sym f.1) (test_first month b end).0) in
        let n : to ≡ link_at nodes at 3 + first_count (t_tree b end) = omega (arith, e, k, t_count a (t_tree b end), t_count b end, nothing_left) in
        (fa (t_tree b end) (at + 1) (link_at nodes at 3) i.first k, fb end (link_at nodes at 3) to (second_at form nodes i f.1) n)

  mutual
    unfolding AmountBlock TestBlock amount_tree test_tree depth_of_amount depth_of_test letter_of_amount letter_of_test row_of amount_row test_row first_count

    pub amount_block : (a : Amount M) (r : Trees P) (at left to : ℕ) → Laid form nodes at (amount_tree month a r) → depth_of_amount a ≤ left
        → to ≡ at + first_count (amount_tree month a r) → AmountBlock left nodes at to
    amount_block (number n) r at zero to h d e = absurd (omega arith)
    amount_block (number n) r at (suc left) to h d e =
        rw (byte_at form nodes (of_amount AmountLetter.N) (a_number n ∷ []) end h) (omega (arith, e, nothing_left))
    amount_block (index l m) r at zero to h d e = absurd (omega arith)
    amount_block (index l m) r at (suc left) to h d e =
        rw (byte_at form nodes (of_amount AmountLetter.O) (a_number (pos l) ∷ month m ∷ []) end h) (omega (arith, e, nothing_left))
    amount_block (sum a b) r at zero to h d e = absurd (omega arith)
    amount_block (sum a b) r at (suc left) to h d e =
        rw (byte_at form nodes (of_amount AmountLetter.A) [] (a_tree a (a_tree b end)) h)
        (two_amounts (of_amount AmountLetter.A) at left to a b h e (λ s p q g f. amount_block a s p left q g (omega arith) f) (λ s p q g f. amount_block b s p left q g (omega arith) f))
    amount_block (difference a b) r at zero to h d e = absurd (omega arith)
    amount_block (difference a b) r at (suc left) to h d e =
        rw (byte_at form nodes (of_amount AmountLetter.U) [] (a_tree a (a_tree b end)) h)
        (two_amounts (of_amount AmountLetter.U) at left to a b h e (λ s p q g f. amount_block a s p left q g (omega arith) f) (λ s p q g f. amount_block b s p left q g (omega arith) f))
    amount_block (product a b) r at zero to h d e = absurd (omega arith)
    amount_block (product a b) r at (suc left) to h d e =
        rw (byte_at form nodes (of_amount AmountLetter.K) [] (a_tree a (a_tree b end)) h)
        (two_amounts (of_amount AmountLetter.K) at left to a b h e (λ s p q g f. amount_block a s p left q g (omega arith) f) (λ s p q g f. amount_block b s p left q g (omega arith) f))
    amount_block (quotient n a) r at zero to h d e = absurd (omega arith)
    amount_block (quotient n a) r at (suc left) to h d e =
        let l = of_amount AmountLetter.Q in
        let x = amount_block a end (at + 1) left to (laid_child form nodes l (a_number (pos n) ∷ []) h) (omega arith) (omega (arith, e, a_count a end, nothing_left)) in
        rw (byte_at form nodes l (a_number (pos n) ∷ []) (a_tree a end) h) x
    amount_block (choose t a b) r at zero to h d e = absurd (omega arith)
    amount_block (choose t a b) r at (suc left) to h d e =
        let l = of_amount AmountLetter.I in
        let f = test_first month t (a_tree a (a_tree b end)) in
        let g = amount_first month a (a_tree b end) in
        let i = inner form nodes l [] h f.0 in
        let k = links form nodes l [] h f.0 in
        let s = k.second (subst IsNode (sym f.1) g.0) in
        let u = k.third (subst IsNode (sym (ap behind_first f.1 ∙ g.1)) (amount_first month b end).0) in
        let m : link_at nodes at 4 ≡ link_at nodes at 3 + first_count (a_tree a (a_tree b end)) = rw (← f.1) (omega (arith, s, u)) in
        let x = test_block t (a_tree a (a_tree b end)) (at + 1) left (link_at nodes at 3) i.first (omega arith) s in
        let y = amount_block a (a_tree b end) (link_at nodes at 3) left (link_at nodes at 4) (second_at form nodes i f.1) (omega arith) m in
        let w : to ≡ link_at nodes at 4 + first_count (a_tree b end) =
        omega (arith, e, m, s, t_count t (a_tree a (a_tree b end)), a_count a (a_tree b end), a_count b end, nothing_left) in
        let z = amount_block b end (link_at nodes at 4) left to (third_at form nodes i f.1 g.1) (omega arith) w in
        rw (byte_at form nodes l [] (t_tree t (a_tree a (a_tree b end))) h) (x, y, z)

    pub test_block : (t : Test M) (r : Trees P) (at left to : ℕ) → Laid form nodes at (test_tree month t r) → depth_of_test t ≤ left
        → to ≡ at + first_count (test_tree month t r) → TestBlock left nodes at to
    test_block (less a b) r at zero to h d e = absurd (omega arith)
    test_block (less a b) r at (suc left) to h d e =
        rw (byte_at form nodes (of_test TestLetter.G) [] (a_tree a (a_tree b end)) h)
        (two_amounts (of_test TestLetter.G) at left to a b h e (λ s p q g f. amount_block a s p left q g (omega arith) f) (λ s p q g f. amount_block b s p left q g (omega arith) f))
    test_block (equal a b) r at zero to h d e = absurd (omega arith)
    test_block (equal a b) r at (suc left) to h d e =
        rw (byte_at form nodes (of_test TestLetter.E) [] (a_tree a (a_tree b end)) h)
        (two_amounts (of_test TestLetter.E) at left to a b h e (λ s p q g f. amount_block a s p left q g (omega arith) f) (λ s p q g f. amount_block b s p left q g (omega arith) f))
    test_block (conjunction a b) r at zero to h d e = absurd (omega arith)
    test_block (conjunction a b) r at (suc left) to h d e =
        rw (byte_at form nodes (of_test TestLetter.Y) [] (t_tree a (t_tree b end)) h)
        (two_tests (of_test TestLetter.Y) at left to a b h e (λ s p q g f. test_block a s p left q g (omega arith) f) (λ s p q g f. test_block b s p left q g (omega arith) f))
    test_block (disjunction a b) r at zero to h d e = absurd (omega arith)
    test_block (disjunction a b) r at (suc left) to h d e =
        rw (byte_at form nodes (of_test TestLetter.«V») [] (t_tree a (t_tree b end)) h)
        (two_tests (of_test TestLetter.«V») at left to a b h e (λ s p q g f. test_block a s p left q g (omega arith) f) (λ s p q g f. test_block b s p left q g (omega arith) f))
    test_block (negation t) r at zero to h d e = absurd (omega arith)
    test_block (negation t) r at (suc left) to h d e =
        let l = of_test TestLetter.R in
        let x = test_block t end (at + 1) left to (laid_child form nodes l [] h) (omega arith) (omega (arith, e, t_count t end, nothing_left)) in
        rw (byte_at form nodes l [] (t_tree t end) h) x

module _ (nodes : List ℤ) where
  pub plan_blocks : (x : Plan Delay) (r : Trees PlanLetter) (at left : ℕ) → Laid plan_form nodes at (plan_trees x r) → depth_of x ≤ left → left ≤ max_nodes → PlanBlocks left nodes at
  unfolding PlanBlocks plan_trees depth_of letter_of_plan row_of plan_row
  plan_blocks nothing r at zero h d b = absurd (omega arith)
  plan_blocks nothing r at (suc left) h d b = rw (byte_at plan_form nodes (of_root PlanLetter.Z) [] end h) tt
  plan_blocks (transfer p q) r at zero h d b = absurd (omega arith)
  plan_blocks (transfer p q) r at (suc left) h d b = rw (byte_at plan_form nodes (of_root PlanLetter.T) (a_number (pos p) ∷ a_number (pos q) ∷ []) end h) tt
  plan_blocks (scale a x) r at zero h d b = absurd (omega arith)
  plan_blocks (scale a x) r at (suc left) h d b =
      let l = of_root PlanLetter.S in
      let f = amount_first a_number a (plan_trees x end) in
      let i = inner plan_form nodes l [] h f.0 in
      let k = (links plan_form nodes l [] h f.0).second (subst IsNode (sym f.1) (plan_first x end).0) in
      let u = amount_block plan_form a_number nodes a (plan_trees x end) (at + 1) max_nodes (link_at nodes at 3) i.first (omega arith) k in
      let y = plan_blocks x end (link_at nodes at 3) left (second_at plan_form nodes i f.1) (omega arith) (omega arith) in
      rw (byte_at plan_form nodes l [] (amount_tree a_number a (plan_trees x end)) h) (u, y)
  plan_blocks (later t x) r at zero h d b = absurd (omega arith)
  plan_blocks (later t x) r at (suc left) h d b =
      let l = of_root PlanLetter.L in
      let y = plan_blocks x end (at + 1) left (laid_child plan_form nodes l (a_delay t ∷ []) h) (omega arith) (omega arith) in
      rw (byte_at plan_form nodes l (a_delay t ∷ []) (plan_trees x end) h) y
  plan_blocks (both x y) r at zero h d b = absurd (omega arith)
  plan_blocks (both x y) r at (suc left) h d b =
      let l = of_root PlanLetter.B in
      let f = plan_first x (plan_trees y end) in
      let i = inner plan_form nodes l [] h f.0 in
      let u = plan_blocks x (plan_trees y end) (at + 1) left i.first (omega arith) (omega arith) in
      let w = plan_blocks y end (link_at nodes at 3) left (second_at plan_form nodes i f.1) (omega arith) (omega arith) in
      rw (byte_at plan_form nodes l [] (plan_trees x (plan_trees y end)) h) (u, w)
  plan_blocks (within t c x y) r at zero h d b = absurd (omega arith)
  plan_blocks (within t c x y) r at (suc left) h d b =
      let l = of_root PlanLetter.W in
      let f = test_first a_number c (plan_trees x (plan_trees y end)) in
      let i = inner plan_form nodes l (a_delay t ∷ []) h f.0 in
      let k = (links plan_form nodes l (a_delay t ∷ []) h f.0).second (subst IsNode (sym f.1) (plan_first x (plan_trees y end)).0) in
      let u = test_block plan_form a_number nodes c (plan_trees x (plan_trees y end)) (at + 1) max_nodes (link_at nodes at 3) i.first (omega arith) k in
      let v = plan_blocks x (plan_trees y end) (link_at nodes at 3) left (second_at plan_form nodes i f.1) (omega arith) (omega arith) in
      let w = plan_blocks y end (link_at nodes at 4) left (third_at plan_form nodes i f.1 (plan_first x (plan_trees y end)).1) (omega arith) (omega arith) in
      rw (byte_at plan_form nodes l (a_delay t ∷ []) (test_tree a_number c (plan_trees x (plan_trees y end))) h) (u, v, w)
