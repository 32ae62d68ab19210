-- An amount or test that lies in the table is found there, and a walk of it stays in the table.
use Prim.Native.Nat.{◌*◌, ◌+◌, ◌≤◌, suc, zero, ℕ}
use lib.IntN.{pos, ℤ}
use lib.ListN.{drop, get_or, length, length-append, length-drop}
use mathlib.Core.List.{List, [], ◌++◌, ◌∷◌}
use mathlib.Core.Path.{◌∙◌, ◌≡◌, ap, ap₂, refl, subst}
use native.Mathlib.Omega.{arith}
use Rattle.language.specs.Text.Classes.{Field, a_number}
use Rattle.language.specs.Text.Form.{depth_of_amount, depth_of_test, fields_of_amount, fields_of_test}
use Rattle.language.specs.Text.Letters.{AmountLetter, Form, Letter, TestLetter, amount_row, of_amount, of_test, row_of, test_row}
use Rattle.language.specs.Text.Reader.{Trees, end, node}
use Rattle.language.specs.Text.Trees.{Amount, Test, choose, conjunction, difference, disjunction, equal, index, less, negation, number, product, quotient, sum}
use Rattle.language.specs.Text.Typed.{amount_tree, test_tree}
use Rattle.nodes.proofs.Laid.{Inner, IsNode, Laid, inner, laid_child, laid_slot, rows_length}
use Rattle.nodes.specs.Found.{amount_at, test_at}
use Rattle.nodes.specs.Letters.{letter_of_amount, letter_of_test}
use Rattle.nodes.specs.Rows.{behind_first, count_of, field_slots, last_slots, rows, slots_of}
use Rattle.nodes.specs.Stands.{AmountStands, TestStands}
use Rattle.nodes.specs.Table.{RowIn, link_at, nat_of, slot_at}

module _ {P M : Type 0} (month : M → Field) where
  -- an amount's or a test's tree comes first, then the others
  pub amount_first : (a : Amount M) (r : Trees P) → IsNode (amount_tree month a r) × (behind_first (amount_tree month a r) ≡ r)
  unfolding amount_tree behind_first
  amount_first (number n) r = (tt, refl)
  amount_first (index l i) r = (tt, refl)
  amount_first (sum a b) r = (tt, refl)
  amount_first (difference a b) r = (tt, refl)
  amount_first (product a b) r = (tt, refl)
  amount_first (quotient n a) r = (tt, refl)
  amount_first (choose t a b) r = (tt, refl)

  pub test_first : (t : Test M) (r : Trees P) → IsNode (test_tree month t r) × (behind_first (test_tree month t r) ≡ r)
  unfolding test_tree behind_first
  test_first (less a b) r = (tt, refl)
  test_first (equal a b) r = (tt, refl)
  test_first (conjunction s t) r = (tt, refl)
  test_first (disjunction s t) r = (tt, refl)
  test_first (negation t) r = (tt, refl)

-- what is found at a node: x by a walk, which stays in the table
pub record Finds {A : Type 0} (found x : A) (stands : Type 0) : Type 0 where
  pub is : found ≡ x
  pub safe : stands

module _ {P : Type 0} (form : Form P) (nodes : List ℤ) where
  -- the room and the letter of a node
  pub room : {at : ℕ} {t : Trees P} (l : Letter P) (fs : _) (c : Trees P) → Laid form nodes at (node l fs c t) → RowIn nodes at
  unfolding count_of
  room {at} {t} l fs c h =
      let n : length (drop (at * 5) nodes) ≡ length (rows form (node l fs c t) ++ h.rest) = ap length h.is in
      (omega (arith, h.room), omega (arith, n, length-drop (at * 5) nodes, length-append (rows form (node l fs c t)) h.rest, rows_length form (node l fs c t)))

  pub byte_at : {at : ℕ} {t : Trees P} (l : Letter P) (fs : _) (c : Trees P) → Laid form nodes at (node l fs c t) → slot_at nodes at 0 ≡ pos (row_of form l).letter
  byte_at l fs c h = laid_slot form nodes l fs h 0 (omega arith)

  pub number_at : {at : ℕ} {t : Trees P} (l : Letter P) (z : ℤ) (fs : _) (c : Trees P) → Laid form nodes at (node l (a_number z ∷ fs) c t) → slot_at nodes at 1 ≡ z
  unfolding slots_of field_slots
  number_at l z fs c h = laid_slot form nodes l (a_number z ∷ fs) h 1 (omega arith)

  -- the trees at a node's links, named
  pub second_at : {at : ℕ} {c t : Trees P} → Inner form nodes at c → behind_first c ≡ t → Laid form nodes (link_at nodes at 3) t
  second_at {at} i e = subst (Laid form nodes (link_at nodes at 3)) e i.second

  pub third_at : {at : ℕ} {c t u : Trees P} → Inner form nodes at c → behind_first c ≡ t → behind_first t ≡ u → Laid form nodes (link_at nodes at 4) u
  third_at {at} i e f = subst (Laid form nodes (link_at nodes at 4)) (ap behind_first e ∙ f) i.third

module _ {P M : Type 0} (form : Form P) (nodes : List ℤ) (month : M → Field) (when : ℤ → ℤ → M) (good : M → Type 0)
    (back : (l : ℕ) (m : M) → good m → when (get_or (slots_of (a_number (pos l) ∷ month m ∷ [])) 1 (pos 0)) (get_or (slots_of (a_number (pos l) ∷ month m ∷ [])) 2 (pos 0)) ≡ m) where
  abbrev AmountFound : ℕ → ℕ → Amount M → Type 0
  AmountFound left at a = Finds (amount_at when left nodes at) a (AmountStands left nodes at)

  abbrev TestFound : ℕ → ℕ → Test M → Type 0
  TestFound left at t = Finds (test_at when left nodes at) t (TestStands left nodes at)

  month_at : {at : ℕ} {t : Trees P} (l : ℕ) (m : M) → Laid form nodes at (node (of_amount AmountLetter.O) (a_number (pos l) ∷ month m ∷ []) end t)
      → (slot_at nodes at 2 ≡ get_or (slots_of (a_number (pos l) ∷ month m ∷ [])) 1 (pos 0)) × (slot_at nodes at 3 ≡ get_or (slots_of (a_number (pos l) ∷ month m ∷ [])) 2 (pos 0))
  unfolding last_slots
  month_at l m h =
      (laid_slot form nodes (of_amount AmountLetter.O) (a_number (pos l) ∷ month m ∷ []) h 2 (omega arith), laid_slot form nodes (of_amount AmountLetter.O) (a_number (pos l) ∷ month m ∷ []) h 3 (omega arith))

  mutual
    unfolding amount_at test_at AmountStands TestStands amount_tree test_tree depth_of_amount depth_of_test fields_of_amount fields_of_test letter_of_amount letter_of_test row_of amount_row test_row

    pub amount_found : (a : Amount M) (r : Trees P) (at left : ℕ) → Laid form nodes at (amount_tree month a r) → fields_of_amount good a → depth_of_amount a ≤ left → AmountFound left at a
    amount_found (number n) r at zero h g d = absurd (omega arith)
    amount_found (number n) r at (suc left) h g d =
        let e = byte_at form nodes (of_amount AmountLetter.N) (a_number n ∷ []) end h in
        record { is = rw e (ap number (number_at form nodes (of_amount AmountLetter.N) n [] end h)); safe = (room form nodes (of_amount AmountLetter.N) (a_number n ∷ []) end h, rw e tt) }
    amount_found (index l m) r at zero h g d = absurd (omega arith)
    amount_found (index l m) r at (suc left) h g d =
        let e = byte_at form nodes (of_amount AmountLetter.O) (a_number (pos l) ∷ month m ∷ []) end h in
        record {
          is = rw e (ap₂ index (ap nat_of (number_at form nodes (of_amount AmountLetter.O) (pos l) (month m ∷ []) end h)) (ap₂ when (month_at l m h).0 (month_at l m h).1 ∙ back l m g.1));
          safe = (room form nodes (of_amount AmountLetter.O) (a_number (pos l) ∷ month m ∷ []) end h, rw e tt);
        }
    amount_found (sum a b) r at zero h g d = absurd (omega arith)
    amount_found (sum a b) r at (suc left) h g d =
        let below = amount_tree month a (amount_tree month b end) in
        let e = byte_at form nodes (of_amount AmountLetter.A) [] below h in
        let i = inner form nodes (of_amount AmountLetter.A) [] h (amount_first month a (amount_tree month b end)).0 in
        let x = amount_found a (amount_tree month b end) (at + 1) left i.first g.0 (omega arith) in
        let y = amount_found b end (link_at nodes at 3) left (second_at form nodes i (amount_first month a (amount_tree month b end)).1) g.1 (omega arith) in
        record { is = rw e (ap₂ sum x.is y.is); safe = (room form nodes (of_amount AmountLetter.A) [] below h, rw e (x.safe, (i.forward, y.safe))) }
    amount_found (difference a b) r at zero h g d = absurd (omega arith)
    amount_found (difference a b) r at (suc left) h g d =
        let below = amount_tree month a (amount_tree month b end) in
        let e = byte_at form nodes (of_amount AmountLetter.U) [] below h in
        let i = inner form nodes (of_amount AmountLetter.U) [] h (amount_first month a (amount_tree month b end)).0 in
        let x = amount_found a (amount_tree month b end) (at + 1) left i.first g.0 (omega arith) in
        let y = amount_found b end (link_at nodes at 3) left (second_at form nodes i (amount_first month a (amount_tree month b end)).1) g.1 (omega arith) in
        record { is = rw e (ap₂ difference x.is y.is); safe = (room form nodes (of_amount AmountLetter.U) [] below h, rw e (x.safe, (i.forward, y.safe))) }
    amount_found (product a b) r at zero h g d = absurd (omega arith)
    amount_found (product a b) r at (suc left) h g d =
        let below = amount_tree month a (amount_tree month b end) in
        let e = byte_at form nodes (of_amount AmountLetter.K) [] below h in
        let i = inner form nodes (of_amount AmountLetter.K) [] h (amount_first month a (amount_tree month b end)).0 in
        let x = amount_found a (amount_tree month b end) (at + 1) left i.first g.0 (omega arith) in
        let y = amount_found b end (link_at nodes at 3) left (second_at form nodes i (amount_first month a (amount_tree month b end)).1) g.1 (omega arith) in
        record { is = rw e (ap₂ product x.is y.is); safe = (room form nodes (of_amount AmountLetter.K) [] below h, rw e (x.safe, (i.forward, y.safe))) }
    amount_found (quotient n a) r at zero h g d = absurd (omega arith)
    amount_found (quotient n a) r at (suc left) h g d =
        let below = amount_tree month a end in
        let e = byte_at form nodes (of_amount AmountLetter.Q) (a_number (pos n) ∷ []) below h in
        let x = amount_found a end (at + 1) left (laid_child form nodes (of_amount AmountLetter.Q) (a_number (pos n) ∷ []) h) g.2 (omega arith) in
        record { is = rw e (ap₂ quotient (ap nat_of (number_at form nodes (of_amount AmountLetter.Q) (pos n) [] below h)) x.is); safe = (room form nodes (of_amount AmountLetter.Q) (a_number (pos n) ∷ []) below h, rw e x.safe) }
    amount_found (choose t a b) r at zero h g d = absurd (omega arith)
    amount_found (choose t a b) r at (suc left) h g d =
        let behind = amount_tree month a (amount_tree month b end) in
        let e = byte_at form nodes (of_amount AmountLetter.I) [] (test_tree month t behind) h in
        let i = inner form nodes (of_amount AmountLetter.I) [] h (test_first month t behind).0 in
        let x = test_found t behind (at + 1) left i.first g.0 (omega arith) in
        let y = amount_found a (amount_tree month b end) (link_at nodes at 3) left (second_at form nodes i (test_first month t behind).1) g.1 (omega arith) in
        let z = amount_found b end (link_at nodes at 4) left (third_at form nodes i (test_first month t behind).1 (amount_first month a (amount_tree month b end)).1) g.2 (omega arith) in
        record {
          is = rw e (ap₂ (λ f w. f w) (ap₂ choose x.is y.is) z.is);
          safe = (room form nodes (of_amount AmountLetter.I) [] (test_tree month t behind) h, rw e (x.safe, (i.forward, y.safe), (i.forward_again, z.safe)));
        }

    pub test_found : (t : Test M) (r : Trees P) (at left : ℕ) → Laid form nodes at (test_tree month t r) → fields_of_test good t → depth_of_test t ≤ left → TestFound left at t
    test_found (less a b) r at zero h g d = absurd (omega arith)
    test_found (less a b) r at (suc left) h g d =
        let below = amount_tree month a (amount_tree month b end) in
        let e = byte_at form nodes (of_test TestLetter.G) [] below h in
        let i = inner form nodes (of_test TestLetter.G) [] h (amount_first month a (amount_tree month b end)).0 in
        let x = amount_found a (amount_tree month b end) (at + 1) left i.first g.0 (omega arith) in
        let y = amount_found b end (link_at nodes at 3) left (second_at form nodes i (amount_first month a (amount_tree month b end)).1) g.1 (omega arith) in
        record { is = rw e (ap₂ less x.is y.is); safe = (room form nodes (of_test TestLetter.G) [] below h, rw e (x.safe, (i.forward, y.safe))) }
    test_found (equal a b) r at zero h g d = absurd (omega arith)
    test_found (equal a b) r at (suc left) h g d =
        let below = amount_tree month a (amount_tree month b end) in
        let e = byte_at form nodes (of_test TestLetter.E) [] below h in
        let i = inner form nodes (of_test TestLetter.E) [] h (amount_first month a (amount_tree month b end)).0 in
        let x = amount_found a (amount_tree month b end) (at + 1) left i.first g.0 (omega arith) in
        let y = amount_found b end (link_at nodes at 3) left (second_at form nodes i (amount_first month a (amount_tree month b end)).1) g.1 (omega arith) in
        record { is = rw e (ap₂ equal x.is y.is); safe = (room form nodes (of_test TestLetter.E) [] below h, rw e (x.safe, (i.forward, y.safe))) }
    test_found (conjunction a b) r at zero h g d = absurd (omega arith)
    test_found (conjunction a b) r at (suc left) h g d =
        let below = test_tree month a (test_tree month b end) in
        let e = byte_at form nodes (of_test TestLetter.Y) [] below h in
        let i = inner form nodes (of_test TestLetter.Y) [] h (test_first month a (test_tree month b end)).0 in
        let x = test_found a (test_tree month b end) (at + 1) left i.first g.0 (omega arith) in
        let y = test_found b end (link_at nodes at 3) left (second_at form nodes i (test_first month a (test_tree month b end)).1) g.1 (omega arith) in
        record { is = rw e (ap₂ conjunction x.is y.is); safe = (room form nodes (of_test TestLetter.Y) [] below h, rw e (x.safe, (i.forward, y.safe))) }
    test_found (disjunction a b) r at zero h g d = absurd (omega arith)
    test_found (disjunction a b) r at (suc left) h g d =
        let below = test_tree month a (test_tree month b end) in
        let e = byte_at form nodes (of_test TestLetter.«V») [] below h in
        let i = inner form nodes (of_test TestLetter.«V») [] h (test_first month a (test_tree month b end)).0 in
        let x = test_found a (test_tree month b end) (at + 1) left i.first g.0 (omega arith) in
        let y = test_found b end (link_at nodes at 3) left (second_at form nodes i (test_first month a (test_tree month b end)).1) g.1 (omega arith) in
        record { is = rw e (ap₂ disjunction x.is y.is); safe = (room form nodes (of_test TestLetter.«V») [] below h, rw e (x.safe, (i.forward, y.safe))) }
    test_found (negation t) r at zero h g d = absurd (omega arith)
    test_found (negation t) r at (suc left) h g d =
        let below = test_tree month t end in
        let e = byte_at form nodes (of_test TestLetter.R) [] below h in
        let x = test_found t end (at + 1) left (laid_child form nodes (of_test TestLetter.R) [] h) g (omega arith) in
        record { is = rw e (ap negation x.is); safe = (room form nodes (of_test TestLetter.R) [] below h, rw e x.safe) }
