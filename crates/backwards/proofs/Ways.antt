-- Rows of amounts passed from the last to the first, and what then holds of the values that wait.
use Prim.Native.Nat.{◌+◌, ◌-◌, ◌<◌, ◌≤◌, suc, zero, ℕ}
use Rattle.amounts.specs.Fine.{Divides}
use Rattle.integers.specs.Rounding.{floor_z}
use Rattle.language.specs.Answer.{Answer, got, refused}
use Rattle.language.specs.Text.Trees.{Amount, Test, choose, conjunction, difference, disjunction, equal, index, less, negation, number, product, quotient, sum}
use Rattle.nodes.proofs.TestLetters.{test_no_amount}
use Rattle.nodes.specs.Blocks.{AmountBlock, TestBlock, amount_block, test_block}
use Rattle.nodes.specs.Found.{amount_at, amount_by, offset_of, test_at, test_by}
use Rattle.nodes.specs.Letters.{letter_of_amount, letter_of_test}
use Rattle.nodes.specs.Table.{link_at, nat_of, slot_at}
use Rattle.nodes.specs.declared.AmountLetter.TheVariants as amount
use Rattle.nodes.specs.declared.AmountLetter.{AmountLetter}
use Rattle.nodes.specs.declared.TestLetter.TheVariants as test
use Rattle.nodes.specs.declared.TestLetter.{TestLetter}
use lib.IntN.{◌*ℤ◌, ◌+ℤ◌, ◌-ℤ◌, ℤ}
use mathlib.Core.List.{List, [], ◌∷◌}
use mathlib.Core.Path.{◌≡◌, refl, subst}
use native.Mathlib.Omega.{arith}

-- P holds of the value that comes, if one does
abbrev pub taken : Answer ℤ → (ℤ → Type 0) → Type 0
taken (got z) P = P z
taken (refused k) P = Unit {0}

pub taken_more : {P Q : ℤ → Type 0} (a : Answer ℤ) → ((z : ℤ) → P z → Q z) → taken a P → taken a Q
taken_more (got z) f h = f z h
taken_more (refused k) f h = tt

taken_all : {P : ℤ → Type 0} (a : Answer ℤ) → ((z : ℤ) → P z) → taken a P
taken_all (got z) f = f z
taken_all (refused k) f = tt

-- what a way back relies on where P is to hold of the value of an `O`, by its label and month, or of what two values make
pub record Way : Type 1 where
  pub reads : ℤ → ℤ → (ℤ → Type 0) → Type 0
  pub joins : (ℤ → ℤ → ℤ) → ℤ → ℤ → (ℤ → Type 0) → Type 0
  pub reads_more : {P Q : ℤ → Type 0} (l i : ℤ) → ((z : ℤ) → P z → Q z) → reads l i P → reads l i Q
  pub joins_more : {P Q : ℤ → Type 0} (op : ℤ → ℤ → ℤ) (x y : ℤ) → ((z : ℤ) → P z → Q z) → joins op x y P → joins op x y Q

-- P holds of the values that wait, the newest first, once the two newest have become one
abbrev pub joined : Way → (ℤ → ℤ → ℤ) → (List ℤ → Type 0) → List ℤ → Type 0
joined w op P [] = ⊥
joined w op P (x ∷ []) = ⊥
joined w op P (x ∷ y ∷ s) = w.joins op x y (λ z. P (z ∷ s))

-- once the newest is divided
abbrev pub divided : ℕ → (List ℤ → Type 0) → List ℤ → Type 0
divided n P [] = ⊥
divided n P (x ∷ s) = Divides n × P (floor_z x n ∷ s)

module _ (w : Way) where
  -- once a row of this letter, with these numbers, is passed; a letter at which the way back gives up leaves nothing to hold
  abbrev pub letter_passed : AmountLetter → ℤ → ℤ → (List ℤ → Type 0) → List ℤ → Type 0
  letter_passed amount.Number n i P s = P (n ∷ s)
  letter_passed amount.Index n i P s = w.reads n i (λ z. P (z ∷ s))
  letter_passed amount.Sum n i P s = joined w ◌+ℤ◌ P s
  letter_passed amount.Difference n i P s = joined w ◌-ℤ◌ P s
  letter_passed amount.Product n i P s = joined w ◌*ℤ◌ P s
  letter_passed amount.Quotient n i P s = divided (nat_of n) P s
  letter_passed amount.Choose n i P s = Unit {0}
  letter_passed amount.NoAmount n i P s = Unit {0}

  joined_more : {P Q : List ℤ → Type 0} (op : ℤ → ℤ → ℤ) → ((s : List ℤ) → P s → Q s) → (s : List ℤ) → joined w op P s → joined w op Q s
  joined_more op f [] h = absurd h
  joined_more op f (x ∷ []) h = absurd h
  joined_more op f (x ∷ y ∷ s) h = w.joins_more op x y (λ z k. f (z ∷ s) k) h

  divided_more : {P Q : List ℤ → Type 0} (n : ℕ) → ((s : List ℤ) → P s → Q s) → (s : List ℤ) → divided n P s → divided n Q s
  divided_more n f [] h = absurd h
  divided_more n f (x ∷ s) h = (h.0, f (floor_z x n ∷ s) h.1)

  letter_more : {P Q : List ℤ → Type 0} (m : AmountLetter) (n i : ℤ) → ((s : List ℤ) → P s → Q s) → (s : List ℤ) → letter_passed m n i P s → letter_passed m n i Q s
  letter_more amount.Number n i f s h = f (n ∷ s) h
  letter_more amount.Index n i f s h = w.reads_more n i (λ z k. f (z ∷ s) k) h
  letter_more amount.Sum n i f s h = joined_more ◌+ℤ◌ f s h
  letter_more amount.Difference n i f s h = joined_more ◌-ℤ◌ f s h
  letter_more amount.Product n i f s h = joined_more ◌*ℤ◌ f s h
  letter_more amount.Quotient n i f s h = divided_more (nat_of n) f s h
  letter_more amount.Choose n i f s h = tt
  letter_more amount.NoAmount n i f s h = tt

  module _ (nodes : List ℤ) where
    abbrev pub row_passed : ℕ → (List ℤ → Type 0) → List ℤ → Type 0
    row_passed at P s = letter_passed (letter_of_amount (slot_at nodes at 0)) (slot_at nodes at 1) (slot_at nodes at 2) P s

    -- once n rows from one on are passed, the last first
    unfoldable pub rows_passed : ℕ → ℕ → (List ℤ → Type 0) → List ℤ → Type 0
    rows_passed zero from P s = P s
    rows_passed (suc n) from P s = row_passed (from + n) (λ t. rows_passed n from P t) s

    abbrev pub between : ℕ → ℕ → (List ℤ → Type 0) → List ℤ → Type 0
    between from to P s = rows_passed (to - from) from P s

    rows_more : {P Q : List ℤ → Type 0} (n from : ℕ) → ((s : List ℤ) → P s → Q s) → (s : List ℤ) → rows_passed n from P s → rows_passed n from Q s
    unfolding rows_passed
    rows_more zero from f s h = f s h
    rows_more (suc n) from f s h =
        letter_more (letter_of_amount (slot_at nodes (from + n) 0)) (slot_at nodes (from + n) 1) (slot_at nodes (from + n) 2) (λ t g. rows_more n from f t g) s h

    joins : (m n from : ℕ) (P : List ℤ → Type 0) (s : List ℤ) → rows_passed n (from + m) (λ t. rows_passed m from P t) s → rows_passed (m + n) from P s
    unfolding rows_passed
    joins m zero from P s h =
        let a : m + 0 ≡ m = omega arith in
        rw a h
    joins m (suc n) from P s h =
        let a : m + suc n ≡ suc (m + n) = omega arith in
        let b : from + (m + n) ≡ from + m + n = omega arith in
        rw (a, b) (letter_more (letter_of_amount (slot_at nodes (from + m + n) 0)) (slot_at nodes (from + m + n) 1) (slot_at nodes (from + m + n) 2) (λ t g. joins m n from P t g) s h)

    parts : (from mid to : ℕ) → from ≤ mid → mid ≤ to → (P : List ℤ → Type 0) (s : List ℤ) → between mid to (λ t. between from mid P t) s → between from to P s
    parts from mid to h k P s g =
        let a : to - from ≡ (mid - from) + (to - mid) = omega arith in
        let b : mid ≡ from + (mid - from) = omega arith in
        rw a (joins (mid - from) (to - mid) from P s (subst (λ p. rows_passed (to - mid) p (λ t. between from mid P t) s) b g))

    -- the rows leave the value that a answers; where it refuses, the way back gives up
    pub record Leaves (from to : ℕ) (a : Answer ℤ) : Type 1 where
      pub some : from < to
      pub leaves : (P : List ℤ → Type 0) (s : List ℤ) → taken a (λ z. P (z ∷ s)) → between from to P s

    -- at one of the rows the way back gives up
    pub record Stops (from to : ℕ) : Type 1 where
      pub some : from < to
      pub stops : (P : List ℤ → Type 0) (s : List ℤ) → between from to P s

    -- a row of its own; a row with one part behind it, and with two
    pub one : (from : ℕ) (P : List ℤ → Type 0) (s : List ℤ) → row_passed from P s → between from (from + 1) P s
    unfolding rows_passed
    one from P s h =
        let a : from + 1 - from ≡ suc zero = omega arith in
        let b : from + 0 ≡ from = omega arith in
        rw (a, b) h

    pub below : (from to : ℕ) → from < to → (P : List ℤ → Type 0) (s : List ℤ) → between (from + 1) to (λ t. row_passed from P t) s → between from to P s
    below from to h P s g =
        parts from (from + 1) to (omega arith) (omega arith) P s (rows_more (to - (from + 1)) (from + 1) (λ t k. one from P t k) s g)

    -- a row at which the way back gives up
    row_stops : (at : ℕ) → letter_of_amount (slot_at nodes at 0) ≡ amount.NoAmount → (P : List ℤ → Type 0) (s : List ℤ) → row_passed at P s
    row_stops at e P s = rw e tt

    module _ (from mid to : ℕ) (P : List ℤ → Type 0) (s : List ℤ) where
      pub two : {x y : Answer ℤ} → Leaves (from + 1) mid x → Leaves mid to y → taken y (λ b. taken x (λ a. row_passed from P (a ∷ b ∷ s))) → between from to P s
      two {x} {y} f g h = below from to (omega (arith, f.some, g.some)) P s (parts (from + 1) mid to (omega (arith, f.some)) (omega (arith, g.some)) (λ t. row_passed from P t) s
          (g.leaves (λ t. between (from + 1) mid (λ u. row_passed from P u) t) s (taken_more y (λ b k. f.leaves (λ t. row_passed from P t) (b ∷ s) k) h)))

      -- behind a test of two amounts
      pub two_stop : {x y : Answer ℤ} → Leaves (from + 1) mid x → Leaves mid to y → letter_of_amount (slot_at nodes from 0) ≡ amount.NoAmount → between from to P s
      two_stop {x} {y} f g e = two f g (taken_all y (λ b. taken_all x (λ a. row_stops from e P (a ∷ b ∷ s))))

      -- the second part is not reached
      pub second_stops : (from + 1) < mid → Stops mid to → between from to P s
      second_stops h g = below from to (omega (arith, g.some)) P s (parts (from + 1) mid to (omega arith) (omega (arith, g.some)) (λ t. row_passed from P t) s
          (g.stops (λ t. between (from + 1) mid (λ u. row_passed from P u) t) s))

    -- behind an `I` stands a test
    pub choice_stops : (from m n to : ℕ) (P : List ℤ → Type 0) (s : List ℤ) {x y : Answer ℤ} → Stops (from + 1) m → Leaves m n x → Leaves n to y → between from to P s
    choice_stops from m n to P s {x} {y} t f g =
        below from to (omega (arith, t.some, f.some, g.some)) P s
        (parts (from + 1) m to (omega (arith, t.some)) (omega (arith, f.some, g.some)) (λ u. row_passed from P u) s
        (parts m n to (omega (arith, f.some)) (omega (arith, g.some)) (λ u. between (from + 1) m (λ v. row_passed from P v) u) s
        (g.leaves (λ u. between m n (λ v. between (from + 1) m (λ z. row_passed from P z) v) u) s
        (taken_all y (λ b. f.leaves (λ u. between (from + 1) m (λ v. row_passed from P v) u) (b ∷ s)
        (taken_all x (λ a. t.stops (λ u. row_passed from P u) (a ∷ b ∷ s))))))))

-- what amounts are worth on this way: each letter's value is come by from those of its parts
pub record Values (w : Way) : Type 1 where
  pub Good : Amount ℤ → Type 0
  pub GoodTest : Test ℤ → Type 0
  pub worth : Amount ℤ → Answer ℤ
  pub of_number : (n : ℤ) (P : ℤ → Type 0) → Good (number n) → taken (worth (number n)) P → P n
  pub of_index : (l i : ℤ) (P : ℤ → Type 0) → Good (index (nat_of l) i) → taken (worth (index (nat_of l) i)) P → w.reads l i P
  pub of_sum : (a b : Amount ℤ) (P : ℤ → Type 0) → Good (sum a b) → taken (worth (sum a b)) P → taken (worth b) (λ y. taken (worth a) (λ x. w.joins ◌+ℤ◌ x y P))
  pub of_difference : (a b : Amount ℤ) (P : ℤ → Type 0) → Good (difference a b) → taken (worth (difference a b)) P → taken (worth b) (λ y. taken (worth a) (λ x. w.joins ◌-ℤ◌ x y P))
  pub of_product : (a b : Amount ℤ) (P : ℤ → Type 0) → Good (product a b) → taken (worth (product a b)) P → taken (worth b) (λ y. taken (worth a) (λ x. w.joins ◌*ℤ◌ x y P))
  pub of_quotient : (n : ℕ) (a : Amount ℤ) (P : ℤ → Type 0) → Good (quotient n a) → taken (worth (quotient n a)) P → taken (worth a) (λ x. Divides n × P (floor_z x n))
  pub in_sum : (a b : Amount ℤ) → Good (sum a b) → Good a × Good b
  pub in_difference : (a b : Amount ℤ) → Good (difference a b) → Good a × Good b
  pub in_product : (a b : Amount ℤ) → Good (product a b) → Good a × Good b
  pub in_quotient : (n : ℕ) (a : Amount ℤ) → Good (quotient n a) → Good a
  pub in_choice : (t : Test ℤ) (a b : Amount ℤ) → Good (choose t a b) → GoodTest t × Good a × Good b
  pub in_less : (a b : Amount ℤ) → GoodTest (less a b) → Good a × Good b
  pub in_equal : (a b : Amount ℤ) → GoodTest (equal a b) → Good a × Good b
  pub in_conjunction : (s t : Test ℤ) → GoodTest (conjunction s t) → GoodTest s × GoodTest t
  pub in_disjunction : (s t : Test ℤ) → GoodTest (disjunction s t) → GoodTest s × GoodTest t
  pub in_negation : (t : Test ℤ) → GoodTest (negation t) → GoodTest t

module _ {w : Way} (v : Values w) (nodes : List ℤ) where
  abbrev Left : ℕ → ℕ → Amount ℤ → Type 1
  Left from to a = Leaves w nodes from to (v.worth a)

  abbrev Halts : ℕ → ℕ → Type 1
  Halts from to = Stops w nodes from to

  -- one level up
  module _ (left : ℕ)
      (amounts : (from to : ℕ) → AmountBlock left nodes from to → v.Good (amount_at offset_of left nodes from) → Left from to (amount_at offset_of left nodes from))
      (tests : (from to : ℕ) → TestBlock left nodes from to → v.GoodTest (test_at offset_of left nodes from) → Halts from to) where
    abbrev under : ℕ → Amount ℤ
    under p = amount_at offset_of left nodes p

    abbrev tried : ℕ → Test ℤ
    tried p = test_at offset_of left nodes p

    abbrev here : ℕ → AmountLetter → Amount ℤ
    here from m = amount_by m (slot_at nodes from 1) (slot_at nodes from 2) (tried (from + 1)) (under (from + 1)) (under (link_at nodes from 3)) (under (link_at nodes from 4))

    amount_by_lem : (from to : ℕ) (m : AmountLetter) → letter_of_amount (slot_at nodes from 0) ≡ m
        → amount_block m (λ p q. AmountBlock left nodes p q) (λ p q. TestBlock left nodes p q) from (link_at nodes from 3) (link_at nodes from 4) to
        → v.Good (here from m) → Left from to (here from m)
    amount_by_lem from to amount.Number e b f =
        record { some = omega arith; leaves = λ P s h. rw b (one w nodes from P s (rw e (v.of_number (slot_at nodes from 1) (λ z. P (z ∷ s)) f h))) }
    amount_by_lem from to amount.Index e b f =
        record { some = omega arith; leaves = λ P s h. rw b (one w nodes from P s (rw e (v.of_index (slot_at nodes from 1) (slot_at nodes from 2) (λ z. P (z ∷ s)) f h))) }
    amount_by_lem from to amount.Sum e b f =
        let g = v.in_sum (under (from + 1)) (under (link_at nodes from 3)) f in
        let x = amounts (from + 1) (link_at nodes from 3) b.0 g.0 in
        let y = amounts (link_at nodes from 3) to b.1 g.1 in
        record {
          some = omega (arith, x.some, y.some);
          leaves = λ P s h. two w nodes from (link_at nodes from 3) to P s x y (rw e (v.of_sum (under (from + 1)) (under (link_at nodes from 3)) (λ z. P (z ∷ s)) f h));
        }
    amount_by_lem from to amount.Difference e b f =
        let g = v.in_difference (under (from + 1)) (under (link_at nodes from 3)) f in
        let x = amounts (from + 1) (link_at nodes from 3) b.0 g.0 in
        let y = amounts (link_at nodes from 3) to b.1 g.1 in
        record {
          some = omega (arith, x.some, y.some);
          leaves = λ P s h. two w nodes from (link_at nodes from 3) to P s x y (rw e (v.of_difference (under (from + 1)) (under (link_at nodes from 3)) (λ z. P (z ∷ s)) f h));
        }
    amount_by_lem from to amount.Product e b f =
        let g = v.in_product (under (from + 1)) (under (link_at nodes from 3)) f in
        let x = amounts (from + 1) (link_at nodes from 3) b.0 g.0 in
        let y = amounts (link_at nodes from 3) to b.1 g.1 in
        record {
          some = omega (arith, x.some, y.some);
          leaves = λ P s h. two w nodes from (link_at nodes from 3) to P s x y (rw e (v.of_product (under (from + 1)) (under (link_at nodes from 3)) (λ z. P (z ∷ s)) f h));
        }
    amount_by_lem from to amount.Quotient e b f =
        let n = nat_of (slot_at nodes from 1) in
        let x = amounts (from + 1) to b (v.in_quotient n (under (from + 1)) f) in
        record {
          some = omega (arith, x.some);
          leaves = λ P s h. below w nodes from to (omega (arith, x.some)) P s
              (x.leaves (λ t. row_passed w nodes from P t) s (rw e (v.of_quotient n (under (from + 1)) (λ z. P (z ∷ s)) f h)));
        }
    amount_by_lem from to amount.Choose e b f =
        let g = v.in_choice (tried (from + 1)) (under (link_at nodes from 3)) (under (link_at nodes from 4)) f in
        let t = tests (from + 1) (link_at nodes from 3) b.0 g.0 in
        let x = amounts (link_at nodes from 3) (link_at nodes from 4) b.1 g.1 in
        let y = amounts (link_at nodes from 4) to b.2 g.2 in
        record { some = omega (arith, t.some, x.some, y.some); leaves = λ P s h. choice_stops w nodes from (link_at nodes from 3) (link_at nodes from 4) to P s t x y }
    amount_by_lem from to amount.NoAmount e b f = absurd b

    test_by_lem : (from to : ℕ) (m : TestLetter) → letter_of_test (slot_at nodes from 0) ≡ m
        → test_block m (λ p q. AmountBlock left nodes p q) (λ p q. TestBlock left nodes p q) from (link_at nodes from 3) to
        → v.GoodTest (test_by m (under (from + 1)) (under (link_at nodes from 3)) (tried (from + 1)) (tried (link_at nodes from 3)))
        → Halts from to
    test_by_lem from to test.Less e b f =
        let g = v.in_less (under (from + 1)) (under (link_at nodes from 3)) f in
        let x = amounts (from + 1) (link_at nodes from 3) b.0 g.0 in
        let y = amounts (link_at nodes from 3) to b.1 g.1 in
        record { some = omega (arith, x.some, y.some); stops = λ P s. two_stop w nodes from (link_at nodes from 3) to P s x y (test_no_amount _ e refl) }
    test_by_lem from to test.Equal e b f =
        let g = v.in_equal (under (from + 1)) (under (link_at nodes from 3)) f in
        let x = amounts (from + 1) (link_at nodes from 3) b.0 g.0 in
        let y = amounts (link_at nodes from 3) to b.1 g.1 in
        record { some = omega (arith, x.some, y.some); stops = λ P s. two_stop w nodes from (link_at nodes from 3) to P s x y (test_no_amount _ e refl) }
    test_by_lem from to test.Conjunction e b f =
        let g = v.in_conjunction (tried (from + 1)) (tried (link_at nodes from 3)) f in
        let x = tests (from + 1) (link_at nodes from 3) b.0 g.0 in
        let y = tests (link_at nodes from 3) to b.1 g.1 in
        record { some = omega (arith, x.some, y.some); stops = λ P s. second_stops w nodes from (link_at nodes from 3) to P s x.some y }
    test_by_lem from to test.Disjunction e b f =
        let g = v.in_disjunction (tried (from + 1)) (tried (link_at nodes from 3)) f in
        let x = tests (from + 1) (link_at nodes from 3) b.0 g.0 in
        let y = tests (link_at nodes from 3) to b.1 g.1 in
        record { some = omega (arith, x.some, y.some); stops = λ P s. second_stops w nodes from (link_at nodes from 3) to P s x.some y }
    test_by_lem from to test.Negation e b f =
        let x = tests (from + 1) to b (v.in_negation (tried (from + 1)) f) in
        record { some = omega (arith, x.some); stops = λ P s. below w nodes from to (omega (arith, x.some)) P s (x.stops (λ t. row_passed w nodes from P t) s) }
    test_by_lem from to test.NoTest e b f = absurd b

  mutual
    unfolding AmountBlock TestBlock amount_at test_at

    pub amount_leaves : (left from to : ℕ) → AmountBlock left nodes from to → v.Good (amount_at offset_of left nodes from) → Left from to (amount_at offset_of left nodes from)
    amount_leaves zero from to b f = absurd b
    amount_leaves (suc left) from to b f =
        amount_by_lem left (λ p q c g. amount_leaves left p q c g) (λ p q c g. test_stops left p q c g) from to (letter_of_amount (slot_at nodes from 0)) refl b f

    test_stops : (left from to : ℕ) → TestBlock left nodes from to → v.GoodTest (test_at offset_of left nodes from) → Halts from to
    test_stops zero from to b f = absurd b
    test_stops (suc left) from to b f =
        test_by_lem left (λ p q c g. amount_leaves left p q c g) (λ p q c g. test_stops left p q c g) from to (letter_of_test (slot_at nodes from 0)) refl b f
