-- An amount or test whose reads lie in the list and whose magnitudes are within the limit can be worked out without checks.
use Prim.Native.Nat.{◌*◌, ◌+◌, ◌<◌, ◌≤◌, max, ℕ}
use lib.Dec.{T}
use lib.IntN.{◌+ℤ◌, nat_abs, pos, ℤ}
use lib.ListN.{get_or, length}
use lib.Signed.{non_neg}
use mathlib.Core.Bool.{Bool, cond, false, true}
use mathlib.Core.List.{List}
use mathlib.Core.Path.{subst}
use native.Mathlib.Nat.{le_refl, le_trans, mul-le-mul}
use native.Mathlib.Omega.{arith}
use Rattle.integers.proofs.Laws.{nat_abs_add, nat_abs_mul, nat_abs_sub}
use Rattle.integers.proofs.Rounding.{nat_abs_floor}
use Rattle.integers.proofs.Solver.{◌⊕◌, ◌⊖◌, lit, ring, var}
use Rattle.integers.specs.Bounded.{Small}
use Rattle.language.specs.Limits.{max_amount, max_back, max_labels, max_months}
use Rattle.language.specs.Payments.Amounts.{holds, value}
use Rattle.language.specs.Rules.Accepted.{every_in_amount, reads_of_amount, reads_of_test, small_amount, small_test}
use Rattle.language.specs.Rules.Measures.{magnitude_of_amount}
use Rattle.language.specs.Text.Form.{fields_of_amount, fields_of_test}
use Rattle.language.specs.Text.Trees.{Amount, Test, choose, conjunction, difference, disjunction, equal, index, less, negation, number, product, quotient, sum}
use Rattle.amounts.specs.Fine.{Fine, FineTest, Reading}
use Rattle.amounts.specs.Flat.{flat}

-- a place that an `O` of label l may read
pub record PlaceIn (values : List ℤ) (bound : ℕ → ℕ) (l : ℕ) (place : ℤ) : Type 0 where
  pub known : T (non_neg place)
  pub inside : nat_abs place < length values
  pub bounded : nat_abs (get_or values (nat_abs place) (pos 0)) ≤ bound l

offset_size : (r : ℕ) (i : ℤ) → nat_abs i ≤ nat_abs (pos r +ℤ i) + r
offset_size r i = subst (λ z. nat_abs z ≤ nat_abs (pos r +ℤ i) + r) (ring (lit r ⊕ var i ⊖ lit r) (var i) (omega arith)) (nat_abs_sub (pos r +ℤ i) (pos r))

-- of a list no longer than a table's values, in a month from 0 to 600
module _ (values : List ℤ) (bound : ℕ → ℕ) (r : ℕ) (short : length values ≤ max_labels * (max_back + max_months + 1)) (early : r ≤ max_months) where
  abbrev worth : Amount ℤ → ℤ
  worth a = value (flat values) a r

  abbrev size : Amount ℤ → ℕ
  size = magnitude_of_amount bound

  chosen : (b : Bool) (x y : ℤ) (m n : ℕ) → nat_abs x ≤ m → nat_abs y ≤ n → nat_abs (cond b x y) ≤ max m n
  chosen true x y m n h k = omega arith
  chosen false x y m n h k = omega arith

  pub value_size : (a : Amount ℤ) → reads_of_amount (PlaceIn values bound) a r → nat_abs (worth a) ≤ size a
  unfolding value magnitude_of_amount reads_of_amount flat
  value_size (number n) h = le_refl (nat_abs n)
  value_size (index l i) h = h.bounded
  value_size (sum a b) h = omega (arith, nat_abs_add (worth a) (worth b), value_size a h.0, value_size b h.1)
  value_size (difference a b) h = omega (arith, nat_abs_sub (worth a) (worth b), value_size a h.0, value_size b h.1)
  value_size (product a b) h = rw (nat_abs_mul (worth a) (worth b)) (mul-le-mul (value_size a h.0) (value_size b h.1))
  value_size (quotient n a) h = le_trans (nat_abs_floor (worth a) n) (value_size a h)
  value_size (choose t a b) h = chosen (holds (flat values) t r) (worth a) (worth b) (size a) (size b) (value_size a h.1) (value_size b h.2)

  reading : (l : ℕ) (i : ℤ) → PlaceIn values bound l (pos r +ℤ i) → Reading values r i
  reading l i h = record { near = record { small = omega (arith, offset_size r i, h.inside) }; known = h.known; inside = h.inside }

  -- a result whose magnitude is within the limit
  small : (a : Amount ℤ) → reads_of_amount (PlaceIn values bound) a r → size a ≤ max_amount → Small (worth a)
  small a h l = record { small = le_trans (value_size a h) l }

  module _ (good : ℤ → Type 0) where
    mutual
      unfolding Fine FineTest value reads_of_amount reads_of_test every_in_amount fields_of_amount fields_of_test magnitude_of_amount

      pub fine : (a : Amount ℤ) → reads_of_amount (PlaceIn values bound) a r → fields_of_amount good a → small_amount bound max_amount a → Fine values r a
      fine (number n) h g m = record { small = g }
      fine (index l i) h g m = reading l i h
      fine (sum a b) h g m = (fine a h.0 g.0 m.0, fine b h.1 g.1 m.1, small (sum a b) h m.2)
      fine (difference a b) h g m = (fine a h.0 g.0 m.0, fine b h.1 g.1 m.1, small (difference a b) h m.2)
      fine (product a b) h g m = (fine a h.0 g.0 m.0, fine b h.1 g.1 m.1, small (product a b) h m.2)
      fine (quotient n a) h g m = (fine a h g.2 m.0, record { some = g.0; small = g.1 })
      fine (choose t a b) h g m = (fine_test t h.0 g.0 m.0, fine a h.1 g.1 m.1, fine b h.2 g.2 m.2)

      pub fine_test : (t : Test ℤ) → reads_of_test (PlaceIn values bound) t r → fields_of_test good t → small_test bound max_amount t → FineTest values r t
      fine_test (less a b) h g m = (fine a h.0 g.0 m.0, fine b h.1 g.1 m.1)
      fine_test (equal a b) h g m = (fine a h.0 g.0 m.0, fine b h.1 g.1 m.1)
      fine_test (conjunction s t) h g m = (fine_test s h.0 g.0 m.0, fine_test t h.1 g.1 m.1)
      fine_test (disjunction s t) h g m = (fine_test s h.0 g.0 m.0, fine_test t h.1 g.1 m.1)
      fine_test (negation t) h g m = fine_test t h g m
