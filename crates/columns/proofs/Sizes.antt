-- A plan that is sized pays no more than its magnitude.
use Prim.Native.Nat.{◌+◌, ◌*◌, ◌≤◌, max, ℕ}
use lib.Dec.{eqb}
use lib.IntN.{◌*ℤ◌, ◌+ℤ◌, nat_abs, pos, ℤ}
use mathlib.Core.Bool.{Bool, cond, false, true}
use mathlib.Core.List.{List}
use mathlib.Core.Path.{◌≡◌, refl, subst}
use native.Mathlib.Nat.{le-max_left, le-max_right, le_trans, mul-le-mul}
use native.Mathlib.Omega.{arith}
use Rattle.amounts.specs.Flat.{flat}
use Rattle.columns.specs.Column.{Sized}
use Rattle.integers.proofs.Laws.{nat_abs_add, nat_abs_mul}
use Rattle.language.specs.Payments.Amounts.{holds, value}
use Rattle.language.specs.Payments.Pays.{Sign, Tried, hit, miss, pays, started, tried}
use Rattle.language.specs.Rules.Measures.{magnitude_of}
use Rattle.language.specs.Text.Trees.{Plan, both, later, nothing, scale, transfer, within}

module _ (values : List ℤ) (bound : ℕ → ℕ) (sg : Sign) (unit : (p q : ℕ) → nat_abs (sg p q) ≤ 1) (m : ℕ) where
  one_month : (s : ℤ) (b : Bool) → nat_abs s ≤ 1 → nat_abs (cond b s (pos 0)) ≤ 1
  one_month s true h = h
  one_month s false h = omega arith

  pub sized_pays : (x : Plan ℕ) (r : ℕ) → Sized values bound x r → nat_abs (pays (flat values) sg x r m) ≤ magnitude_of bound x
  unfolding pays magnitude_of Sized
  sized_pays nothing r h = omega arith
  sized_pays (transfer p q) r h = one_month (sg p q) (eqb r m) (unit p q)
  sized_pays (scale a x) r h = rw nat_abs_mul (mul-le-mul h.2 (sized_pays x r h.3))
  sized_pays (later d x) r h = sized_pays x (r + d) h.1
  sized_pays (both x y) r h = omega (arith, nat_abs_add (pays (flat values) sg x r m) (pays (flat values) sg y r m), sized_pays x r h.0, sized_pays y r h.1)
  sized_pays (within d t x y) r h = go (tried (holds (flat values) t) d r) h.2 (λ k. sized_pays x k) (λ k. sized_pays y k)
    where
      go : (t : Tried) → started (λ k. Sized values bound x k) (λ k. Sized values bound y k) t
          → ((k : ℕ) → Sized values bound x k → nat_abs (pays (flat values) sg x k m) ≤ magnitude_of bound x)
          → ((k : ℕ) → Sized values bound y k → nat_abs (pays (flat values) sg y k m) ≤ magnitude_of bound y)
          → nat_abs (started (λ k. pays (flat values) sg x k m) (λ k. pays (flat values) sg y k m) t) ≤ max (magnitude_of bound x) (magnitude_of bound y)
      go (hit k) s f g = le_trans (f k s) (le-max_left (magnitude_of bound x) (magnitude_of bound y))
      go (miss k) s f g = le_trans (g k s) (le-max_right (magnitude_of bound x) (magnitude_of bound y))
