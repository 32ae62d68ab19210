-- What a number stands for: itself, 11 or 14.
use Prim.Native.Nat.{◌<◌, ◌≤◌, ℕ}
use borrow.Author.Tests.{eq-eqb, le-leb, lt-leb, ne_eqb}
use lib.IntN.{nat_abs, ℤ}
use mathlib.Core.Path.{◌≡◌, refl}
use native.Mathlib.Omega.{arith}
use Rattle.language.specs.Answer.{got, refused}
use Rattle.checked.specs.Coded.{decoded, unread}

module _ (lim : ℕ) (z : ℤ) where
  pub stands_value : nat_abs z ≤ lim → decoded lim z ≡ got z
  unfolding decoded
  stands_value h = rw (le-leb (nat_abs z) lim h) refl

  pub stands_unread : nat_abs z ≡ unread lim → decoded lim z ≡ refused 11
  unfolding decoded
  stands_unread e = rw (lt-leb (nat_abs z) lim (omega (arith, e)), eq-eqb (nat_abs z) (unread lim) e) refl

  pub stands_beyond : lim < nat_abs z → (nat_abs z ≡ unread lim → ⊥) → decoded lim z ≡ refused 14
  unfolding decoded
  stands_beyond h e = rw (lt-leb (nat_abs z) lim h, ne_eqb (nat_abs z) (unread lim) e) refl
