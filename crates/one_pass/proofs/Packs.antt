-- Numbers that tell what was read: two of them joined.
use Prim.Native.Nat.{◌≤◌, ℕ}
use borrow.Author.Tests.{le-leb, leb-true}
use lib.Dec.{leb}
use mathlib.Core.Bool.{Bool, ◌&&◌, false, true}
use mathlib.Core.Path.{◌∙◌, ◌≡◌, ap₂, refl, sym}
use native.Mathlib.Omega.{arith}
use Rattle.language.proofs.Truth.{and_e}
use Rattle.language.specs.Limits.{max_amount}
use Rattle.measures.specs.Magnitudes.{joined, measured}
use Rattle.one_pass.specs.Packed.{Both, JoinedTo, Kept, behind, magnitude_in, months_in}

-- what the code asks for
pub is_kept : (r : ℕ) {b : Bool} → b ≡ leb (magnitude_in r) max_amount → b ≡ true → Kept r
is_kept r e t = leb-true _ _ (sym e ∙ t)

pub both_kept : (x y : ℕ) {p q : Bool} → p ≡ leb (magnitude_in x) max_amount → q ≡ leb (magnitude_in y) max_amount → (p && q) ≡ true → Kept x × Kept y
both_kept x y {p} {q} ep eq t = let b = and_e p q t in (is_kept x ep b.0, is_kept y eq b.1)

-- the same magnitude and months, otherwise written
pub both_as : {m n k l x y r : ℕ} → Both m n x y r → m ≡ k → n ≡ l → Both k l x y r
both_as b em en = record {
  first = b.first;
  second = b.second;
  packed = record { magnitude = b.packed.magnitude ∙ em; months = b.packed.months ∙ en; place = b.packed.place };
}

-- a magnitude that is joined within the limit
pub as_joined : (op : ℕ → ℕ → ℕ) (x y : ℕ) {m n k l r : ℕ} → Kept r → Both m n x y r → m ≡ joined op k l → k ≡ magnitude_in x → l ≡ magnitude_in y → m ≡ op (magnitude_in x) (magnitude_in y)
unfolding joined
as_joined op x y {r = r} kept b em ek el = em ∙ rw (ek, el, le-leb (magnitude_in x) max_amount b.first, le-leb (magnitude_in y) max_amount b.second) (by (leb (op (magnitude_in x) (magnitude_in y)) max_amount) refl)
  where
    by : (t : Bool) → leb (op (magnitude_in x) (magnitude_in y)) max_amount ≡ t → measured t (op (magnitude_in x) (magnitude_in y)) ≡ op (magnitude_in x) (magnitude_in y)
    by true e = refl
    by false e = absurd (omega (arith, kept, b.packed.magnitude, em ∙ ap₂ (joined op) ek el ∙ beyond e))
      where
        beyond : leb (op (magnitude_in x) (magnitude_in y)) max_amount ≡ false → joined op (magnitude_in x) (magnitude_in y) ≡ 9000000000001
        beyond e = rw (le-leb (magnitude_in x) max_amount b.first, le-leb (magnitude_in y) max_amount b.second, e) refl
