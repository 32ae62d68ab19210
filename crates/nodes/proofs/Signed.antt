-- Keys of a `match` on a signed number, and a signed number that is an index.
use Prim.Native.Nat.{◌<◌, ◌^◌, ℕ}
use borrow.Author.Tests.{ne_eqb}
use lib.Dec.{T}
use lib.IntN.{nat_abs, negsuc, pos, ℤ}
use lib.Signed.{non_neg}
use mathlib.Core.Bool.{false}
use mathlib.Core.Path.{◌∙◌, ◌≡◌, ap, refl, subst, sym}
use mir.Facts.{to_z-of_z}
use mir.Syntax.{w64}
use mir.Val.{Fits, SFits, of_z, to_z}
use native.Mathlib.Omega.{arith}
use Rattle.integers.proofs.Bits.{same_bits}
use Rattle.integers.proofs.Locals.{rd}
use Rattle.integers.specs.Equal.{eq_z}
use Rattle.nodes.specs.Table.{nat_of}

-- an arm's key
pub key : {x : ℤ} {n : ℕ} → SFits w64 x → of_z w64 x ≡ n → x ≡ to_z w64 n
key f e = sym (to_z-of_z f) ∙ ap (to_z w64) e

-- a key that was passed by
pub no_key : {x : ℤ} (n : ℕ) → SFits w64 x → SFits w64 (pos n) → (of_z w64 x ≡ n → ⊥) → eq_z x (pos n) ≡ false
no_key {x} n f g h = sym (same_bits x (pos n) f g) ∙ ne_eqb _ _ h

-- a number that is not below 0, cast
nat_of_fits : (x : ℤ) → SFits w64 x → Fits w64 (nat_of x)
nat_of_fits (pos n) f = record { fits = omega (arith, f.sfits) }
nat_of_fits (negsuc n) f = record { fits = omega arith }

pub nat_of_known : (x : ℤ) → T (non_neg x) → nat_abs x ≡ nat_of x
nat_of_known (pos n) h = refl
nat_of_known (negsuc n) h = absurd h

pub index_cast : (x y : ℤ) → SFits w64 x → x ≡ y → T (non_neg y) → T (non_neg (rd x)) × Fits w64 (nat_abs (rd x))
index_cast x y f e h = rw (to_z-of_z f, e) (h, rw (nat_of_known y h) (nat_of_fits y (subst (SFits w64) e f)))

pub index_reads : (x y : ℤ) → SFits w64 x → x ≡ y → T (non_neg y) → nat_abs (rd x) ≡ nat_of y
index_reads x y f e h = rw (to_z-of_z f, e) (nat_of_known y h)

pub nat_of_below : (x : ℤ) → SFits w64 x → nat_of x < 2 ^ 63
nat_of_below (pos n) f = omega (arith, f.sfits)
nat_of_below (negsuc n) f = omega arith
