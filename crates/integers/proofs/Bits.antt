-- Two locals hold the same bits exactly where their numbers are equal.
use Prim.Native.Nat.{◌-◌, ◌<◌, suc, ℕ}
use borrow.Author.Tests.{eq-eqb, eqb-false, eqb-true, ne_eqb}
use lib.Dec.{eqb}
use lib.IntN.{negsuc, pos, pos-ne-negsuc, ℤ}
use mathlib.Core.Bool.{Bool, false, true}
use mathlib.Core.Path.{◌∙◌, ◌≡◌, ap, refl, sym}
use mir.Facts.{to_z-of_z}
use mir.Syntax.{w64}
use mir.Val.{SFits, of_z, to_z}
use native.Mathlib.Omega.{arith}
use Rattle.integers.specs.Equal.{eq_z}

sides : (a b : ℤ) → SFits w64 a → SFits w64 b → of_z w64 a ≡ of_z w64 b → a ≡ b
sides a b s t e = sym (to_z-of_z s) ∙ ap (to_z w64) e ∙ to_z-of_z t

-- below zero the bits are those of 2 ^ 64 less the distance
eqb_below : (a b : ℕ) (v : Bool) → a < 9223372036854775808 → b < 9223372036854775808 → eqb a b ≡ v → eqb (18446744073709551616 - suc a) (18446744073709551616 - suc b) ≡ v
eqb_below a b true h l e = eq-eqb (18446744073709551616 - suc a) (18446744073709551616 - suc b) (omega (arith, eqb-true a b e))
eqb_below a b false h l e = ne_eqb (18446744073709551616 - suc a) (18446744073709551616 - suc b) (λ q. eqb-false a b e (omega arith))

pub same_bits : (a b : ℤ) → SFits w64 a → SFits w64 b → eqb (of_z w64 a) (of_z w64 b) ≡ eq_z a b
same_bits (pos a) (pos b) s t = refl
same_bits (pos a) (negsuc b) s t = ne_eqb _ _ (λ e. pos-ne-negsuc a b (sides (pos a) (negsuc b) s t e))
same_bits (negsuc a) (pos b) s t = ne_eqb _ _ (λ e. pos-ne-negsuc b a (sym (sides (negsuc a) (pos b) s t e)))
same_bits (negsuc a) (negsuc b) s t = eqb_below a b (eqb a b) s.sfits t.sfits refl
