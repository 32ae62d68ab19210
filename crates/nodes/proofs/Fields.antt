-- A field that code reads from a row: what stands there, and 0 for one below zero.
use Rattle.integers.proofs.Locals.{rd}
use Rattle.integers.proofs.Tests.{lt_true}
use Rattle.nodes.proofs.Signed.{index_cast, index_reads}
use Rattle.nodes.specs.Table.{nat_of}
use lib.Dec.{T}
use lib.IntN.{nat_abs, negsuc, pos, ℤ}
use lib.Signed.{lt_z, non_neg}
use mathlib.Core.Bool.{false, true, true≢false}
use mathlib.Core.Path.{◌∙◌, ◌≡◌, refl}
use mir.Facts.{to_z-of_z}
use mir.Syntax.{w64}
use mir.Val.{Fits, SFits}
use native.Mathlib.Omega.{arith}

none : (y : ℤ) → lt_z y (pos 0) ≡ true → 0 ≡ nat_of y
none (pos n) e = absurd (omega (arith, lt_true (pos n) (pos 0) e))
none (negsuc n) e = refl

some : (y : ℤ) → lt_z y (pos 0) ≡ false → T (non_neg y)
some (pos n) e = tt
some (negsuc n) e = absurd (true≢false e)

whole : (y : ℤ) → T (non_neg y) → y ≡ pos (nat_of y)
whole (pos n) h = refl
whole (negsuc n) h = absurd h

-- x is a local that reads the field y
module _ {x y : ℤ} (f : SFits w64 x) (e : x ≡ y) where
  pub field_reads : rd x ≡ y
  field_reads = to_z-of_z f ∙ e

  pub field_below : lt_z (rd x) (pos 0) ≡ true → 0 ≡ nat_of y
  field_below t = none y (rw field_reads at t)

  above : lt_z (rd x) (pos 0) ≡ false → T (non_neg y)
  above t = some y (rw field_reads at t)

  pub field_whole : lt_z (rd x) (pos 0) ≡ false → rd x ≡ pos (nat_of y)
  field_whole t = field_reads ∙ whole y (above t)

  pub field_cast : lt_z (rd x) (pos 0) ≡ false → T (non_neg (rd x)) × Fits w64 (nat_abs (rd x))
  field_cast t = index_cast x y f e (above t)

  pub field_index : lt_z (rd x) (pos 0) ≡ false → nat_abs (rd x) ≡ nat_of y
  field_index t = index_reads x y f e (above t)
