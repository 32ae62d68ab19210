-- What a signed local reads back, and an operation on two of them.
use Prim.Native.Nat.{◌+◌}
use lib.IntN.{◌+ℤ◌, ◌-ℤ◌, ℤ}
use mathlib.Core.Path.{◌≡◌}
use mir.Facts.{to_z-of_z}
use mir.Syntax.{w64}
use mir.Val.{SFits, of_z, to_z}
use native.Mathlib.Omega.{arith}
use Rattle.integers.proofs.Laws.{nat_abs_add, nat_abs_sub, sfits64}
use Rattle.integers.specs.Bounded.{Small, SmallValue, amount_limit, value_limit}

-- a number as a local holds it, read back
abbrev pub rd : ℤ → ℤ
rd z = to_z w64 (of_z w64 z)

pub small_fits : {z : ℤ} → Small z → SFits w64 z
small_fits s = sfits64 amount_limit s.small tt

pub value_fits : {z : ℤ} → SmallValue z → SFits w64 z
value_fits s = sfits64 value_limit s.small tt

pub sum_fits : {a b : ℤ} → Small a → Small b → SFits w64 (a +ℤ b)
sum_fits {a} {b} s t = sfits64 (amount_limit + amount_limit) (omega (arith, nat_abs_add a b, s.small, t.small)) tt

pub difference_fits : {a b : ℤ} → Small a → Small b → SFits w64 (a -ℤ b)
difference_fits {a} {b} s t = sfits64 (amount_limit + amount_limit) (omega (arith, nat_abs_sub a b, s.small, t.small)) tt

-- a sum, a difference or a product that fits
module _ (op : ℤ → ℤ → ℤ) {a b : ℤ} (f : SFits w64 a) (g : SFits w64 b) (h : SFits w64 (op a b)) where
  pub op_fits : SFits w64 (op (rd a) (rd b))
  op_fits = rw (to_z-of_z f, to_z-of_z g) h

  pub op_reads : rd (op (rd a) (rd b)) ≡ op a b
  op_reads = rw (to_z-of_z f, to_z-of_z g) (to_z-of_z h)
