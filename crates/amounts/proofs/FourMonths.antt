-- Four months in a row, each by itself.
use Prim.Native.Nat.{◌+◌, ◌<◌, suc, zero, ℕ}
use lib.IntN.{◌+ℤ◌, pos, ℤ}
use mathlib.Core.Path.{◌≡◌}
use native.Mathlib.Omega.{arith}
use Rattle.integers.specs.Bounded.{Small}
use Rattle.nodes.proofs.Signed.{nat_of_known}
use Rattle.nodes.specs.Table.{nat_of}
use Rattle.amounts.proofs.Waiting.{Later, later_is, small_month}
use Rattle.amounts.specs.Fine.{MonthIn}
use Rattle.amounts.specs.FourMonths.{FourIn}

pub each : (P : ℕ → Type 0) → P 0 → P 1 → P 2 → P 3 → (k : ℕ) → k < 4 → P k
each P a b c d zero l = a
each P a b c d (suc zero) l = b
each P a b c d (suc (suc zero)) l = c
each P a b c d (suc (suc (suc zero))) l = d
each P a b c d (suc (suc (suc (suc k)))) l = absurd (omega arith)

pub four_small : (m : ℤ) → FourIn m → Small m
four_small m h = small_month m h.known (omega (arith, h.within))

pub few_small : (k : ℕ) → k < 5 → Small (pos k)
few_small k l = small_month (pos k) tt (omega arith)

-- z is the month k months after m
module _ (m : ℤ) (h : FourIn m) (k : ℕ) (l : k < 4) (z : ℤ) (e : z ≡ m +ℤ pos k) where
  after : Later m (pos k) z
  after = later_is m (pos k) z h.known tt e

  pub four_is : nat_of z ≡ nat_of m + k
  four_is = after.is

  pub four_month : MonthIn z
  four_month = record { known = after.known; within = omega (arith, nat_of_known z after.known, after.is, h.within) }
