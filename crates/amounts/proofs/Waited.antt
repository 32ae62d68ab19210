-- What the answer of a wait tells a caller.
use Prim.Native.Nat.{◌+◌, ◌≤◌, ℕ}
use lib.Dec.{T}
use lib.IntN.{pos, ℤ}
use lib.Signed.{non_neg}
use mathlib.Core.Bool.{Bool}
use mathlib.Core.Path.{◌≡◌, ap, refl}
use native.Mathlib.Omega.{arith}
use Rattle.integers.specs.declared.Month.{Month}
use Rattle.language.proofs.Payments.Tried.{Tries, tried_spec}
use Rattle.language.specs.Payments.Pays.{Tried, hit, miss, tried}
use Rattle.nodes.specs.Table.{nat_of}
use Rattle.amounts.specs.Waits.{wait_of}
use Rattle.amounts.specs.declared.wait.Wait.{Wait}
use Rattle.amounts.specs.declared.wait.Wait.TheVariants.{Held, Missed}

abbrev month_of : Wait → ℤ
month_of (Held m) = m.0
month_of (Missed m) = m.0

-- the wait of d months from month r ended in month m, by a hit or a miss
pub record Ended (how : ℕ → Tried) (t : ℕ → Bool) (d r : ℕ) (m : ℤ) : Type 0 where
  pub is : tried t d r ≡ how (nat_of m)
  pub known : T (non_neg m)
  pub begun : r ≤ nat_of m
  pub within : nat_of m ≤ r + d

module _ (t : ℕ → Bool) (d r : ℕ) (m : Month) where
  pub held_ended : Held m ≡ wait_of (tried t d r) → Ended hit t d r m.0
  unfolding Tries
  held_ended e = go (tried t d r) refl (tried_spec t d r) e
    where
      go : (q : Tried) → tried t d r ≡ q → Tries t r d q → Held m ≡ wait_of q → Ended hit t d r m.0
      go (hit k) eq h e =
          let n : m.0 ≡ pos k = ap month_of e in
          rw n (record { is = eq; known = tt; begun = h.0; within = h.1 })
      go (miss k) eq h e = let z : ◌≡◌ {A = ℕ} 0 1 = cc in absurd (omega arith)

  pub missed_ended : Missed m ≡ wait_of (tried t d r) → Ended miss t d r m.0 × (nat_of m.0 ≡ r + d)
  unfolding Tries
  missed_ended e = go (tried t d r) refl (tried_spec t d r) e
    where
      go : (q : Tried) → tried t d r ≡ q → Tries t r d q → Missed m ≡ wait_of q → Ended miss t d r m.0 × (nat_of m.0 ≡ r + d)
      go (hit k) eq h e = let z : ◌≡◌ {A = ℕ} 0 1 = cc in absurd (omega arith)
      go (miss k) eq h e =
          let n : m.0 ≡ pos k = ap month_of e in
          rw n (record { is = eq; known = tt; begun = omega (arith, h.0); within = omega (arith, h.0) }, h.0)
