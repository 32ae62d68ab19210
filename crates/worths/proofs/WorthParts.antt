-- The parts of a payoff's node: months waited on the way to them, and where a wait ends.
use Prim.Native.Nat.{◌+◌, ◌-◌, ◌<◌, ◌≤◌, suc, zero, ℕ}
use lib.Dec.{T}
use lib.IntN.{pos, ℤ}
use lib.Signed.{non_neg}
use mathlib.Core.Bool.{Bool, cond, false, true}
use mathlib.Core.List.{List}
use mathlib.Core.Path.{◌≡◌, ap, subst}
use native.Mathlib.Omega.{arith}
use Rattle.checked.specs.Ranges.{Waited}
use Rattle.language.proofs.Payoff.Values.{month_at}
use Rattle.language.specs.Answer.{Answer, ◌>>=◌, got, refused}
use Rattle.language.specs.Limits.{max_months}
use Rattle.language.specs.Payments.Pays.{Tried, hit, miss}
use Rattle.language.specs.Payoff.Evaluate.{checked_tried}
use Rattle.nodes.specs.Table.{nat_of, slot_at}
use Rattle.nodes.specs.declared.PayoffLetter.TheVariants as letter
use Rattle.worths.proofs.WorthNodes.{PayoffNode}
use Rattle.worths.specs.Ranges.{FieldsIn, WaitedAt}
use Rattle.worths.specs.Waits.{WaitsIn}

-- ---- a wait ends at most d months later

same_tried : {u v : Tried} → ◌≡◌ {A = Answer Tried} (got u) (got v) → u ≡ v
same_tried e = cc

none_came : {A : Type 0} {n : ℕ} {v : Tried} → ◌≡◌ {A = Answer Tried} (refused n) (got v) → A
none_came e = let z : ◌≡◌ {A = ℕ} 0 1 = cc in absurd (omega arith)

pub waits_within : (t : ℕ → Answer Bool) (d r : ℕ) (u : Tried) → checked_tried t d r ≡ got u → month_at u ≤ r + d
unfolding checked_tried
waits_within t zero r u e = go (t r) e
  where
    go : (a : Answer Bool) → (a >>= λ b. got (cond b (hit r) (miss r))) ≡ got u → month_at u ≤ r + 0
    go (got true) e = subst (λ v. month_at v ≤ r + 0) (same_tried e) (omega arith)
    go (got false) e = subst (λ v. month_at v ≤ r + 0) (same_tried e) (omega arith)
    go (refused n) e = none_came e
waits_within t (suc d) r u e = go (t r) (λ k. omega (arith, waits_within t d (suc r) u k)) e
  where
    go : (a : Answer Bool) → (checked_tried t d (suc r) ≡ got u → month_at u ≤ r + suc d) → (a >>= λ b. cond b (got (hit r)) (checked_tried t d (suc r))) ≡ got u → month_at u ≤ r + suc d
    go (got true) ih e = subst (λ v. month_at v ≤ r + suc d) (same_tried e) (omega arith)
    go (got false) ih e = ih e
    go (refused n) ih e = none_came e

-- ---- months waited

pub waited : {left : ℕ} {w : ℤ} → WaitedAt left w → Waited w
waited {left} h = record { known = h.known; within = omega (arith, h.within) }

pub same_waited : {left : ℕ} {w : ℤ} → 0 < left → WaitedAt left w → WaitedAt (left - 1) w
same_waited {left} {w} s h = record { known = h.known; within = omega (arith, h.within) }

module _ {nodes : List ℤ} {left at : ℕ} (n : PayoffNode nodes left at letter.Await) where
  short : nat_of (slot_at nodes at 1) ≤ max_months
  unfolding FieldsIn
  short = n.range.0

  module _ {w d : ℤ} (h : WaitedAt left w) (ed : d ≡ pos (nat_of (slot_at nodes at 1))) where
    pub await_months : WaitsIn w d
    await_months = record { first_known = h.known; delay_known = rw ed tt; within = rw ed (omega (arith, h.within, short, n.some)) }

    -- k months waited when a part starts
    pub part_waited : {k : ℤ} → T (non_neg k) → nat_of k ≤ nat_of w + nat_of d → WaitedAt (left - 1) k
    part_waited {k} hk l = record { known = hk; within = omega (arith, h.within, short, n.some, ap nat_of ed) }
