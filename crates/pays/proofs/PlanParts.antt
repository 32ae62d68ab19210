-- What each letter tells of a plan's parts: they stand in the table and can be worked out, in the months in which they are.
use Prim.Native.Nat.{◌+◌, ◌-◌, ◌≤◌, ℕ}
use lib.Dec.{T}
use lib.IntN.{◌*ℤ◌, ◌+ℤ◌, pos, ℤ}
use lib.Signed.{non_neg}
use mathlib.Core.Bool.{Bool}
use mathlib.Core.List.{List}
use mathlib.Core.Path.{◌∙◌, ◌≡◌, ap, ap₂, subst}
use native.Mathlib.Omega.{arith}
use Rattle.amounts.proofs.RowReads.{month_is}
use Rattle.amounts.proofs.Waited.{held_ended, missed_ended}
use Rattle.amounts.specs.Fine.{Fine, MonthIn}
use Rattle.amounts.specs.Flat.{flat}
use Rattle.amounts.specs.Waits.{FineMonths, MonthsIn, wait_of}
use Rattle.amounts.specs.declared.wait.Wait.TheVariants.{Held, Missed}
use Rattle.integers.specs.Bounded.{Small}
use Rattle.integers.specs.declared.Month.{Month}
use Rattle.language.specs.Limits.{max_months, max_nodes}
use Rattle.language.specs.Payments.Amounts.{holds, value}
use Rattle.language.specs.Payments.Pays.{Sign, Tried, hit, miss, pays, started, tried}
use Rattle.nodes.proofs.Signed.{nat_of_known}
use Rattle.nodes.specs.Found.{amount_at, offset_of, plan_at, test_at}
use Rattle.nodes.specs.Stands.{AmountStands, Forward, PlanStands, TestStands}
use Rattle.nodes.specs.Table.{link_at, nat_of, slot_at}
use Rattle.nodes.specs.declared.PlanLetter.TheVariants as letter
use Rattle.pays.proofs.PlanNodes.{PlanNode}
use Rattle.pays.specs.FinePlan.{FinePlan}

-- ---- months

-- a month from 0 to 600 can be added
pub month_small : {z : ℤ} → MonthIn z → Small z
month_small h = record { small = omega (arith, h.within) }

-- a delay that leads from month r to one of them
pub delay_small : {z : ℤ} (r : ℕ) {d : ℕ} → z ≡ pos d → r + d ≤ max_months → Small z
delay_small r e h = rw e (record { small = omega arith })

pub month_in_lem : (z : ℤ) → T (non_neg z) → nat_of z ≤ max_months → MonthIn z
month_in_lem z h l = record { known = h; within = omega (arith, nat_of_known z h, l) }

-- the month d months after the month z
pub later_is : {z d n : ℤ} {k : ℕ} → MonthIn z → d ≡ pos k → n ≡ z +ℤ d → n ≡ pos (nat_of z + k)
later_is {z} {d} {n} {k} h ed en = en ∙ ap₂ ◌+ℤ◌ (month_is z h.known) ed

-- ---- the part at node p, its root in month k
module _ (values nodes : List ℤ) (sg : Sign) (m left p k : ℕ) where
  abbrev pub Walks : Type 0
  Walks = PlanStands (left - 1) nodes p × FinePlan values sg (plan_at nat_of (left - 1) nodes p) k m

  abbrev pub paid : ℤ
  paid = pays (flat values) sg (plan_at nat_of (left - 1) nodes p) k m

module _ {values nodes : List ℤ} {sg : Sign} {r m left at : ℕ} (n : PlanNode values nodes sg r m left at letter.Scale) where
  pub scale_amount : AmountStands max_nodes nodes (at + 1) × Fine values r (amount_at offset_of max_nodes nodes (at + 1))
  unfolding FinePlan
  scale_amount = (n.stands.0, n.fine.0)

  pub scale_link : Forward nodes at 3
  scale_link = n.stands.1.0

  pub scale_walks : {p : ℕ} → p ≡ link_at nodes at 3 → Walks values nodes sg m left p r
  unfolding FinePlan
  scale_walks e = rw e (n.stands.1.1, n.fine.1)

  pub scale_small : {p : ℕ} → p ≡ link_at nodes at 3
      → {a x : ℤ} → a ≡ value (flat values) (amount_at offset_of max_nodes nodes (at + 1)) r → x ≡ paid values nodes sg m left p r → Small (a *ℤ x)
  unfolding FinePlan
  scale_small e ea ex = rw (ea, ex, e) n.fine.2

module _ {values nodes : List ℤ} {sg : Sign} {r m left at : ℕ} (n : PlanNode values nodes sg r m left at letter.Later) where
  pub later_months : r + nat_of (slot_at nodes at 1) ≤ max_months
  unfolding FinePlan
  later_months = n.fine.0

  pub later_walks : {z : ℤ} → z ≡ pos (r + nat_of (slot_at nodes at 1)) → MonthIn z × Walks values nodes sg m left (at + 1) (nat_of z)
  unfolding FinePlan
  later_walks e = rw e (month_in_lem (pos (r + nat_of (slot_at nodes at 1))) tt n.fine.0, (n.stands, n.fine.1))

module _ {values nodes : List ℤ} {sg : Sign} {r m left at : ℕ} (n : PlanNode values nodes sg r m left at letter.Both) where
  pub first_walks : Walks values nodes sg m left (at + 1) r
  unfolding FinePlan
  first_walks = (n.stands.0, n.fine.0)

  pub both_link : Forward nodes at 3
  both_link = n.stands.1.0

  pub second_walks : {p : ℕ} → p ≡ link_at nodes at 3 → Walks values nodes sg m left p r
  unfolding FinePlan
  second_walks e = rw e (n.stands.1.1, n.fine.1)

  pub both_small : {p : ℕ} → p ≡ link_at nodes at 3 → {x y : ℤ} → x ≡ paid values nodes sg m left (at + 1) r → y ≡ paid values nodes sg m left p r → Small (x +ℤ y)
  unfolding FinePlan
  both_small e ex ey = rw (ex, ey, e) n.fine.2

module _ {values nodes : List ℤ} {sg : Sign} {r m left at : ℕ} (n : PlanNode values nodes sg r m left at letter.Within) where
  abbrev test : ℕ → Bool
  test = holds (flat values) (test_at offset_of max_nodes nodes (at + 1))

  abbrev delay : ℕ
  delay = nat_of (slot_at nodes at 1)

  pub within_test : {z d : ℤ} → MonthIn z → nat_of z ≡ r → d ≡ pos delay
      → MonthsIn z d × TestStands max_nodes nodes (at + 1) × FineMonths values r (nat_of d) (test_at offset_of max_nodes nodes (at + 1))
  unfolding FinePlan
  within_test {z} {d} h ez ed =
      rw ed (record { first_known = h.known; delay_known = tt; within = rw ez n.fine.0 }, n.stands.0, n.fine.1)

  pub held_link : Forward nodes at 3
  held_link = n.stands.1.0

  pub missed_link : Forward nodes at 4
  missed_link = n.stands.2.0

  -- of the two parts, what the months tried start
  started_fine : (t : Tried) → tried test delay r ≡ t
      → started (λ k. FinePlan values sg (plan_at nat_of (left - 1) nodes (link_at nodes at 3)) k m) (λ k. FinePlan values sg (plan_at nat_of (left - 1) nodes (link_at nodes at 4)) k m) t
  unfolding FinePlan
  started_fine t e =
      subst (started (λ k. FinePlan values sg (plan_at nat_of (left - 1) nodes (link_at nodes at 3)) k m) (λ k. FinePlan values sg (plan_at nat_of (left - 1) nodes (link_at nodes at 4)) k m))
      e n.fine.2

  -- the wait ended in month k
  module _ {d : ℤ} (ed : d ≡ pos delay) (k : Month) where
    pub held_is : Held k ≡ wait_of (tried test (nat_of d) r) → tried test delay r ≡ hit (nat_of k.0)
    held_is e = rw ed at (held_ended test (nat_of d) r k e).is

    pub missed_is : Missed k ≡ wait_of (tried test (nat_of d) r) → tried test delay r ≡ miss (nat_of k.0)
    missed_is e = rw ed at (missed_ended test (nat_of d) r k e).0.is

    ended_in : T (non_neg k.0) → nat_of k.0 ≤ r + nat_of d → MonthIn k.0
    unfolding FinePlan
    ended_in h l =
        let i : nat_of d ≡ delay = ap nat_of ed in
        month_in_lem k.0 h (omega (arith, l, i, n.fine.0))

    pub held_walks : Held k ≡ wait_of (tried test (nat_of d) r) → {p : ℕ} → p ≡ link_at nodes at 3 → MonthIn k.0 × Walks values nodes sg m left p (nat_of k.0)
    held_walks e ep =
        let w = held_ended test (nat_of d) r k e in
        (ended_in w.known w.within, rw ep (n.stands.1.1, started_fine (hit (nat_of k.0)) (held_is e)))

    pub missed_walks : Missed k ≡ wait_of (tried test (nat_of d) r) → {p : ℕ} → p ≡ link_at nodes at 4 → MonthIn k.0 × Walks values nodes sg m left p (nat_of k.0)
    missed_walks e ep =
        let w = (missed_ended test (nat_of d) r k e).0 in
        (ended_in w.known w.within, rw ep (n.stands.2.1, started_fine (miss (nat_of k.0)) (missed_is e)))
