-- What is known at a plan's node once its letter is: the plan that stands there, that its parts stand, and that its payments fit.
use Prim.Native.Nat.{◌+◌, ◌-◌, ◌<◌, ◌≤◌, ℕ}
use lib.Dec.{T}
use lib.IntN.{◌*ℤ◌, nat_abs, pos, ℤ}
use lib.Signed.{non_neg}
use mathlib.Core.Bool.{Bool}
use mathlib.Core.List.{List}
use lib.ListN.{length}
use mathlib.Core.Path.{◌∙◌, ◌≡◌, ap, refl, subst, sym}
use native.Mathlib.Omega.{arith}
use Rattle.amounts.proofs.Waited.{held_ended, missed_ended}
use Rattle.amounts.specs.Fine.{Fine, MonthIn}
use Rattle.amounts.specs.Flat.{flat}
use Rattle.amounts.specs.Waits.{FineMonths, MonthsIn, wait_of}
use Rattle.amounts.specs.declared.wait.Wait.TheVariants.{Held, Missed}
use Rattle.columns.proofs.Weights.{both_adds, first_weighed, held_weighed, later_weighed, missed_weighed, same_added, scale_adds, scale_beyond, scale_weighed, second_weighed, transfer_fits, unchanged}
use Rattle.columns.specs.Column.{Added, PennyFits, Sized, Weighed, penny_in}
use Rattle.integers.proofs.Known.{amount_beyond, amount_came}
use Rattle.integers.specs.Bounded.{Small, amount_within}
use Rattle.integers.specs.declared.Month.{Month}
use Rattle.integers.specs.declared.Pence.{Pence}
use Rattle.language.specs.Limits.{max_months, max_nodes}
use Rattle.language.specs.Payments.Amounts.{holds, value}
use Rattle.language.specs.Payments.Pays.{Sign, hit, miss, pays, started, tried}
use Rattle.nodes.specs.Found.{amount_at, offset_of, plan_at, test_at}
use Rattle.nodes.specs.Letters.{letter_of_plan}
use Rattle.nodes.specs.Stands.{AmountStands, Forward, PlanStands, TestStands}
use Rattle.nodes.specs.Table.{RowIn, link_at, nat_of, slot_at}
use Rattle.nodes.specs.declared.PlanLetter.TheVariants as letter
use Rattle.nodes.specs.declared.PlanLetter.{PlanLetter}
use Rattle.pays.proofs.PlanNodes.{plan_asks_lem, plan_tree, plan_of, plan_stands_by}
use Rattle.pays.proofs.PlanParts.{month_in_lem}
use Rattle.std.specs.Prelude.{None, Some}

pub record ColumnNode (values nodes column : List ℤ) (r : ℕ) (w : ℤ) (left at : ℕ) (l : PlanLetter) : Type 0 where
  pub some : 0 < left
  pub inside : RowIn nodes at
  pub stands : plan_stands_by nodes left at l
  pub tree : plan_at nat_of left nodes at ≡ plan_of nodes left at l
  pub weighed : Weighed values (plan_of nodes left at l) r w column

-- l is the letter that the code finds, k that of the arm
pub column_node : {values nodes column : List ℤ} {r : ℕ} {w : ℤ} {left at : ℕ} → PlanStands left nodes at → Weighed values (plan_at nat_of left nodes at) r w column
    → {l k : PlanLetter} → l ≡ letter_of_plan (slot_at nodes at 0) → l ≡ k → ColumnNode values nodes column r w left at k
column_node {values} {nodes} {column} {r} {w} {left} {at} h f el e =
    let a = plan_asks_lem nodes left at h in
    let t = plan_tree nodes left at h in
    subst (ColumnNode values nodes column r w left at) (sym el ∙ e)
    (record { some = a.0; inside = a.1; stands = a.2; tree = t; weighed = subst (λ x. Weighed values x r w column) t f })

-- the part at node p, its root in month k
module _ (values nodes column : List ℤ) (k : ℕ) (w : ℤ) (left p : ℕ) where
  abbrev pub Walks : Type 0
  Walks = PlanStands (left - 1) nodes p × Weighed values (plan_at nat_of (left - 1) nodes p) k w column

module _ (values nodes : List ℤ) (sg : Sign) (k left p : ℕ) where
  abbrev pub paid : ℕ → ℤ
  paid m = pays (flat values) sg (plan_at nat_of (left - 1) nodes p) k m

-- what the node's plan pays
module _ (values nodes : List ℤ) (sg : Sign) (r left at : ℕ) where
  abbrev pub whole : ℕ → ℤ
  whole m = pays (flat values) sg (plan_at nat_of left nodes at) r m

module _ {values nodes column : List ℤ} {r : ℕ} {w : ℤ} {left at : ℕ} where
  by_letter : (sg : Sign) {l : PlanLetter} {after : List ℤ} → ColumnNode values nodes column r w left at l → Added column after w (pays (flat values) sg (plan_of nodes left at l) r) → Added column after w (whole values nodes sg r left at)
  by_letter sg {l} {after} n a = same_added (λ m. ap (λ x. pays (flat values) sg x r m) (sym n.tree)) a

  pub nothing_arm : (sg : Sign) → ColumnNode values nodes column r w left at letter.Nothing → Added column column w (whole values nodes sg r left at)
  unfolding pays
  nothing_arm sg n = by_letter sg n (unchanged column w _ (λ m. refl))

  pub no_plan_arm : (sg : Sign) → ColumnNode values nodes column r w left at letter.NoPlan → Added column column w (whole values nodes sg r left at)
  unfolding pays
  no_plan_arm sg n = by_letter sg n (unchanged column w _ (λ m. refl))

  -- ---- T
  pub penny_fits : ColumnNode values nodes column r w left at letter.Transfer → PennyFits column r w
  penny_fits n = transfer_fits n.weighed

  pub transfer_arm : {after : List ℤ} (sg : Sign) → ColumnNode values nodes column r w left at letter.Transfer
      → Added column after w (penny_in (sg (nat_of (slot_at nodes at 1)) (nat_of (slot_at nodes at 2))) r) → Added column after w (whole values nodes sg r left at)
  unfolding pays
  transfer_arm sg n a = by_letter sg n a

  -- ---- S
  module _ (n : ColumnNode values nodes column r w left at letter.Scale) where
    pub scale_amount : AmountStands max_nodes nodes (at + 1) × Fine values r (amount_at offset_of max_nodes nodes (at + 1))
    unfolding Sized
    scale_amount = (n.stands.0, n.weighed.sized.0)

    pub scale_link : Forward nodes at 3
    scale_link = n.stands.1.0

    module _ {a : ℤ} (ea : a ≡ value (flat values) (amount_at offset_of max_nodes nodes (at + 1)) r) where
      pub scale_factors : Small w × Small a
      unfolding Sized
      scale_factors = rw ea (n.weighed.light, n.weighed.sized.1)

      module _ (v : Pence) (e : Some v ≡ amount_within (w *ℤ a)) where
        is : v.0 ≡ w *ℤ value (flat values) (amount_at offset_of max_nodes nodes (at + 1)) r
        is = (amount_came (w *ℤ a) v e).0 ∙ ap (λ z. w *ℤ z) ea

        pub scale_walks : {p : ℕ} → p ≡ link_at nodes at 3 → Walks values nodes column r v.0 left p
        scale_walks ep = rw ep (n.stands.1.1, scale_weighed n.weighed is (subst (λ z. Small (w *ℤ z)) ea (amount_came (w *ℤ a) v e).1))

        pub scale_arm : {p : ℕ} → p ≡ link_at nodes at 3 → (sg : Sign) → ((p q : ℕ) → nat_abs (sg p q) ≤ 1) → {after : List ℤ} → Added column after v.0 (paid values nodes sg r left p) → Added column after w (whole values nodes sg r left at)
        scale_arm ep sg unit {after} d = by_letter sg n (scale_adds n.weighed sg unit is (subst (λ p. Added column after v.0 (paid values nodes sg r left p)) ep d))

      pub beyond_arm : None ≡ amount_within (w *ℤ a) → (sg : Sign) → ((p q : ℕ) → nat_abs (sg p q) ≤ 1) → Added column column w (whole values nodes sg r left at)
      beyond_arm e sg unit = by_letter sg n (scale_beyond n.weighed sg unit (omega (arith, ap (λ z. nat_abs (w *ℤ z)) ea, amount_beyond (w *ℤ a) e)))

  -- ---- L
  module _ (n : ColumnNode values nodes column r w left at letter.Later) where
    pub later_months : r + nat_of (slot_at nodes at 1) ≤ max_months
    later_months = (later_weighed n.weighed).0

    pub later_walks : {z : ℤ} → z ≡ pos (r + nat_of (slot_at nodes at 1)) → MonthIn z × Walks values nodes column (nat_of z) w left (at + 1)
    later_walks e = rw e (month_in_lem (pos (r + nat_of (slot_at nodes at 1))) tt later_months, (n.stands, (later_weighed n.weighed).1))

    pub later_arm : {z : ℤ} → z ≡ pos (r + nat_of (slot_at nodes at 1)) → (sg : Sign) {after : List ℤ} → Added column after w (paid values nodes sg (nat_of z) left (at + 1)) → Added column after w (whole values nodes sg r left at)
    unfolding pays
    later_arm e sg {after} a = by_letter sg n (subst (λ k. Added column after w (paid values nodes sg (nat_of k) left (at + 1))) e a)

  -- ---- B
  module _ (n : ColumnNode values nodes column r w left at letter.Both) where
    pub first_walks : Walks values nodes column r w left (at + 1)
    first_walks = (n.stands.0, first_weighed n.weighed)

    pub both_link : Forward nodes at 3
    both_link = n.stands.1.0

    module _ (sg : Sign) (unit : (p q : ℕ) → nat_abs (sg p q) ≤ 1) {mid : List ℤ} (em : length mid ≡ length column) (d : Added column mid w (paid values nodes sg r left (at + 1))) {p : ℕ} (ep : p ≡ link_at nodes at 3) where
      pub second_walks : Walks values nodes mid r w left p
      second_walks = rw ep (n.stands.1.1, second_weighed n.weighed sg unit em d)

      pub both_arm : {after : List ℤ} → Added mid after w (paid values nodes sg r left p) → Added column after w (whole values nodes sg r left at)
      both_arm {after} b = by_letter sg n (both_adds n.weighed sg unit em d (subst (λ p. Added mid after w (paid values nodes sg r left p)) ep b))

  -- ---- W
  module _ (n : ColumnNode values nodes column r w left at letter.Within) where
    abbrev test : ℕ → Bool
    test = holds (flat values) (test_at offset_of max_nodes nodes (at + 1))

    abbrev delay : ℕ
    delay = nat_of (slot_at nodes at 1)

    pub within_test : {z d : ℤ} → MonthIn z → nat_of z ≡ r → d ≡ pos delay
        → MonthsIn z d × TestStands max_nodes nodes (at + 1) × FineMonths values r (nat_of d) (test_at offset_of max_nodes nodes (at + 1))
    unfolding Sized
    within_test {z} {d} h ez ed =
        rw ed (record { first_known = h.known; delay_known = tt; within = rw ez n.weighed.sized.0 }, n.stands.0, n.weighed.sized.1)

    pub held_link : Forward nodes at 3
    held_link = n.stands.1.0

    pub missed_link : Forward nodes at 4
    missed_link = n.stands.2.0

    -- the wait ended in month k
    module _ {d : ℤ} (ed : d ≡ pos delay) (k : Month) where
      within_delay : nat_of k.0 ≤ r + nat_of d → nat_of k.0 ≤ r + delay
      within_delay l =
          let i : nat_of d ≡ delay = ap nat_of ed in
          omega (arith, l, i)

      ended_in : T (non_neg k.0) → nat_of k.0 ≤ r + nat_of d → MonthIn k.0
      unfolding Sized
      ended_in h l = month_in_lem k.0 h (omega (arith, within_delay l, n.weighed.sized.0))

      module _ (e : Held k ≡ wait_of (tried test (nat_of d) r)) {p : ℕ} (ep : p ≡ link_at nodes at 3) where
        held_is : tried test delay r ≡ hit (nat_of k.0)
        held_is = rw ed at (held_ended test (nat_of d) r k e).is

        pub held_walks : MonthIn k.0 × Walks values nodes column (nat_of k.0) w left p
        held_walks =
            let i = held_ended test (nat_of d) r k e in
            (ended_in i.known i.within, rw ep (n.stands.1.1, held_weighed n.weighed (nat_of k.0) (within_delay i.within) held_is))

        pub held_arm : (sg : Sign) {after : List ℤ} → Added column after w (paid values nodes sg (nat_of k.0) left p) → Added column after w (whole values nodes sg r left at)
        unfolding pays
        held_arm sg {after} a = by_letter sg n (same_added (λ m. sym (ap (started (λ k. paid values nodes sg k left (link_at nodes at 3) m) (λ k. paid values nodes sg k left (link_at nodes at 4) m)) held_is)) (subst (λ p. Added column after w (paid values nodes sg (nat_of k.0) left p)) ep a))

      module _ (e : Missed k ≡ wait_of (tried test (nat_of d) r)) {p : ℕ} (ep : p ≡ link_at nodes at 4) where
        missed_is : tried test delay r ≡ miss (nat_of k.0)
        missed_is = rw ed at (missed_ended test (nat_of d) r k e).0.is

        pub missed_walks : MonthIn k.0 × Walks values nodes column (nat_of k.0) w left p
        missed_walks =
            let i = (missed_ended test (nat_of d) r k e).0 in
            (ended_in i.known i.within, rw ep (n.stands.2.1, missed_weighed n.weighed (nat_of k.0) (within_delay i.within) missed_is))

        pub missed_arm : (sg : Sign) {after : List ℤ} → Added column after w (paid values nodes sg (nat_of k.0) left p) → Added column after w (whole values nodes sg r left at)
        unfolding pays
        missed_arm sg {after} a = by_letter sg n (same_added (λ m. sym (ap (started (λ k. paid values nodes sg k left (link_at nodes at 3) m) (λ k. paid values nodes sg k left (link_at nodes at 4) m)) missed_is)) (subst (λ p. Added column after w (paid values nodes sg (nat_of k.0) left p)) ep a))
