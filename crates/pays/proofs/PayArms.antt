-- What each letter makes of its parts' payments.
use Prim.Native.Nat.{◌+◌, ◌<◌, ℕ}
use lib.Dec.{eqb}
use lib.IntN.{◌*ℤ◌, ◌+ℤ◌, pos, ℤ}
use mathlib.Core.Bool.{Bool, cond}
use mathlib.Core.List.{List}
use mathlib.Core.Path.{◌∙◌, ◌≡◌, ap, ap₂, refl, subst, sym}
use Rattle.amounts.specs.Flat.{flat}
use Rattle.amounts.specs.Waits.{wait_of}
use Rattle.amounts.specs.declared.wait.Wait.TheVariants.{Held, Missed}
use Rattle.integers.specs.declared.Month.{Month}
use Rattle.language.proofs.Payments.Spans.{pays_before}
use Rattle.language.specs.Limits.{max_nodes}
use Rattle.language.specs.Payments.Amounts.{holds, value}
use Rattle.language.specs.Payments.Pays.{Sign, Tried, hit, miss, pays, started, tried}
use Rattle.nodes.specs.Found.{amount_at, offset_of, plan_at, test_at}
use Rattle.nodes.specs.Table.{link_at, nat_of, slot_at}
use Rattle.nodes.specs.declared.PlanLetter.{PlanLetter}
use Rattle.nodes.specs.declared.PlanLetter.TheVariants as letter
use Rattle.pays.proofs.PlanNodes.{PlanNode, plan_of}
use Rattle.pays.proofs.PlanParts.{held_is, missed_is, paid}
use Rattle.pays.specs.Until.{end_of}

-- what the node's plan pays
module _ (values nodes : List ℤ) (sg : Sign) (r m left at : ℕ) where
  abbrev pub whole : ℤ
  whole = pays (flat values) sg (plan_at nat_of left nodes at) r m

module _ {values nodes : List ℤ} {sg : Sign} {r m left at : ℕ} where
  pub by_letter : {l : PlanLetter} → PlanNode values nodes sg r m left at l → whole values nodes sg r m left at ≡ pays (flat values) sg (plan_of nodes left at l) r m
  by_letter n = ap (λ x. pays (flat values) sg x r m) n.tree

  pub nothing_arm : PlanNode values nodes sg r m left at letter.Nothing → pos 0 ≡ whole values nodes sg r m left at
  unfolding pays
  nothing_arm n = sym (by_letter n)

  pub no_plan_arm : PlanNode values nodes sg r m left at letter.NoPlan → pos 0 ≡ whole values nodes sg r m left at
  unfolding pays
  no_plan_arm n = sym (by_letter n)

  pub transfer_arm : PlanNode values nodes sg r m left at letter.Transfer
      → {x : ℤ} → x ≡ cond (eqb r m) (sg (nat_of (slot_at nodes at 1)) (nat_of (slot_at nodes at 2))) (pos 0) → x ≡ whole values nodes sg r m left at
  unfolding pays
  transfer_arm n e = e ∙ sym (by_letter n)

  pub scale_arm : PlanNode values nodes sg r m left at letter.Scale → {p : ℕ} → p ≡ link_at nodes at 3
      → {a x z : ℤ} → a ≡ value (flat values) (amount_at offset_of max_nodes nodes (at + 1)) r → x ≡ paid values nodes sg m left p r → z ≡ a *ℤ x
      → z ≡ whole values nodes sg r m left at
  unfolding pays
  scale_arm n ep ea ex ez = ez ∙ ap₂ ◌*ℤ◌ ea (ex ∙ ap (λ p. paid values nodes sg m left p r) ep) ∙ sym (by_letter n)

  pub later_arm : PlanNode values nodes sg r m left at letter.Later → {k x : ℤ} → k ≡ pos (r + nat_of (slot_at nodes at 1)) → x ≡ paid values nodes sg m left (at + 1) (nat_of k)
      → x ≡ whole values nodes sg r m left at
  unfolding pays
  later_arm n ek ex = ex ∙ ap (λ k. paid values nodes sg m left (at + 1) (nat_of k)) ek ∙ sym (by_letter n)

  pub both_arm : PlanNode values nodes sg r m left at letter.Both → {p : ℕ} → p ≡ link_at nodes at 3
      → {x y z : ℤ} → x ≡ paid values nodes sg m left (at + 1) r → y ≡ paid values nodes sg m left p r → z ≡ x +ℤ y → z ≡ whole values nodes sg r m left at
  unfolding pays
  both_arm n ep ex ey ez = ez ∙ ap₂ ◌+ℤ◌ ex (ey ∙ ap (λ p. paid values nodes sg m left p r) ep) ∙ sym (by_letter n)

module _ {values nodes : List ℤ} {sg : Sign} {r m left at : ℕ} (n : PlanNode values nodes sg r m left at letter.Within) where
  abbrev test : ℕ → Bool
  test = holds (flat values) (test_at offset_of max_nodes nodes (at + 1))

  -- the wait ends as t
  started_arm : (t : Tried) → tried test (nat_of (slot_at nodes at 1)) r ≡ t
      → whole values nodes sg r m left at ≡ started (λ k. paid values nodes sg m left (link_at nodes at 3) k) (λ k. paid values nodes sg m left (link_at nodes at 4) k) t
  unfolding pays
  started_arm t e = by_letter n ∙ ap (started (λ k. paid values nodes sg m left (link_at nodes at 3) k) (λ k. paid values nodes sg m left (link_at nodes at 4) k)) e

  module _ {d : ℤ} (ed : d ≡ pos (nat_of (slot_at nodes at 1))) (k : Month) where
    pub held_arm : Held k ≡ wait_of (tried test (nat_of d) r) → {p : ℕ} → p ≡ link_at nodes at 3
        → {x : ℤ} → x ≡ paid values nodes sg m left p (nat_of k.0) → x ≡ whole values nodes sg r m left at
    held_arm e ep ex = ex ∙ ap (λ p. paid values nodes sg m left p (nat_of k.0)) ep ∙ sym (started_arm (hit (nat_of k.0)) (held_is n ed k e))

    pub missed_arm : Missed k ≡ wait_of (tried test (nat_of d) r) → {p : ℕ} → p ≡ link_at nodes at 4
        → {x : ℤ} → x ≡ paid values nodes sg m left p (nat_of k.0) → x ≡ whole values nodes sg r m left at
    missed_arm e ep ex = ex ∙ ap (λ p. paid values nodes sg m left p (nat_of k.0)) ep ∙ sym (started_arm (miss (nat_of k.0)) (missed_is n ed k e))

  -- the wait ends after the month
  pub after_arm : {d : ℤ} → d ≡ pos (nat_of (slot_at nodes at 1)) → m < end_of (tried test (nat_of d) r) → pos 0 ≡ whole values nodes sg r m left at
  after_arm {d} ed l = go (tried test (nat_of (slot_at nodes at 1)) r) refl (subst (λ n. m < end_of (tried test n r)) (ap nat_of ed) l)
    where
      go : (t : Tried) → tried test (nat_of (slot_at nodes at 1)) r ≡ t → m < end_of t → pos 0 ≡ whole values nodes sg r m left at
      go (hit k) e h = sym (started_arm (hit k) e ∙ pays_before (flat values) sg _ k m h)
      go (miss k) e h = sym (started_arm (miss k) e ∙ pays_before (flat values) sg _ k m h)
