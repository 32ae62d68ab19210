-- A plan without open settings, from its parts, letter by letter.
use Prim.Native.Nat.{◌+◌, ◌-◌, ℕ}
use Rattle.language.specs.Limits.{max_nodes}
use Rattle.language.specs.Rules.Settings.{closed, map_plan}
use Rattle.language.specs.Text.Trees.{both, later, months, scale, within}
use Rattle.measures.proofs.Plans.{plan_by_lem, plan_here}
use Rattle.measures.specs.Ready.{PlanReady}
use Rattle.measures.specs.Closed.{ClosedAt}
use Rattle.nodes.specs.Found.{amount_at, offset_of, test_at}
use Rattle.nodes.specs.Letters.{letter_of_plan}
use Rattle.nodes.specs.Rows.{delay_from}
use Rattle.nodes.specs.Table.{link_at, nat_of, slot_at}
use Rattle.nodes.specs.declared.PlanLetter.TheVariants as plan
use Rattle.nodes.specs.declared.PlanLetter.{PlanLetter}
use lib.IntN.{negsuc, pos, ℤ}
use lib.Signed.{lt_z}
use mathlib.Core.Bool.{false, true≢false}
use mathlib.Core.List.{List}
use mathlib.Core.Path.{◌∙◌, ◌≡◌, ap, ap₂, refl, subst, sym}

-- a number that is not below zero stands for months
plain : (z : ℤ) → lt_z z (pos 0) ≡ false → months (nat_of z) ≡ delay_from z
plain (pos n) e = refl
plain (negsuc n) e = absurd (true≢false e)

module _ {left at : ℕ} {nodes : List ℤ} (h : PlanReady left nodes at) {l : PlanLetter} (e : l ≡ letter_of_plan (slot_at nodes at 0)) where
  -- m is the node's letter
  closed_by : {m : PlanLetter} → l ≡ m → closed (plan_here nat_of m (left - 1) nodes at) ≡ plan_here delay_from m (left - 1) nodes at → ClosedAt left nodes at
  closed_by t q = record { is = ap closed (plan_by_lem h e t nat_of) ∙ q ∙ sym (plan_by_lem h e t delay_from) }

  moved : {p q : ℕ} → p ≡ q → ClosedAt (left - 1) nodes p → ClosedAt (left - 1) nodes q
  moved = subst (ClosedAt (left - 1) nodes)

  pub nothing_closed : l ≡ plan.Nothing → ClosedAt left nodes at
  unfolding map_plan
  nothing_closed t = closed_by t refl

  pub transfer_closed : l ≡ plan.Transfer → ClosedAt left nodes at
  unfolding map_plan
  transfer_closed t = closed_by t refl

  pub scale_closed : l ≡ plan.Scale → {p : ℕ} → p ≡ link_at nodes at 3 → ClosedAt (left - 1) nodes p → ClosedAt left nodes at
  unfolding map_plan
  scale_closed t ep s = closed_by t (ap (scale (amount_at offset_of max_nodes nodes (at + 1))) (moved ep s).is)

  pub both_closed : l ≡ plan.Both → {p : ℕ} → p ≡ link_at nodes at 3 → ClosedAt (left - 1) nodes (at + 1) → ClosedAt (left - 1) nodes p → ClosedAt left nodes at
  unfolding map_plan
  both_closed t ep s r = closed_by t (ap₂ both s.is (moved ep r).is)

  -- the delay is no open setting
  module _ (d : lt_z (slot_at nodes at 1) (pos 0) ≡ false) where
    pub later_closed : l ≡ plan.Later → ClosedAt (left - 1) nodes (at + 1) → ClosedAt left nodes at
    unfolding map_plan
    later_closed t s = closed_by t (ap₂ later (plain (slot_at nodes at 1) d) s.is)

    pub within_closed : l ≡ plan.Within → {p q : ℕ} → p ≡ link_at nodes at 3 → q ≡ link_at nodes at 4 → ClosedAt (left - 1) nodes p → ClosedAt (left - 1) nodes q → ClosedAt left nodes at
    unfolding map_plan
    within_closed t ep eq s r = closed_by t (ap₂ (λ f x. f x) (ap₂ (λ n x. within n (test_at offset_of max_nodes nodes (at + 1)) x) (plain (slot_at nodes at 1) d) (moved ep s).is) (moved eq r).is)
