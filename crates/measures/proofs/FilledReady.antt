-- A plan that lies in the table can be walked; a filled one is the plan found there.
use Prim.Native.Nat.{◌+◌, ◌≤◌, suc, zero, ℕ}
use Rattle.language.proofs.Payoff.Filled.{fill_closed}
use Rattle.language.proofs.Text.Form.{depth_map, fields_map}
use Rattle.language.specs.Limits.{max_depth, max_nodes}
use Rattle.language.specs.Rules.Settings.{closed, delay_of, fill, map_plan}
use Rattle.language.specs.Text.Form.{delay_in_form, depth_of, fields_of, filled_in_form}
use Rattle.language.specs.Text.Letters as form
use Rattle.language.specs.Text.Letters.{plan_form}
use Rattle.language.specs.Text.Plans.{plan_trees}
use Rattle.language.specs.Text.Reader.{Trees}
use Rattle.language.specs.Text.Trees.{Amount, Delay, Plan, Test, months, nothing, setting}
use Rattle.nodes.proofs.BlocksLaid.{plan_blocks}
use Rattle.measures.specs.Ready.{PlanReady}
use Rattle.nodes.proofs.AmountsFound.{Finds}
use Rattle.nodes.proofs.Laid.{Laid}
use Rattle.nodes.proofs.PlansFound.{plan_found}
use Rattle.nodes.specs.Found.{amount_at, offset_of, plan_at, plan_by, test_at}
use Rattle.nodes.specs.Letters.{letter_of_plan}
use Rattle.nodes.specs.Rows.{delay_from}
use Rattle.nodes.specs.Table.{link_at, nat_of, slot_at}
use Rattle.nodes.specs.declared.PlanLetter.TheVariants.{Both, Later, NoPlan, Nothing, Scale, Transfer, Within}
use Rattle.nodes.specs.declared.PlanLetter.{PlanLetter}
use lib.IntN.{negsuc, pos, ℤ}
use mathlib.Core.List.{List}
use mathlib.Core.Path.{◌∙◌, ◌≡◌, ap, refl, sym}
use native.Mathlib.Omega.{arith}

-- ---- found with its delays as numbers

abbrev none : ℕ → ℕ
none k = 0

months_from : (z : ℤ) → delay_of none (delay_from z) ≡ nat_of z
unfolding delay_of
months_from (pos n) = refl
months_from (negsuc n) = refl

none_in_form : (d : Delay) → delay_in_form d → filled_in_form (delay_of none d)
unfolding delay_of
none_in_form (months n) h = h
none_in_form (setting k) h = omega arith

filled_by : (l : PlanLetter) (d : Delay) (p q : ℤ) (a : Amount ℤ) (t : Test ℤ) (x y z : Plan Delay)
    → fill none (plan_by l d p q a t x y z) ≡ plan_by l (delay_of none d) p q a t (fill none x) (fill none y) (fill none z)
unfolding map_plan
filled_by Nothing d p q a t x y z = refl
filled_by Transfer d p q a t x y z = refl
filled_by Scale d p q a t x y z = refl
filled_by Later d p q a t x y z = refl
filled_by Both d p q a t x y z = refl
filled_by Within d p q a t x y z = refl
filled_by NoPlan d p q a t x y z = refl

module _ (nodes : List ℤ) where
  found_months : (left at : ℕ) → fill none (plan_at delay_from left nodes at) ≡ plan_at nat_of left nodes at
  unfolding plan_at
  found_months zero at = nothing_filled
    where
      nothing_filled : fill none nothing ≡ nothing
      nothing_filled = filled_by Nothing (months 0) (pos 0) (pos 0) (amount_at offset_of 0 nodes 0) (test_at offset_of 0 nodes 0) nothing nothing nothing
  found_months (suc left) at =
      filled_by (letter_of_plan (slot_at nodes at 0)) (delay_from (slot_at nodes at 1)) (slot_at nodes at 1) (slot_at nodes at 2)
      (amount_at offset_of max_nodes nodes (at + 1)) (test_at offset_of max_nodes nodes (at + 1))
      (plan_at delay_from left nodes (at + 1)) (plan_at delay_from left nodes (link_at nodes at 3)) (plan_at delay_from left nodes (link_at nodes at 4))
      ∙ rw (months_from (slot_at nodes at 1), found_months left (at + 1), found_months left (link_at nodes at 3), found_months left (link_at nodes at 4)) refl

  -- an open setting found as no delay
  pub open_found : (x : Plan Delay) (r : Trees form.PlanLetter) (at left : ℕ) → Laid plan_form nodes at (plan_trees x r) → fields_of delay_in_form x → depth_of x ≤ left → left ≤ max_depth
      → Finds (plan_at nat_of left nodes at) (fill none x) (PlanReady left nodes at)
  open_found x r at left h f d b =
      let p = plan_found nodes x r at left h f d (omega arith) in
      let e : plan_at nat_of left nodes at ≡ fill none x = sym (found_months left at) ∙ ap (fill none) p.is in
      record { is = e; safe = record { depth = b; stands = p.safe; fields = rw e (fields_map (delay_of none) delay_in_form filled_in_form none_in_form x f); blocks = plan_blocks nodes x r at left h d (omega arith) } }

  pub filled_found : (x : Plan ℕ) (r : Trees form.PlanLetter) (at left : ℕ) → Laid plan_form nodes at (plan_trees (closed x) r) → fields_of filled_in_form x → depth_of x ≤ left → left ≤ max_depth
      → Finds (plan_at nat_of left nodes at) x (PlanReady left nodes at)
  filled_found x r at left h f d b =
      let p = open_found (closed x) r at left h (fields_map months filled_in_form delay_in_form (λ d k. k) x f) (omega (arith, depth_map months x)) b in
      record { is = p.is ∙ fill_closed none x; safe = p.safe }
