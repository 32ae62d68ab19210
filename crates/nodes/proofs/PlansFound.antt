-- A plan that lies in the table is found there, and a walk of it stays in the table.
use Prim.Native.Nat.{◌+◌, ◌≤◌, suc, zero, ℕ}
use lib.IntN.{pos, ℤ}
use mathlib.Core.List.{List, [], ◌∷◌}
use mathlib.Core.Path.{◌∙◌, ◌≡◌, ap, ap₂, refl}
use native.Mathlib.Omega.{arith}
use Rattle.language.specs.Limits.{max_nodes}
use Rattle.language.specs.Text.Classes.{a_delay, a_number}
use Rattle.language.specs.Text.Form.{delay_in_form, depth_of, fields_of, offset_in_form}
use Rattle.language.specs.Text.Letters.{PlanLetter, of_root, plan_form, plan_row, row_of}
use Rattle.language.specs.Text.Plans.{plan_trees}
use Rattle.language.specs.Text.Reader.{Trees, end}
use Rattle.language.specs.Text.Trees.{Amount, Delay, Plan, Test, both, later, months, nothing, scale, setting, transfer, within}
use Rattle.language.specs.Text.Typed.{amount_tree, test_tree}
use Rattle.nodes.proofs.AmountsFound.{Finds, amount_first, amount_found, byte_at, number_at, room, second_at, test_first, test_found, third_at}
use Rattle.nodes.proofs.Laid.{IsNode, Laid, inner, laid_child, laid_slot}
use Rattle.nodes.specs.Found.{amount_at, offset_of, plan_at, test_at}
use Rattle.nodes.specs.Letters.{letter_of_plan}
use Rattle.nodes.specs.Rows.{behind_first, delay_from, delay_slot, field_slots, slots_of}
use Rattle.nodes.specs.Stands.{AmountStands, PlanStands, TestStands}
use Rattle.nodes.specs.Table.{link_at, nat_of}

pub plan_first : (x : Plan Delay) (r : Trees PlanLetter) → IsNode (plan_trees x r) × (behind_first (plan_trees x r) ≡ r)
unfolding plan_trees behind_first
plan_first nothing r = (tt, refl)
plan_first (transfer p q) r = (tt, refl)
plan_first (scale a x) r = (tt, refl)
plan_first (later d x) r = (tt, refl)
plan_first (both x y) r = (tt, refl)
plan_first (within d t x y) r = (tt, refl)

pub delay_back : (d : Delay) → delay_from (delay_slot d) ≡ d
unfolding delay_slot
delay_back (months n) = refl
delay_back (setting k) = refl

module _ (nodes : List ℤ) where
  abbrev AmountIn : ℕ → Amount ℤ → Type 0
  AmountIn at a = Finds (amount_at offset_of max_nodes nodes at) a (AmountStands max_nodes nodes at)

  abbrev TestIn : ℕ → Test ℤ → Type 0
  TestIn at t = Finds (test_at offset_of max_nodes nodes at) t (TestStands max_nodes nodes at)

  offset_back : (l : ℕ) (i : ℤ) → offset_in_form i → ◌≡◌ {A = ℤ} i i
  offset_back l i g = refl

  pub plan_found : (x : Plan Delay) (r : Trees PlanLetter) (at left : ℕ) → Laid plan_form nodes at (plan_trees x r) → fields_of delay_in_form x → depth_of x ≤ left → left ≤ max_nodes
      → Finds (plan_at delay_from left nodes at) x (PlanStands left nodes at)
  unfolding plan_at PlanStands plan_trees depth_of fields_of letter_of_plan row_of plan_row slots_of field_slots
  plan_found nothing r at zero h g d b = absurd (omega arith)
  plan_found nothing r at (suc left) h g d b =
      let e = byte_at plan_form nodes (of_root PlanLetter.Z) [] end h in
      record { is = rw e refl; safe = (room plan_form nodes (of_root PlanLetter.Z) [] end h, rw e tt) }
  plan_found (transfer p q) r at zero h g d b = absurd (omega arith)
  plan_found (transfer p q) r at (suc left) h g d b =
      let l = of_root PlanLetter.T in
      let fs = a_number (pos p) ∷ a_number (pos q) ∷ [] in
      let e = byte_at plan_form nodes l fs end h in
      record {
        is = rw e (ap₂ (λ y z. transfer (nat_of y) (nat_of z)) (number_at plan_form nodes l (pos p) (a_number (pos q) ∷ []) end h) (laid_slot plan_form nodes l fs h 2 (omega arith)));
        safe = (room plan_form nodes l fs end h, rw e tt);
      }
  plan_found (scale a x) r at zero h g d b = absurd (omega arith)
  plan_found (scale a x) r at (suc left) h g d b =
      let l = of_root PlanLetter.S in
      let below = amount_tree a_number a (plan_trees x end) in
      let e = byte_at plan_form nodes l [] below h in
      let i = inner plan_form nodes l [] h (amount_first a_number a (plan_trees x end)).0 in
      let u = amount_found plan_form nodes a_number offset_of offset_in_form offset_back a (plan_trees x end) (at + 1) max_nodes i.first g.0 (omega arith) in
      let y = plan_found x end (link_at nodes at 3) left (second_at plan_form nodes i (amount_first a_number a (plan_trees x end)).1) g.1 (omega arith) (omega arith) in
      record { is = rw e (ap₂ scale u.is y.is); safe = (room plan_form nodes l [] below h, rw e (u.safe, (i.forward, y.safe))) }
  plan_found (later t x) r at zero h g d b = absurd (omega arith)
  plan_found (later t x) r at (suc left) h g d b =
      let l = of_root PlanLetter.L in
      let below = plan_trees x end in
      let e = byte_at plan_form nodes l (a_delay t ∷ []) below h in
      let y = plan_found x end (at + 1) left (laid_child plan_form nodes l (a_delay t ∷ []) h) g.1 (omega arith) (omega arith) in
      record {
        is = rw e (ap₂ later (ap delay_from (laid_slot plan_form nodes l (a_delay t ∷ []) h 1 (omega arith)) ∙ delay_back t) y.is);
        safe = (room plan_form nodes l (a_delay t ∷ []) below h, rw e y.safe);
      }
  plan_found (both x y) r at zero h g d b = absurd (omega arith)
  plan_found (both x y) r at (suc left) h g d b =
      let l = of_root PlanLetter.B in
      let below = plan_trees x (plan_trees y end) in
      let e = byte_at plan_form nodes l [] below h in
      let i = inner plan_form nodes l [] h (plan_first x (plan_trees y end)).0 in
      let u = plan_found x (plan_trees y end) (at + 1) left i.first g.0 (omega arith) (omega arith) in
      let w = plan_found y end (link_at nodes at 3) left (second_at plan_form nodes i (plan_first x (plan_trees y end)).1) g.1 (omega arith) (omega arith) in
      record { is = rw e (ap₂ both u.is w.is); safe = (room plan_form nodes l [] below h, rw e (u.safe, (i.forward, w.safe))) }
  plan_found (within t c x y) r at zero h g d b = absurd (omega arith)
  plan_found (within t c x y) r at (suc left) h g d b =
      let l = of_root PlanLetter.W in
      let behind = plan_trees x (plan_trees y end) in
      let below = test_tree a_number c behind in
      let e = byte_at plan_form nodes l (a_delay t ∷ []) below h in
      let i = inner plan_form nodes l (a_delay t ∷ []) h (test_first a_number c behind).0 in
      let s = test_found plan_form nodes a_number offset_of offset_in_form offset_back c behind (at + 1) max_nodes i.first g.1 (omega arith) in
      let u = plan_found x (plan_trees y end) (link_at nodes at 3) left (second_at plan_form nodes i (test_first a_number c behind).1) g.2 (omega arith) (omega arith) in
      let w = plan_found y end (link_at nodes at 4) left (third_at plan_form nodes i (test_first a_number c behind).1 (plan_first x (plan_trees y end)).1) g.3 (omega arith) (omega arith) in
      record {
        is = rw e (ap₂ (λ f z. f z) (ap₂ (λ f z. f z) (ap₂ within (ap delay_from (laid_slot plan_form nodes l (a_delay t ∷ []) h 1 (omega arith)) ∙ delay_back t) s.is) u.is) w.is);
        safe = (room plan_form nodes l (a_delay t ∷ []) below h, rw e (s.safe, (i.forward, u.safe), (i.forward_again, w.safe)));
      }
