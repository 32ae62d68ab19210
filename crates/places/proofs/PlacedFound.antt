-- A placed plan that lies in the table is found there, and a walk of it stays in the table.
use Prim.Native.Nat.{◌+◌, ◌≤◌, suc, zero, ℕ}
use lib.IntN.{pos, ℤ}
use mathlib.Core.List.{List, [], ◌++◌, ◌∷◌}
use mathlib.Core.Path.{◌∙◌, ◌≡◌, ap, ap₂, refl, sym}
use native.Mathlib.Omega.{arith}
use Rattle.amounts.proofs.Placed.{any_place, placed_fields, placed_fields_test}
use Rattle.amounts.specs.Placed.{placed_amount, placed_test}
use Rattle.language.specs.Limits.{max_depth, max_nodes}
use Rattle.language.specs.Rules.Settings.{closed, map_plan}
use Rattle.language.specs.Text.Classes.{a_delay, a_number}
use Rattle.language.specs.Text.Form.{Formed, depth_of, depth_of_amount, depth_of_test, fields_of, fields_of_amount, fields_of_test, filled_in_form, offset_in_form}
use Rattle.language.specs.Text.Letters.{PlanLetter, of_root, plan_form, plan_row, row_of}
use Rattle.language.specs.Text.Plans.{plan_trees}
use Rattle.language.specs.Text.Reader.{Trees, end, node}
use Rattle.language.specs.Text.Trees.{Amount, Plan, Test, both, later, months, nothing, scale, transfer, within}
use Rattle.language.specs.Text.Typed.{amount_tree, test_tree}
use Rattle.nodes.proofs.AmountsFound.{Finds, amount_first, amount_found, byte_at, number_at, room, second_at, test_first, test_found, third_at}
use Rattle.nodes.proofs.Counts.{count_plan}
use Rattle.nodes.proofs.Laid.{Laid, inner, laid_child, laid_slot}
use Rattle.nodes.proofs.PlansFound.{plan_first}
use Rattle.nodes.specs.Found.{amount_at, offset_of, plan_at, test_at}
use Rattle.nodes.specs.Letters.{letter_of_plan}
use Rattle.nodes.specs.Rows.{count_of, delay_slot, field_slots, rows, slots_of}
use Rattle.nodes.specs.Stands.{AmountStands, PlanStands, TestStands}
use Rattle.nodes.specs.Table.{link_at, nat_of, slot_at}
use Rattle.places.proofs.PlacedForm.{depth_amount, depth_test, nodes_closed, placed_closed}
use Rattle.places.proofs.PlanPlaces.{count_placed}
use Rattle.amounts.specs.Placed.{placed_plan}
use Rattle.places.specs.Place.{place_found}

module _ (place : ℕ → ℤ → ℤ) (nodes : List ℤ) where
  -- any place is found as it stands
  place_back : (l : ℕ) (i : ℤ) → any_place i → ◌≡◌ {A = ℤ} i i
  place_back l i g = refl

  -- the trees of a placed plan, and what stands behind them
  abbrev trees_of : Plan ℕ → Trees PlanLetter → Trees PlanLetter
  trees_of x r = plan_trees (closed (placed_plan place x)) r

  abbrev AmountIn : ℕ → Amount ℤ → Type 0
  AmountIn at a = Finds (amount_at offset_of max_nodes nodes at) (placed_amount place a) (AmountStands max_nodes nodes at)

  abbrev TestIn : ℕ → Test ℤ → Type 0
  TestIn at t = Finds (test_at offset_of max_nodes nodes at) (placed_test place t) (TestStands max_nodes nodes at)

  module _ (at : ℕ) where
    amount_in : (a : Amount ℤ) (r : Trees PlanLetter) → Laid plan_form nodes at (amount_tree a_number (placed_amount place a) r) → fields_of_amount offset_in_form a → depth_of_amount a ≤ max_nodes
        → AmountIn at a
    unfolding slots_of field_slots
    amount_in a r h g d =
        amount_found plan_form nodes a_number offset_of any_place place_back (placed_amount place a) r at max_nodes h
        (placed_fields place offset_in_form a g) (omega (arith, depth_amount place a))

    test_in : (t : Test ℤ) (r : Trees PlanLetter) → Laid plan_form nodes at (test_tree a_number (placed_test place t) r) → fields_of_test offset_in_form t → depth_of_test t ≤ max_nodes
        → TestIn at t
    unfolding slots_of field_slots
    test_in t r h g d =
        test_found plan_form nodes a_number offset_of any_place place_back (placed_test place t) r at max_nodes h
        (placed_fields_test place offset_in_form t g) (omega (arith, depth_test place t))

  delay_at : {at : ℕ} {c t : Trees PlanLetter} (l : PlanLetter) (d : ℕ) → Laid plan_form nodes at (node (of_root l) (a_delay (months d) ∷ []) c t) → nat_of (slot_at nodes at 1) ≡ d
  unfolding slots_of field_slots delay_slot
  delay_at l d h = ap nat_of (laid_slot plan_form nodes (of_root l) (a_delay (months d) ∷ []) h 1 (omega arith))

  pub placed_in : (x : Plan ℕ) (r : Trees PlanLetter) (at left : ℕ) → Laid plan_form nodes at (trees_of x r) → fields_of filled_in_form x → depth_of x ≤ left → left ≤ max_nodes
      → Finds (plan_at nat_of left nodes at) (placed_plan place x) (PlanStands left nodes at)
  unfolding plan_at PlanStands plan_trees map_plan placed_plan depth_of fields_of letter_of_plan row_of plan_row slots_of field_slots
  placed_in nothing r at zero h g d b = absurd (omega arith)
  placed_in nothing r at (suc left) h g d b =
      let e = byte_at plan_form nodes (of_root PlanLetter.Z) [] end h in
      record { is = rw e refl; safe = (room plan_form nodes (of_root PlanLetter.Z) [] end h, rw e tt) }
  placed_in (transfer p q) r at zero h g d b = absurd (omega arith)
  placed_in (transfer p q) r at (suc left) h g d b =
      let l = of_root PlanLetter.T in
      let fs = a_number (pos p) ∷ a_number (pos q) ∷ [] in
      let e = byte_at plan_form nodes l fs end h in
      let u = number_at plan_form nodes l (pos p) (a_number (pos q) ∷ []) end h in
      let w = laid_slot plan_form nodes l fs h 2 (omega arith) in
      record { is = rw e (ap₂ (λ y z. transfer (nat_of y) (nat_of z)) u w); safe = (room plan_form nodes l fs end h, rw e tt) }
  placed_in (scale a x) r at zero h g d b = absurd (omega arith)
  placed_in (scale a x) r at (suc left) h g d b =
      let l = of_root PlanLetter.S in
      let first = amount_first a_number (placed_amount place a) (trees_of x end) in
      let below = amount_tree a_number (placed_amount place a) (trees_of x end) in
      let e = byte_at plan_form nodes l [] below h in
      let i = inner plan_form nodes l [] h first.0 in
      let u = amount_in (at + 1) a (trees_of x end) i.first g.0 (omega arith) in
      let y = placed_in x end (link_at nodes at 3) left (second_at plan_form nodes i first.1) g.1 (omega arith) (omega arith) in
      record { is = rw e (ap₂ scale u.is y.is); safe = (room plan_form nodes l [] below h, rw e (u.safe, (i.forward, y.safe))) }
  placed_in (later t x) r at zero h g d b = absurd (omega arith)
  placed_in (later t x) r at (suc left) h g d b =
      let l = of_root PlanLetter.L in
      let below = trees_of x end in
      let e = byte_at plan_form nodes l (a_delay (months t) ∷ []) below h in
      let y = placed_in x end (at + 1) left (laid_child plan_form nodes l (a_delay (months t) ∷ []) h) g.1 (omega arith) (omega arith) in
      record { is = rw e (ap₂ later (delay_at PlanLetter.L t h) y.is); safe = (room plan_form nodes l (a_delay (months t) ∷ []) below h, rw e y.safe) }
  placed_in (both x y) r at zero h g d b = absurd (omega arith)
  placed_in (both x y) r at (suc left) h g d b =
      let l = of_root PlanLetter.B in
      let first = plan_first (closed (placed_plan place x)) (trees_of y end) in
      let below = trees_of x (trees_of y end) in
      let e = byte_at plan_form nodes l [] below h in
      let i = inner plan_form nodes l [] h first.0 in
      let u = placed_in x (trees_of y end) (at + 1) left i.first g.0 (omega arith) (omega arith) in
      let w = placed_in y end (link_at nodes at 3) left (second_at plan_form nodes i first.1) g.1 (omega arith) (omega arith) in
      record { is = rw e (ap₂ both u.is w.is); safe = (room plan_form nodes l [] below h, rw e (u.safe, (i.forward, w.safe))) }
  placed_in (within t c x y) r at zero h g d b = absurd (omega arith)
  placed_in (within t c x y) r at (suc left) h g d b =
      let l = of_root PlanLetter.W in
      let behind = trees_of x (trees_of y end) in
      let first = test_first a_number (placed_test place c) behind in
      let below = test_tree a_number (placed_test place c) behind in
      let e = byte_at plan_form nodes l (a_delay (months t) ∷ []) below h in
      let i = inner plan_form nodes l (a_delay (months t) ∷ []) h first.0 in
      let s = test_in (at + 1) c behind i.first g.1 (omega arith) in
      let u = placed_in x (trees_of y end) (link_at nodes at 3) left (second_at plan_form nodes i first.1) g.2 (omega arith) (omega arith) in
      let v = third_at plan_form nodes i first.1 (plan_first (closed (placed_plan place x)) (trees_of y end)).1 in
      let w = placed_in y end (link_at nodes at 4) left v g.3 (omega arith) (omega arith) in
      record {
        is = rw e (ap₂ (λ p z. p z) (ap₂ (λ p z. p z) (ap₂ within (delay_at PlanLetter.W t h) s.is) u.is) w.is);
        safe = (room plan_form nodes l (a_delay (months t) ∷ []) below h, rw e (s.safe, (i.forward, u.safe), (i.forward_again, w.safe)));
      }

-- ---- from node 0 on

-- the table in which a filled plan in form was placed
module _ (h f : ℤ) (x : Plan ℕ) (form : Formed filled_in_form x) (nodes rest : List ℤ) where
  pub placed_found : nodes ≡ rows plan_form (plan_trees (closed (placed_plan (place_found h f) x)) end) ++ rest
      → Finds (plan_at nat_of max_depth nodes 0) (placed_plan (place_found h f) x) (PlanStands max_depth nodes 0)
  placed_found e =
      let c : count_of (plan_trees (closed (placed_plan (place_found h f) x)) end) ≡ count_of (plan_trees (closed x) end) =
      ap (λ y. count_of (plan_trees y end)) (sym (placed_closed (place_found h f) x)) ∙ count_placed h f (closed x) in
      let l : Laid plan_form nodes 0 (plan_trees (closed (placed_plan (place_found h f) x)) end) = record { rest = rest; is = e; room = omega (arith, c, count_plan (closed x), nodes_closed x, form.nodes) } in
      placed_in (place_found h f) nodes x end 0 max_depth l form.fields form.depth (omega arith)
