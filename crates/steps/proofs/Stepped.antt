-- The rows of a placed amount, stepped, are those of the stepped amount; placed rows, restored, are those of the plan.
use Prim.Native.Nat.{◌*◌, ◌-◌, ◌<◌, ℕ}
use lib.IntN.{◌+ℤ◌, pos, pred_ℤ, ℤ}
use lib.ListN.{drop}
use lib.Signed.{le_z}
use mathlib.Core.Bool.{Bool, cond, false, true}
use mathlib.Core.List.{List, [], ◌++◌, ◌∷◌}
use mathlib.Core.Path.{◌≡◌, refl}
use Rattle.amounts.specs.Placed.{placed_amount, placed_plan, placed_test}
use Rattle.copies.proofs.AmountsCopied.{amount_becomes, same_keeps, test_becomes}
use Rattle.copies.proofs.Becoming.{TreesBecome, end_becomes, lying_becomes, node_becomes, row_kept}
use Rattle.copies.specs.Copied.{changed_rows}
use Rattle.copies.specs.Lies.{Lies}
use Rattle.copies.specs.Plain.{plain_last, plain_rows}
use Rattle.language.specs.Calls.{lookup_of}
use Rattle.language.specs.Limits.{max_labels}
use Rattle.language.specs.Payments.Step.{step_amount, step_index}
use Rattle.language.specs.Rules.Settings.{closed, map_plan}
use Rattle.language.specs.Rules.Table.{value_at}
use Rattle.language.specs.Text.Classes.{a_delay, a_number}
use Rattle.language.specs.Text.Form.{fields_of, fields_of_amount, fields_of_test, filled_in_form, offset_in_form}
use Rattle.language.specs.Text.Letters.{PlanLetter, amount_row, of_root, plan_form, plan_row, row_of}
use Rattle.language.specs.Text.Plans.{plan_trees}
use Rattle.language.specs.Text.Reader.{Trees, end}
use Rattle.language.specs.Text.Trees.{Amount, Plan, Test, both, index, later, months, nothing, number, scale, transfer, within}
use Rattle.language.specs.Text.Typed.{amount_tree, test_tree}
use Rattle.nodes.specs.Rows.{delay_slot, field_slots, slots_of}
use Rattle.places.specs.Place.{SpanIn, place_found}
use Rattle.steps.proofs.Changes.{placed_keeps, step_keeps}
use Rattle.steps.proofs.Restored.{offset_back}
use Rattle.steps.specs.Offsets.{restore_placed, restored_row, step_placed, stepped_row, stepped_index}
use Rattle.tables.specs.Lookup.{read_table}

module _ (h f : ℤ) (s : SpanIn h f) where
  abbrev place : ℕ → ℤ → ℤ
  place = place_found h f

  field_is : (l : ℕ) (i : ℤ) → placed_amount place (index l i) ≡ index l (place l i)
  unfolding placed_amount
  field_is l i = refl

  -- ---- restored

  index_back : (l : ℕ) (i : ℤ) → l < max_labels → offset_in_form i → (u : Trees PlanLetter) → plain_rows plan_form (amount_tree a_number (index l i) u) ≡ restore_placed h f (pos l) (place l i) ++ plain_rows plan_form u
  unfolding amount_tree plain_rows plain_last row_of amount_row slots_of field_slots restore_placed
  index_back l i b g u = rw (offset_back h f s l i b g) refl

  abbrev Back : Trees PlanLetter → Trees PlanLetter → Type 0
  Back t u = TreesBecome (restored_row h f) plan_form t u

  amount_back : (a : Amount ℤ) → fields_of_amount offset_in_form a → {r u : Trees PlanLetter} → Back r u → Back (amount_tree a_number (placed_amount place a) r) (amount_tree a_number a u)
  amount_back a g b = amount_becomes plan_form a_number (restore_placed h f) offset_in_form (placed_amount place) (placed_test place) (placed_keeps place) (λ x. x) (λ t. t) same_keeps place field_is index_back a g b

  test_back : (t : Test ℤ) → fields_of_test offset_in_form t → {r u : Trees PlanLetter} → Back r u → Back (test_tree a_number (placed_test place t) r) (test_tree a_number t u)
  test_back t g b = test_becomes plan_form a_number (restore_placed h f) offset_in_form (placed_amount place) (placed_test place) (placed_keeps place) (λ x. x) (λ t. t) same_keeps place field_is index_back t g b

  end_back : Back end end
  end_back = end_becomes (restored_row h f) plan_form

  plan_back : (x : Plan ℕ) → fields_of filled_in_form x → {r u : Trees PlanLetter} → Back r u → Back (plan_trees (closed (placed_plan place x)) r) (plan_trees (closed x) u)
  unfolding plan_trees map_plan placed_plan fields_of row_of plan_row slots_of field_slots
  plan_back nothing g b =
      node_becomes (restored_row h f) plan_form (of_root PlanLetter.Z) [] (of_root PlanLetter.Z) [] (row_kept (restore_placed h f) 90 [] end end refl refl refl) end_back b
  plan_back (transfer p q) g b =
      let fs = a_number (pos p) ∷ a_number (pos q) ∷ [] in
      node_becomes (restored_row h f) plan_form (of_root PlanLetter.T) fs (of_root PlanLetter.T) fs (row_kept (restore_placed h f) 84 (pos p ∷ pos q ∷ []) end end refl refl refl) end_back b
  plan_back (scale a x) g b =
      node_becomes (restored_row h f) plan_form (of_root PlanLetter.S) [] (of_root PlanLetter.S) [] (row_kept (restore_placed h f) 83 [] _ _ refl refl refl) (amount_back a g.0 (plan_back x g.1 end_back)) b
  plan_back (later d x) g b =
      let fs = a_delay (months d) ∷ [] in
      node_becomes (restored_row h f) plan_form (of_root PlanLetter.L) fs (of_root PlanLetter.L) fs (row_kept (restore_placed h f) 76 (delay_slot (months d) ∷ []) _ _ refl refl refl) (plan_back x g.1 end_back) b
  plan_back (both x y) g b =
      node_becomes (restored_row h f) plan_form (of_root PlanLetter.B) [] (of_root PlanLetter.B) [] (row_kept (restore_placed h f) 66 [] _ _ refl refl refl) (plan_back x g.0 (plan_back y g.1 end_back)) b
  plan_back (within d t x y) g b =
      let fs = a_delay (months d) ∷ [] in
      node_becomes (restored_row h f) plan_form (of_root PlanLetter.W) fs (of_root PlanLetter.W) fs (row_kept (restore_placed h f) 87 (delay_slot (months d) ∷ []) _ _ refl refl refl) (test_back t g.1 (plan_back x g.2 (plan_back y g.3 end_back))) b

  module _ {nodes : List ℤ} {from to : ℕ} where
    pub plan_restored : (x : Plan ℕ) → fields_of filled_in_form x → Lies nodes from to (plan_trees (closed (placed_plan place x)) end)
        → changed_rows (restored_row h f) (to - from) (drop (from * 5) nodes) ≡ plain_rows plan_form (plan_trees (closed x) end)
    plan_restored x g l = lying_becomes (restored_row h f) plan_form l (plan_back x g end_back)

    -- what stands beneath a `W`
    pub within_restored : (t : Test ℤ) (x y : Plan ℕ) → fields_of_test offset_in_form t → fields_of filled_in_form x → fields_of filled_in_form y
        → Lies nodes from to (test_tree a_number (placed_test place t) (plan_trees (closed (placed_plan place x)) (plan_trees (closed (placed_plan place y)) end)))
        → changed_rows (restored_row h f) (to - from) (drop (from * 5) nodes) ≡ plain_rows plan_form (test_tree a_number t (plan_trees (closed x) (plan_trees (closed y) end)))
    within_restored t x y a b c l = lying_becomes (restored_row h f) plan_form l (test_back t a (plan_back x b (plan_back y c end_back)))

  -- ---- stepped

  module _ (bounds values : List ℤ) (r : ℕ) where
    index_steps : (l : ℕ) (i : ℤ) → l < max_labels → offset_in_form i → (u : Trees PlanLetter)
        → plain_rows plan_form (amount_tree a_number (step_amount (lookup_of (read_table h f bounds values)) r (index l i)) u) ≡ step_placed (read_table h f bounds values) r (pos l) (place l i) ++ plain_rows plan_form u
    unfolding step_amount step_index step_placed stepped_index amount_tree plain_rows plain_last row_of amount_row slots_of field_slots
    index_steps l i b g u = rw (offset_back h f s l i b g) (go (le_z i (pos 0)))
      where
        go : (b : Bool) → plain_rows plan_form (amount_tree a_number (cond b (number (value_at (read_table h f bounds values) l (pos r +ℤ i))) (index l (pred_ℤ i))) u)
            ≡ cond b (pos 78 ∷ value_at (read_table h f bounds values) l (pos r +ℤ i) ∷ pos 0 ∷ pos 0 ∷ pos 0 ∷ []) (pos 79 ∷ pos l ∷ pred_ℤ i ∷ pos 0 ∷ pos 0 ∷ []) ++ plain_rows plan_form u
        go true = refl
        go false = refl

    pub amount_stepped : {nodes : List ℤ} {from to : ℕ} (a : Amount ℤ) → fields_of_amount offset_in_form a → Lies nodes from to (amount_tree a_number (placed_amount place a) end)
        → changed_rows (stepped_row (read_table h f bounds values) r) (to - from) (drop (from * 5) nodes) ≡ plain_rows plan_form (amount_tree a_number (step_amount (lookup_of (read_table h f bounds values)) r a) end)
    amount_stepped a g l =
        lying_becomes (stepped_row (read_table h f bounds values) r) plan_form l
        (amount_becomes plan_form a_number (step_placed (read_table h f bounds values) r) offset_in_form (placed_amount place) (placed_test place) (placed_keeps place)
        (step_amount (lookup_of (read_table h f bounds values)) r) _ (step_keeps (lookup_of (read_table h f bounds values)) r) place field_is index_steps a g (end_becomes (stepped_row (read_table h f bounds values) r) plan_form))
