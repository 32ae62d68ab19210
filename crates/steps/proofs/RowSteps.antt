-- One row of the plan for tomorrow, as the code makes it.
use Prim.Native.Nat.{◌*◌, ℕ}
use lib.IntN.{◌+ℤ◌, pos, pred_ℤ, ℤ}
use lib.ListN.{length}
use lib.Signed.{le_z}
use mathlib.Core.Bool.{Bool, cond, false, true}
use mathlib.Core.List.{List, [], ◌∷◌}
use mathlib.Core.Path.{◌∙◌, ◌≡◌, ap, ap₂, refl, sym}
use Rattle.copies.proofs.Appending.{row_of_lem}
use Rattle.copies.proofs.Copying.{copy_five, index_copied, other_copied}
use Rattle.integers.specs.Equal.{eq_z}
use Rattle.language.specs.Rules.Table.{Table, value_at}
use Rattle.language.specs.Text.Number.{byte}
use Rattle.nodes.specs.Pass.{row_from}
use Rattle.nodes.specs.Table.{nat_of, slot_at}
use Rattle.steps.specs.Offsets.{offset_from, restore_placed, restored_row, step_placed, stepped_row, stepped_index}

-- every row has five numbers
pub restore_five : (h f : ℤ) (row : List ℤ) → length (restored_row h f row) ≡ 5
unfolding restore_placed
restore_five h f row = copy_five (restore_placed h f) (λ l i. refl) row

pub step_five : (t : Table) (r : ℕ) (row : List ℤ) → length (stepped_row t r row) ≡ 5
unfolding step_placed stepped_index
step_five t r row = copy_five (step_placed t r) five row
  where
    pick : (b : Bool) (v w x y : ℤ) → length (cond b (pos 78 ∷ v ∷ pos 0 ∷ pos 0 ∷ pos 0 ∷ []) (w ∷ x ∷ y ∷ pos 0 ∷ pos 0 ∷ [])) ≡ 5
    pick true v w x y = refl
    pick false v w x y = refl

    five : (label place : ℤ) → length (step_placed t r label place) ≡ 5
    five label place = pick (le_z (offset_from t.h t.f (nat_of label) place) (pos 0)) _ _ _ _

module _ (nodes : List ℤ) (at : ℕ) where
  abbrev holds_index : Bool
  holds_index = eq_z (slot_at nodes at 0) (pos (byte "O"))

  module _ (h f : ℤ) where
    pub index_restored : holds_index ≡ true → {l : ℕ} {p i : ℤ} → l ≡ nat_of (slot_at nodes at 1) → p ≡ slot_at nodes at 2 → i ≡ offset_from h f l p
        → pos (byte "O") ∷ slot_at nodes at 1 ∷ i ∷ pos 0 ∷ pos 0 ∷ [] ≡ restored_row h f (row_from (at * 5) nodes)
    unfolding restore_placed
    index_restored e el ep ei = row_of_lem refl refl (ei ∙ ap₂ (offset_from h f) el ep) refl refl ∙ index_copied (restore_placed h f) nodes at e

    pub other_restored : holds_index ≡ false → slot_at nodes at 0 ∷ slot_at nodes at 1 ∷ slot_at nodes at 2 ∷ pos 0 ∷ pos 0 ∷ [] ≡ restored_row h f (row_from (at * 5) nodes)
    other_restored e = other_copied (restore_placed h f) nodes at e

  module _ (t : Table) (r : ℕ) where
    pub other_stepped : holds_index ≡ false → slot_at nodes at 0 ∷ slot_at nodes at 1 ∷ slot_at nodes at 2 ∷ pos 0 ∷ pos 0 ∷ [] ≡ stepped_row t r (row_from (at * 5) nodes)
    other_stepped e = other_copied (step_placed t r) nodes at e

    module _ (e : holds_index ≡ true) {l : ℕ} {p i : ℤ} (el : l ≡ nat_of (slot_at nodes at 1)) (ep : p ≡ slot_at nodes at 2) (ei : i ≡ offset_from t.h t.f l p) where
      stepped : stepped_index t r (slot_at nodes at 1) i ≡ stepped_row t r (row_from (at * 5) nodes)
      unfolding step_placed
      stepped = ap (stepped_index t r (slot_at nodes at 1)) (ei ∙ ap₂ (offset_from t.h t.f) el ep) ∙ index_copied (step_placed t r) nodes at e

      pub value_stepped : le_z i (pos 0) ≡ true → {m v : ℤ} → m ≡ pos r +ℤ i → v ≡ value_at t l m → pos (byte "N") ∷ v ∷ pos 0 ∷ pos 0 ∷ pos 0 ∷ [] ≡ stepped_row t r (row_from (at * 5) nodes)
      unfolding stepped_index
      value_stepped d em ev = sym (rw d (row_of_lem refl (sym (ev ∙ ap₂ (value_at t) el em)) refl refl refl)) ∙ stepped

      pub index_stepped : le_z i (pos 0) ≡ false → {j : ℤ} → j ≡ pred_ℤ i → pos (byte "O") ∷ slot_at nodes at 1 ∷ j ∷ pos 0 ∷ pos 0 ∷ [] ≡ stepped_row t r (row_from (at * 5) nodes)
      unfolding stepped_index
      index_stepped d ej = sym (rw d (row_of_lem refl refl (sym ej) refl refl)) ∙ stepped
