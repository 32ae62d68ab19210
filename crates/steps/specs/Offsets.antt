-- Rows of a table in which index readings are resolved: an `O` with its offset again, and an `O` stepped.
use Rattle.std.specs.Prelude.{ℕ, ltb, ◌+ℤ◌, ◌-ℤ◌, neg_ℤ, pos, ℤ, ◌&&◌, cond, List, [], ◌∷◌}
use Rattle.std.proofs.Math.IntN.{pred_ℤ}
use Rattle.std.specs.Int.Signed.{le_z}
use Rattle.copies.specs.Copied.{copy_row}
use Rattle.language.specs.Limits.{max_labels}
use Rattle.language.specs.Rules.Table.{Table, value_at}
use Rattle.language.specs.Text.Number.{between, byte}
use Rattle.nodes.specs.Table.{nat_of}
use Rattle.places.specs.Place.{place_found}

-- no plan has a place further from 0
abbrev pub max_place : ℕ
max_place = 10_000

-- the offset of an `O` of label l that has this place; a label or a place that no plan has gives 0
unfoldable pub offset_from : ℤ → ℤ → ℕ → ℤ → ℤ
offset_from h f l place = cond (ltb l max_labels && between (neg_ℤ (pos max_place)) (pos max_place) place) (place -ℤ place_found h f l (pos 0)) (pos 0)

-- ---- rows, from a label and a place

unfoldable pub restore_placed : ℤ → ℤ → ℤ → ℤ → List ℤ
restore_placed h f label place = pos (byte "O") ∷ label ∷ offset_from h f (nat_of label) place ∷ pos 0 ∷ pos 0 ∷ []

-- for month r, by the offset: "0 or less becomes the `N` of its value, others lose one from the offset"
unfoldable pub stepped_index : Table → ℕ → ℤ → ℤ → List ℤ
stepped_index t r label i =
    cond (le_z i (pos 0)) (pos (byte "N") ∷ value_at t (nat_of label) (pos r +ℤ i) ∷ pos 0 ∷ pos 0 ∷ pos 0 ∷ [])
    (pos (byte "O") ∷ label ∷ pred_ℤ i ∷ pos 0 ∷ pos 0 ∷ [])

unfoldable pub step_placed : Table → ℕ → ℤ → ℤ → List ℤ
step_placed t r label place = stepped_index t r label (offset_from t.h t.f (nat_of label) place)

-- ---- any row

abbrev pub restored_row : ℤ → ℤ → List ℤ → List ℤ
restored_row h f = copy_row (restore_placed h f)

abbrev pub stepped_row : Table → ℕ → List ℤ → List ℤ
stepped_row t r = copy_row (step_placed t r)
