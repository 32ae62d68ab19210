-- One row of a compiled payoff, as the code makes it.
use Prim.Native.Nat.{◌*◌, ℕ}
use lib.IntN.{pos, ℤ}
use lib.ListN.{length}
use mathlib.Core.Bool.{Bool, false, true}
use mathlib.Core.List.{List, [], ◌∷◌}
use mathlib.Core.Path.{◌∙◌, ◌≡◌, ap, refl}
use Rattle.compiles.specs.Months.{compiled_row, compiled_index, offset_plain}
use Rattle.copies.proofs.Appending.{row_of_lem}
use Rattle.copies.proofs.Copying.{copy_five, index_copied, other_copied}
use Rattle.integers.specs.Equal.{eq_z}
use Rattle.language.specs.Text.Number.{byte}
use Rattle.nodes.specs.Pass.{row_from}
use Rattle.nodes.specs.Table.{slot_at}

module _ (plain digits : ℤ) where
  -- every row has five numbers
  pub compile_five : (row : List ℤ) → length (compiled_row plain digits row) ≡ 5
  unfolding compiled_index
  compile_five row = copy_five (compiled_index plain digits) (λ l i. refl) row

  module _ (nodes : List ℤ) (at : ℕ) where
    abbrev holds_index : Bool
    holds_index = eq_z (slot_at nodes at 0) (pos (byte "O"))

    pub index_compiled : holds_index ≡ true → {i p : ℤ} → i ≡ slot_at nodes at 2 → p ≡ offset_plain plain i
        → pos (byte "O") ∷ slot_at nodes at 1 ∷ p ∷ digits ∷ pos 0 ∷ [] ≡ compiled_row plain digits (row_from (at * 5) nodes)
    unfolding compiled_index
    index_compiled e ei ep = row_of_lem refl refl (ep ∙ ap (offset_plain plain) ei) refl refl ∙ index_copied (compiled_index plain digits) nodes at e

    pub other_compiled : holds_index ≡ false → slot_at nodes at 0 ∷ slot_at nodes at 1 ∷ slot_at nodes at 2 ∷ pos 0 ∷ pos 0 ∷ [] ≡ compiled_row plain digits (row_from (at * 5) nodes)
    other_compiled e = other_copied (compiled_index plain digits) nodes at e
