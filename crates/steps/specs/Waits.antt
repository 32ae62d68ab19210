-- A node that goes on waiting: its delay falls by one, and all beneath it is as it was.
use Rattle.std.specs.Prelude.{◌*◌, ◌+◌, ◌-◌, ℕ, pos, ℤ, drop, List, [], ◌++◌, ◌∷◌, ◌≡◌}
use Rattle.std.proofs.Math.IntN.{pred_ℤ}
use Rattle.copies.specs.Appended.{Appended}
use Rattle.copies.specs.Copied.{changed_rows}
use Rattle.nodes.specs.Table.{nat_of, slot_at}
use Rattle.steps.specs.Offsets.{restored_row}

-- the rows from node `at` up to node `to` are appended to the first `count`
pub record Waits (h f : ℤ) (before after : List ℤ) (at to count next : ℕ) : Type 0 where
  pub counted : next ≡ count + (to - at)
  pub added : Appended before after count next
      ((slot_at before at 0 ∷ pred_ℤ (pos (nat_of (slot_at before at 1))) ∷ pos 0 ∷ pos 0 ∷ pos 0 ∷ []) ++ changed_rows (restored_row h f) (to - (at + 1)) (drop ((at + 1) * 5) before))
