-- The locals of the code that reads a row in a window.
use Prim.Native.Nat.{◌<◌, ◌≤◌, ℕ}
use Rattle.integers.proofs.Locals.{rd}
use Rattle.measures.specs.Rows.{holds_index, row_reads}
use Rattle.measures.specs.declared.reads.Window.{Window}
use Rattle.nodes.specs.Table.{nat_of, slot_at}
use borrow.Author.Tests.{le-ltb, lt-ltb}
use lib.IntN.{ℤ}
use lib.Signed.{le_z}
use mathlib.Core.Bool.{Bool, ◌&&◌, false, true}
use mathlib.Core.List.{List}
use mathlib.Core.Path.{◌≡◌, refl}
use mir.Facts.{to_z-of_z}
use mir.Syntax.{w64}
use mir.Val.{SFits}

module _ (w : Window) (nodes : List ℤ) (at : ℕ) {x : Bool} (ex : x ≡ holds_index (slot_at nodes at 0)) where
  pub row_other : x ≡ false → true ≡ row_reads w nodes at
  row_other t = rw (← ex, t) refl

  -- a label that the table has, and one that it does not
  module _ (t : x ≡ true) {l : ℕ} (el : l ≡ nat_of (slot_at nodes at 1)) where
    pub row_index : (low : SFits w64 w.low) (high : SFits w64 w.high) {i : ℤ} (f : SFits w64 i) → i ≡ slot_at nodes at 2 → l < w.labels
        → (le_z (rd w.low) (rd i) && le_z (rd i) (rd w.high)) ≡ row_reads w nodes at
    row_index low high f ei h = rw (← ex, t, ← el, ← ei, to_z-of_z low, to_z-of_z high, to_z-of_z f, lt-ltb l w.labels h) refl

    pub row_unknown : w.labels ≤ l → false ≡ row_reads w nodes at
    row_unknown h = rw (← ex, t, ← el, le-ltb l w.labels h) refl
