-- One row with its place, as the code makes it.
use Prim.Native.Nat.{◌*◌, ◌+◌, ◌<◌, ◌≤◌, ℕ}
use lib.IntN.{pos, ℤ}
use lib.ListN.{drop, get_or, length, length-set, set}
use lib.Seq.{get_or-drop, get_or-take}
use mathlib.Core.Bool.{Bool, cond, false, true, true≢false}
use mathlib.Core.List.{List}
use mathlib.Core.Path.{◌∙◌, ◌≡◌, ap, ap₂, refl, sym}
use native.Mathlib.Nat.{add-zero}
use native.Mathlib.Omega.{arith}
use Rattle.integers.specs.Equal.{eq_z}
use Rattle.language.specs.Text.Number.{byte}
use Rattle.nodes.proofs.Passes.{Passing, passing_stop, row_kept, set_in_row}
use Rattle.nodes.specs.Pass.{all_rows, row_from, with_row}
use Rattle.nodes.specs.Table.{nat_of}
use Rattle.places.specs.Place.{index_placed, holds_index, place_found, placed_row, row_in}

pub place_keeps_size : (h f : ℤ) (row : List ℤ) → length (placed_row h f row) ≡ length row
unfolding placed_row
place_keeps_size h f row = go (holds_index row)
  where
    go : (b : Bool) → length (cond b (set row 2 (place_found h f (nat_of (get_or row 1 (pos 0))) (get_or row 2 (pos 0)))) row) ≡ length row
    go true = length-set row 2 (place_found h f (nat_of (get_or row 1 (pos 0))) (get_or row 2 (pos 0)))
    go false = refl

module _ (at : ℕ) (nodes : List ℤ) where
  in_row : (k : ℕ) → k < 5 → get_or (row_from at nodes) k (pos 0) ≡ get_or nodes (at + k) (pos 0)
  in_row k h = get_or-take 5 (drop at nodes) k (pos 0) h ∙ get_or-drop at nodes k (pos 0)

  -- the letter of a row, as the code finds it
  pub is_index_lem : (z : ℤ) → get_or nodes at (pos 0) ≡ z → eq_z z (pos (byte "O")) ≡ true → holds_index (row_from at nodes) ≡ true
  is_index_lem z e h = rw (in_row 0 (omega arith), add-zero at, e) h

  pub not_index : eq_z (get_or nodes at (pos 0)) (pos (byte "O")) ≡ false → holds_index (row_from at nodes) ≡ false
  not_index e = rw (in_row 0 (omega arith), add-zero at) e

  -- the fields of an `O` are in range
  pub fields_in : holds_index (row_from at nodes) ≡ true → row_in (row_from at nodes) ≡ true → index_placed (get_or nodes (at + 1) (pos 0)) (get_or nodes (at + 2) (pos 0)) ≡ true
  unfolding row_in
  fields_in e h = rw (e, in_row 1 (omega arith), in_row 2 (omega arith)) at h

  module _ (h f : ℤ) where
    abbrev place_here : ℤ
    place_here = place_found h f (nat_of (get_or nodes (at + 1) (pos 0))) (get_or nodes (at + 2) (pos 0))

    row_is : holds_index (row_from at nodes) ≡ true → placed_row h f (row_from at nodes) ≡ set (row_from at nodes) 2 place_here
    unfolding placed_row
    row_is e = rw e (ap₂ (λ x y. set (row_from at nodes) 2 (place_found h f (nat_of x) y)) (in_row 1 (omega arith)) (in_row 2 (omega arith)))

    pub row_placed : at + 5 ≤ length nodes → holds_index (row_from at nodes) ≡ true → (v : ℤ) → v ≡ place_here → set nodes (at + 2) v ≡ with_row at (placed_row h f (row_from at nodes)) nodes
    row_placed l e v p = ap (set nodes (at + 2)) p ∙ set_in_row at 2 place_here nodes (omega arith) l ∙ ap (λ row. with_row at row nodes) (sym (row_is e))

    pub row_left : holds_index (row_from at nodes) ≡ false → nodes ≡ with_row at (placed_row h f (row_from at nodes)) nodes
    unfolding placed_row
    row_left e = row_kept at nodes ∙ rw e refl

-- where all rows pass a test, so does the next
pub next_passes : (f : List ℤ → List ℤ) (p : List ℤ → Bool) (count : ℕ) (before : List ℤ) → 5 * count ≤ length before
    → {i at : ℕ} {now : List ℤ} → Passing f p count before i at now → i < count
    → all_rows p count before ≡ true → p (row_from at now) ≡ true
next_passes f p count before room {i} {at} {now} h l all = go (p (row_from at now)) refl
  where
    go : (b : Bool) → p (row_from at now) ≡ b → p (row_from at now) ≡ true
    go true e = e
    go false e = absurd (true≢false (sym all ∙ passing_stop f p count before room h l e))
